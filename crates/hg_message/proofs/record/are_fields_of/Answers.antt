use Rattle.std.proofs.Common.{sym, ap, ◌∙◌}
use Rattle.hg_changeset.specs.declared.node.Node.{Node}
use Rattle.std.specs.Cmp.Lexicographic.{bytes_decides}
use Rattle.hg_message.specs.RecordView.{fields_of}
use Rattle.hg_message.proofs.HeldLemmas.{held_record, held_contents, not_apart}
use Rattle.hg_message.proofs.record.are_fields_of.Goals as goal

pub returns-clause-record : goal.returns-clause-record
returns-clause-record c is =
    let f = c.args.fields.now in
    let held = c.args.changeset.now in
    let parents = c.parents.ensures.parents in
    held_record (fields_of f) held c.node.ensures.changeset
    (sym c.node.ensures.id ∙ not_apart c.node.result f.id c.ne.result c.ne.ensures c.if-ne.false)
    (ap (λ (x : Node × Node). x.0) (sym parents)
    ∙ not_apart c.parents.result.0 f.p c.ne-else-ne.result c.ne-else-ne.ensures c.if-ne-2.false)
    (ap (λ (x : Node × Node). x.1) (sym parents)
    ∙ not_apart c.parents.result.1 f.q c.ne-else-ne-2.result c.ne-else-ne-2.ensures c.if-ne-3.false)
    (sym c.text.ensures.text
    ∙ (bytes_decides c.text.result.now f.text.now).0 (sym c.eq.ensures ∙ is))

pub returns-clause-same : goal.returns-clause-same
returns-clause-same c is =
    let f = c.args.fields.now in
    let parents = c.parents.ensures.parents in
    held_contents (fields_of f) c.args.changeset.now c.node.ensures.changeset
    (ap (λ (x : Node × Node). x.0) (sym parents)
    ∙ not_apart c.parents.result.0 f.p c.ne-else-ne.result c.ne-else-ne.ensures c.if-ne-2.false)
    (ap (λ (x : Node × Node). x.1) (sym parents)
    ∙ not_apart c.parents.result.1 f.q c.ne-else-ne-2.result c.ne-else-ne-2.ensures c.if-ne-3.false)
    (sym c.text.ensures.text
    ∙ (bytes_decides c.text.result.now f.text.now).0 (sym c.eq.ensures ∙ is))

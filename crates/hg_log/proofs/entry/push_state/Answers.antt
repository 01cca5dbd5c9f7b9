use Rattle.std.proofs.Common.{List, subst, ℕ}
use Rattle.hg_changeset.specs.declared.node.Node.{Node}
use Rattle.hg_log.specs.Entries.{label_text, node_text}
use Rattle.hg_log.specs.Json.{IsAppended}
use Rattle.hg_log.proofs.JsonLemmas.{then_appended}
use Rattle.hg_log.proofs.TextLemmas.{last_then}
use Rattle.hg_log.proofs.entry.push_state.Goals as goal

pub returns : goal.returns
returns c =
    let label = subst (λ (t : List ℕ). IsAppended c.args.line.now.items (label_text t) c.push_label.new.line.items)
    c.label_of.ensures c.in_ok-push_label.ensures in
    let node = subst (λ (n : Node). IsAppended c.push_unstable.new.line.items (node_text n) c.push_node.new.line.items)
    c.node.ensures.id c.in_ok-push_node.ensures in
    last_then c.push_truth_field-2.result _ _ _ _ _
    (then_appended (then_appended (then_appended label c.in_ok-push_truth_field.ensures)
    c.in_ok-push_unstable.ensures) node)
    c.push_truth_field-2.ensures

use Rattle.std.proofs.Common.{◌≡◌, Some, slice_get, sym, subst, ◌∙◌}
use Rattle.hg_changeset.specs.declared.node.Node.{Node}
use Rattle.hg_changeset.proofs.NodeLemmas.{same_node}
use Rattle.hg_node_set.proofs.last.find_if_last.Goals as goal

pub returns-in-Some : goal.returns-in-Some
returns-in-Some g c =
    let entries = c.args.table.now.entries in
    let number = c.in_ok-number.number in
    let same = same_node c.args.node c.in-Some.last.now (sym c.eq.ensures ∙ c.if-eq.true) in
    subst (λ (n : Node). slice_get entries number ≡ Some (n, c.in-Some.value.now)) (sym same)
    (sym c.in-Some.ensures.entry)

use Rattle.std.proofs.Common.{List, subst}
use Rattle.std.proofs.lemmas.Result.{IfOk-weaker}
use Rattle.hg_changeset.specs.Contents.{Contents}
use Rattle.hg_graph.specs.Graph.{Selects, IsDescendantOfOne}
use Rattle.hg_phases.specs.State.{changesets}
use Rattle.hg_instab.proofs.OrphanLemmas.{orphans-are}
use Rattle.hg_instab.proofs.orphans.orphan_nodes.Goals as goal

pub returns : goal.returns
returns c =
    let s = c.args.replica.now in
    let cs = changesets s.history in
    let obsolete = c.args.obsolete.now in
    let above = c.in_ok-above.above.items in
    let select : Selects cs (IsDescendantOfOne cs obsolete) above =
    subst (λ (ds : List Contents). Selects ds (IsDescendantOfOne ds obsolete) above) c.graph.ensures.graph
    c.in_ok-above.ensures.answer in
    let are = orphans-are s c.graph.ensures.valid obsolete above c.requires select in
    IfOk-weaker c.current_among.result _ _
    (λ found those n. (
      λ h. let x = (those n).0 h in (are n).0 (rw c.deref.ensures.value at x.0, x.1),
      λ h. let x = (are n).1 h in (those n).1 (rw c.deref.ensures.value x.0, x.1),
    )) c.current_among.ensures

use Rattle.std.proofs.Common.{subst, List}
use Rattle.std.proofs.lemmas.Result.{IfOk-weaker}
use Rattle.hg_changeset.specs.Contents.{Contents}
use Rattle.hg_graph.specs.Graph.{Selects, IsAncestorOfOne}
use Rattle.hg_phases.specs.State.{changesets}
use Rattle.hg_instab.proofs.OrphanLemmas.{suspended-are}
use Rattle.hg_instab.proofs.orphans.suspended_nodes.Goals as goal

pub returns : goal.returns
returns c =
    let s = c.args.replica.now in
    let cs = changesets s.history in
    let orphans = c.args.orphans.now in
    let below = c.in_ok-below.below.items in
    let select : Selects cs (IsAncestorOfOne cs orphans) below =
    subst (λ (ds : List Contents). Selects ds (IsAncestorOfOne ds orphans) below) c.graph.ensures.graph
    c.in_ok-below.ensures in
    let are = suspended-are s c.graph.ensures.valid orphans below c.requires select in
    IfOk-weaker c.obsolete_among.result _ _
    (λ found those n. (
      λ h. let x = (those n).0 h in (are n).0 (rw c.deref.ensures.value at x.0, x.1),
      λ h. let x = (are n).1 h in (those n).1 (rw c.deref.ensures.value x.0, x.1),
    )) c.obsolete_among.ensures

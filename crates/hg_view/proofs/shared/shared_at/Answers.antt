use Rattle.std.proofs.Common.{◌≡◌, ◌∙◌, List, Some, slice_get, sym, subst}
use Rattle.hg_changeset.specs.Contents.{Contents}
use Rattle.hg_graph.specs.Graph.{nodes}
use Rattle.hg_graph.specs.Places.{IsAt}
use Rattle.hg_phases.specs.State.{changesets}
use Rattle.hg_replica.specs.Content.{content_of}
use Rattle.hg_replica.specs.Evolution.{HasPhase}
use Rattle.hg_instab.proofs.QueryLemmas.{phase_there}
use Rattle.hg_view.proofs.shared.shared_at.Goals as goal

pub returns-in-Secret : goal.returns-in-Secret
returns-in-Secret c n at so =
    let s = c.args.replica.now in
    let told = c.in_ok-phase.ensures in
    so.1 (subst (HasPhase (content_of s) n) (told.2 ∙ c.in-Secret.is)
    (phase_there s c.graph.ensures.valid c.args.place n at told.0 told.1))

pub returns-in_default : goal.returns-in_default
returns-in_default c =
    let s = c.args.replica.now in
    let node = c.in_ok-node.node in
    let told = c.in_ok-phase.ensures in
    let at : IsAt (changesets s.history) node c.args.place =
    subst (λ (cs : List Contents). slice_get (nodes cs) c.args.place ≡ Some node) c.graph.ensures.graph
    (sym c.in_ok-node.ensures) in (
      at,
      (
        subst (HasPhase (content_of s) node) told.2
            (phase_there s c.graph.ensures.valid c.args.place node at told.0 told.1),
        c.in_default.not-Secret,
      ),
    )

use Rattle.hg_graph.proofs.MarkLemmas.{TellsFirst}
use Rattle.hg_phases.specs.declared.phase.Phase.TheVariants.{Secret}
use Rattle.hg_phases.specs.State.{changesets}
use Rattle.hg_replica.specs.Content.{content_of}
use Rattle.hg_replica.specs.Evolution.{HasPhase}
use Rattle.hg_view.proofs.shared.shared_marks.Given as goal

abbrev pub invariant-loop-place : goal.invariant-loop-place
invariant-loop-place l = TellsFirst (changesets l.replica.history)
    (λ n. ¬ (HasPhase (content_of l.replica) n Secret)) l.place l.found.items

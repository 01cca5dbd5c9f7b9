use Rattle.hg_graph.proofs.MarkLemmas.{TellsFirst}
use Rattle.hg_phases.specs.State.{changesets}
use Rattle.hg_replica.specs.Content.{content_of}
use Rattle.hg_view.specs.Pins.{CountsAsObsolete}
use Rattle.hg_view.proofs.view.shown_marks.Given as goal

abbrev pub invariant-loop-place : goal.invariant-loop-place
invariant-loop-place l = TellsFirst (changesets l.replica.history)
    (λ n. ¬ (CountsAsObsolete (content_of l.replica) l.pins n)) l.place l.marks.items

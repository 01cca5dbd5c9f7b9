use Rattle.hg_discovery.proofs.DrawLemmas.{IsCoveredTo}
use Rattle.hg_discovery.proofs.draw.covered.Given as goal

abbrev pub invariant-loop-place : goal.invariant-loop-place
invariant-loop-place l = IsCoveredTo l.parents l.decided l.so l.place l.marks.items

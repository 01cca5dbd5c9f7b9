use Rattle.hg_log.specs.Drawings.{Extends}
use Rattle.hg_why.proofs.told.push_ways.Given as goal

abbrev pub invariant-loop-place : goal.invariant-loop-place
invariant-loop-place l = Extends l.initial.line.items l.line.items

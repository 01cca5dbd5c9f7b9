use Rattle.hg_log.specs.Columns.{AreFound}
use Rattle.hg_log.proofs.columns.find.Given as goal

abbrev pub invariant-loop-column : goal.invariant-loop-column
invariant-loop-column l = AreFound l.places l.place l.parents l.found

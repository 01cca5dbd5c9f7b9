use Rattle.std.proofs.Common.{◌≡◌, length}
use Rattle.hg_phases.proofs.OpenLemmas.{AreOpenedTo}
use Rattle.hg_phases.proofs.open.phases_under.Given as goal

abbrev pub invariant-loop-place : goal.invariant-loop-place
invariant-loop-place l = (length l.phases.items ≡ l.place) × AreOpenedTo l.graph l.roots l.phases.items

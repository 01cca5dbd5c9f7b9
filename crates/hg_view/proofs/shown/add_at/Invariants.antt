use Rattle.std.proofs.Common.{take}
use Rattle.hg_instab.specs.Walk.{Adds}
use Rattle.hg_view.specs.Shown.{IsAtOne}
use Rattle.hg_view.proofs.shown.add_at.Given as goal

abbrev pub invariant-loop-place : goal.invariant-loop-place
invariant-loop-place l = Adds (IsAtOne l.graph (take l.place-index l.places)) l.fn.met.keys l.met.keys

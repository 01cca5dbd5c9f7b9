use Rattle.std.proofs.Common.{All, Contains, take}
use Rattle.hg_obsstore.proofs.store.Store.is_below.Given as goal

abbrev pub invariant-loop-marker : goal.invariant-loop-marker
invariant-loop-marker l = All (Contains l.other) (take l.marker-index l.self)

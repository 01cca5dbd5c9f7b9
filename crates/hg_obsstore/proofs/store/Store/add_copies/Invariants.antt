use Rattle.std.proofs.Common.{◌≡◌, drop}
use Rattle.hg_obsstore.specs.Growth.{StartsWith, united}
use Rattle.hg_obsstore.proofs.store.Store.add_copies.Given as goal

abbrev pub invariant-loop-marker : goal.invariant-loop-marker
invariant-loop-marker l =
    StartsWith l.initial.self l.self × (united l.self (drop l.marker-index l.markers) ≡ united l.initial.self l.markers)

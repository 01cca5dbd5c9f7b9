use Rattle.std.proofs.Common.{◌≡◌}
use Rattle.hg_obsstore.specs.Growth.{StartsWith, united}
use Rattle.hg_obsstore.proofs.store.Store.add_owned.Given as goal

-- what is held, with what is left to add, is all that there is
abbrev pub invariant-loop-marker : goal.invariant-loop-marker
invariant-loop-marker l =
    StartsWith l.fn.self l.self × (united l.self l.marker-iterator.rest.items ≡ united l.fn.self l.fn.markers.items)

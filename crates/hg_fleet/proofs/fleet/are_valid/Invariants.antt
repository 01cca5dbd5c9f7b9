use Rattle.std.proofs.Common.{◌≡◌, ◌<◌, ℕ, Some, slice_get}
use Rattle.hg_replica.specs.State.{IsValid}
use Rattle.hg_view.specs.Kept.{KeptValue}
use Rattle.hg_fleet.proofs.fleet.are_valid.Given as goal

-- those that were looked at are valid
abbrev pub invariant-loop-peer : goal.invariant-loop-peer
invariant-loop-peer l = (place : ℕ) (peer : KeptValue) → place < l.peer-index → slice_get l.peers place ≡ Some peer
    → IsValid peer.replica

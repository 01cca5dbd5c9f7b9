use Rattle.std.proofs.Common.{◌≡◌, ◌≤◌, ℕ, length}
use Rattle.hg_obsstore.specs.Faults.{markers_at, with_front}
use Rattle.hg_obsstore.proofs.format.read_to_end.Given as goal

-- what was read, with what is left to read, is all that there is
abbrev pub invariant-loop-rest : goal.invariant-loop-rest
invariant-loop-rest l =
    (length l.rest ≤ length l.bytes)
    × ((total : ℕ)
    → (limit : ℕ) × (length l.rest ≤ limit)
    × (with_front l.markers.items (markers_at total limit l.rest) ≡ markers_at total (length l.bytes) l.bytes))

abbrev pub decreases-loop-rest : goal.decreases-loop-rest
decreases-loop-rest l = length l.rest

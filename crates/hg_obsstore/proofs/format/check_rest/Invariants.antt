use Rattle.std.proofs.Common.{◌≡◌, ◌≤◌, ℕ, List, length}
use Rattle.hg_marker.specs.Fields.{Fields}
use Rattle.hg_obsstore.specs.Faults.{markers_at, with_front}
use Rattle.hg_obsstore.proofs.format.check_rest.Given as goal

-- some markers, with what is left to check, are all that there is
abbrev pub invariant-loop-rest : goal.invariant-loop-rest
invariant-loop-rest l = (front : List Fields) × (limit : ℕ) × (length l.rest ≤ limit)
    × (with_front front (markers_at l.total limit l.rest) ≡ markers_at l.total (length l.bytes) l.bytes)

abbrev pub decreases-loop-rest : goal.decreases-loop-rest
decreases-loop-rest l = length l.rest

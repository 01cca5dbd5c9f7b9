use Rattle.std.proofs.Common.{◌≡◌, ◌≤◌, length}
use Rattle.hg_marker.specs.Metadata.{pieces}
use Rattle.hg_marker.proofs.pieces.first_piece.Given as goal

abbrev pub invariant-loop-rest : goal.invariant-loop-rest
invariant-loop-rest l = (pieces l.bytes ≡ pieces l.rest) × (length l.rest ≤ length l.bytes)

abbrev pub decreases-loop-rest : goal.decreases-loop-rest
decreases-loop-rest l = length l.rest

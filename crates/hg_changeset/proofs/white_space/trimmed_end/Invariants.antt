use Rattle.std.proofs.Common.{◌≡◌, ◌≤◌, ◌+◌, take, length}
use Rattle.std.specs.List.{suffix_len}
use Rattle.hg_changeset.specs.WhiteSpace.{cut_bytes, is_one_of}
use Rattle.hg_changeset.proofs.white_space.trimmed_end.Given as goal

abbrev pub invariant-loop-len : goal.invariant-loop-len
invariant-loop-len l = (l.len ≤ length l.bytes)
    × (l.len + suffix_len (is_one_of (cut_bytes l.cut)) l.bytes
    ≡ length l.bytes + suffix_len (is_one_of (cut_bytes l.cut)) (take l.len l.bytes))

abbrev pub decreases-loop-len : goal.decreases-loop-len
decreases-loop-len l = l.len

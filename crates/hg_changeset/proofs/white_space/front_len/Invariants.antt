use Rattle.std.proofs.Common.{◌≡◌, ◌+◌, drop}
use Rattle.std.specs.List.{prefix_len}
use Rattle.hg_changeset.specs.WhiteSpace.{cut_bytes, is_one_of}
use Rattle.hg_changeset.proofs.white_space.front_len.Given as goal

abbrev pub invariant-loop-i : goal.invariant-loop-i
invariant-loop-i l = l.i + prefix_len (is_one_of (cut_bytes l.cut)) (drop l.i l.bytes)
    ≡ prefix_len (is_one_of (cut_bytes l.cut)) l.bytes

use Rattle.std.proofs.Common.{◌≡◌, ◌≤◌, ◌+◌, ◌-◌, ◌^◌, min}
use Rattle.hg_changeset.specs.EntryValue.{extra_bytes}
use Rattle.hg_changeset.specs.Lengths.{len_without}
use Rattle.hg_changeset.proofs.extras.extras_len.Given as goal

abbrev pub invariant-loop-key : goal.invariant-loop-key
invariant-loop-key l = (l.len ≤ 2 ^ 64 - 1)
    × (min (l.len + len_without l.left_out (extra_bytes l.key-iterator)) (2 ^ 64 - 1)
    ≡ min (len_without l.left_out (extra_bytes l.extra.entries)) (2 ^ 64 - 1))

use Rattle.std.proofs.Common.{◌≤◌, ◌+◌, ◌-◌, ◌^◌, None, min}
use Rattle.hg_changeset.specs.EntryValue.{extra_bytes}
use Rattle.hg_changeset.specs.Lengths.{len_without}
use Rattle.hg_changeset.proofs.extras.extras_len_bound.Given as goal

abbrev pub invariant-loop-key : goal.invariant-loop-key
invariant-loop-key l = min (len_without None (extra_bytes l.extra.entries)) (2 ^ 64 - 1)
    ≤ min (l.len + len_without None (extra_bytes l.key-iterator)) (2 ^ 64 - 1)

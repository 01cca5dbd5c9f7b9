use Rattle.std.proofs.Common.{◌≡◌, ◌-◌, ◌^◌, min, length, take}
use Rattle.std.specs.List.{flat_map}
use Rattle.hg_changeset.specs.Extras.{escape}
use Rattle.hg_changeset.proofs.extras.escaped_len.Given as goal

abbrev pub invariant-loop-b : goal.invariant-loop-b
invariant-loop-b l = l.len ≡ min (length (flat_map escape (take l.b-index l.bytes))) (2 ^ 64 - 1)

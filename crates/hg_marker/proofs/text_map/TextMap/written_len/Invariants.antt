use Rattle.std.proofs.Common.{◌≡◌, ◌+◌, ◌-◌, ◌^◌, ◌≤◌, min}
use Rattle.hg_marker.specs.Texts.{entry_bytes}
use Rattle.hg_marker.proofs.ReadLemmas.{weight}
use Rattle.hg_marker.proofs.text_map.TextMap.written_len.Given as goal

abbrev pub invariant-loop-key : goal.invariant-loop-key
invariant-loop-key l =
    (l.len ≤ 2 ^ 64 - 1)
    × (min (l.len + weight (entry_bytes l.key-iterator)) (2 ^ 64 - 1)
    ≡ min (weight (entry_bytes l.initial.key-iterator)) (2 ^ 64 - 1))

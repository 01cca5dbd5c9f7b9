use Rattle.std.proofs.Common.{◌≡◌, ◌++◌, take}
use Rattle.std.specs.List.{flat_map}
use Rattle.hg_log.specs.Json.{byte_text}
use Rattle.hg_log.proofs.json.push_bytes.Given as goal

abbrev pub invariant-loop-byte : goal.invariant-loop-byte
invariant-loop-byte l =
    l.line.items ≡ l.initial.line.items ++ flat_map (byte_text l.is_text) (take l.byte-index l.bytes)

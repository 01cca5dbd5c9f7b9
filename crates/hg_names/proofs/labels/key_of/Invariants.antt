use Rattle.std.proofs.Common.{◌≡◌, ◌<◌, take}
use Rattle.hg_names.specs.Labels.{digits_behind}
use Rattle.hg_names.proofs.DigitLemmas.{bound_of}
use Rattle.hg_names.proofs.labels.key_of.Given as goal

abbrev pub invariant-loop-byte : goal.invariant-loop-byte
invariant-loop-byte l = record {
  key : l.key ≡ digits_behind 1 (take l.byte-index l.label);
  below : l.key < bound_of (take l.byte-index l.label);
}

use Rattle.std.proofs.Common.{All, IsSome, string_bytes, take}
use Rattle.hg_line.specs.Lines.{ids}
use Rattle.hgfleet.proofs.fates.unknown_label.Given as goal

abbrev pub invariant-loop-label : goal.invariant-loop-label
invariant-loop-label l = All (λ label. IsSome (ids l.fleet (string_bytes label))) (take l.label-index l.labels)

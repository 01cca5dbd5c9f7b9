use Rattle.std.proofs.Common.{All, take}
use Rattle.hgfleet.specs.Trying.{IsMessageTaken}
use Rattle.hgfleet.proofs.trying.are_taken.Given as goal

abbrev pub invariant-loop-answer : goal.invariant-loop-answer
invariant-loop-answer l = All IsMessageTaken (take l.answer-index l.answers)

-- What is answered, by what the parser gives.
use Rattle.std.proofs.Common.{◌≡◌, List, Option, Some, Ok, subst}
use Rattle.clap.specs.Words.{Kinds, Row, Text}
use Rattle.hgfleet.proofs.NumberLemmas.{size_met}
use Rattle.hgfleet.specs.Arguments.{AnswerBy, AskFor}
use Rattle.hgfleet.specs.declared.arguments.Wanted.{Wanted}
use Rattle.hgfleet.specs.declared.arguments.Wanted.TheVariants.{Run, RunWithNotes, Race, Log, Show, Write, Why, Fate}
use Rattle.hgfleet.specs.declared.arguments.Wanted.TheVariants.{Help, Version, Try, Compare, Check}

asked : (faults : Kinds) (met : Option (Text × List Row)) (words : List Text) (wanted : Wanted)
    → AskFor faults met (Some wanted) → AnswerBy faults met words (Ok wanted)
asked faults met words Run h = absurd h.1
asked faults met words (RunWithNotes explains traces is_strict) h = (h, tt)
asked faults met words (Race nodes rounds) h = (h, size_met met nodes rounds h.1)
asked faults met words (Log nodes shows_hidden picture line) h = (h, tt)
asked faults met words (Show form) h = (h, tt)
asked faults met words (Write form name) h = (h, tt)
asked faults met words (Why nodes) h = (h, tt)
asked faults met words (Fate labels) h = (h, tt)
asked faults met words (Try trial) h = (h, tt)
asked faults met words (Compare first second) h = (h, tt)
asked faults met words (Check fills explains) h = (h, tt)
asked faults met words (Help e) h = absurd h.1
asked faults met words (Version e) h = absurd h.1

-- what the command that was met asks for is the answer
pub answer_met : (faults : Kinds) (met : Option (Text × List Row)) (words : List Text) (wanted : Wanted)
    (given : Option Wanted) → given ≡ Some wanted → AskFor faults met given → AnswerBy faults met words (Ok wanted)
answer_met faults met words wanted given is h =
    asked faults met words wanted (subst (λ (o : Option Wanted). AskFor faults met o) is h)

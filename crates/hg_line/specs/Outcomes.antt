-- What a command was answered, and what it shows beside that.
use Rattle.std.specs.Prelude.{ℕ, ◌≡◌, ◌↔◌, List, [], ◌∷◌, Option, Some, Bool, IsTrue}
use Rattle.hg_replica.specs.State.{IsSameState}
use Rattle.hg_view.specs.Kept.{KeptValue}
use Rattle.hg_fleet.specs.Pulls.{answers_of}
use Rattle.hg_line.specs.declared.command.Command.{Command}
use Rattle.hg_line.specs.declared.command.Command.TheVariants as command
use Rattle.hg_line.specs.declared.command_fault.CommandFault.{CommandFault}
use Rattle.hg_line.specs.declared.fleet.Fleet.{Fleet}
use Rattle.hg_line.specs.declared.line_outcome.LineOutcome.{LineOutcome}
use Rattle.hg_line.specs.declared.line_outcome.LineOutcome.TheVariants.{Nothing, Event, Taken, Pulled}
use Rattle.hg_line.specs.Commands.{Text}
use Rattle.hg_line.specs.Endings.{IsFaultOf}
use Rattle.hg_line.specs.Events.{Trace, PeerAnswer, Ran}
use Rattle.hg_line.specs.Outputs.{Printed}
use Rattle.hg_line.specs.Printing.{agree_line, Prints, PrintsLine, ShowsLine}
use Rattle.hg_line.specs.Reports.{IsReport}
use Rattle.hg_line.specs.Lines.{Does, DoesLine, node_named}

-- the answers to the events of a line
abbrev pub outcome_answers : LineOutcome → List PeerAnswer
outcome_answers Nothing = []
outcome_answers (Event at answer) = answer ∷ []
outcome_answers (Taken at message answer) = answer ∷ []
outcome_answers (Pulled at pulled) = answers_of pulled

-- what a command shows that asks for no event: a report, or whether two replicas are in the same state
abbrev pub Shows : Fleet → Command → Trace → Text → Type 0
Shows f (command.Report at) t text =
    (t.answers ≡ []) × ((state : KeptValue) × (node_named f at.now ≡ Some state) × IsReport at.now state text)
Shows f (command.Agree one other) t text =
    (t.answers ≡ [])
    × ((first : KeptValue) × (second : KeptValue) × (answer : Bool) × (node_named f one.now ≡ Some first)
    × (node_named f other.now ≡ Some second) × (IsTrue answer ↔ IsSameState first.replica second.replica)
    × (text ≡ agree_line one.now other.now answer))
Shows f _ t text = text ≡ []

-- the command is done and was answered so
abbrev pub IsAskedOf : Fleet → Command → LineOutcome → Fleet → Type 0
IsAskedOf old command outcome new = (t : Trace) × (outcome_answers outcome ≡ t.answers) × Does old command t new

-- the same, and what the writer holds grew by what it shows
abbrev pub IsAnswered : Fleet → Command → LineOutcome → Fleet → Option Text → Option Text → Type 0
IsAnswered old command outcome new held holds =
    (t : Trace) × (text : Text) × (outcome_answers outcome ≡ t.answers) × Does old command t new
    × Shows old command t text × Printed held text holds

-- the command of the line with this number is done and was answered so, and what the writer holds grew by what it
-- prints
abbrev pub IsDone : ℕ → Fleet → Command → LineOutcome → Fleet → Option Text → Option Text → Type 0
IsDone line old command outcome new held holds =
    (t : Trace) × (text : Text) × (outcome_answers outcome ≡ t.answers) × Does old command t new
    × Prints line old command t text × Printed held text holds

-- the line with this number is done and was answered so, and shows this, whatever it prints
abbrev pub IsLineShown : Bool → ℕ → Fleet → Text → LineOutcome → Fleet → Text → Type 0
IsLineShown alone number old line outcome new text =
    (t : Trace) × (output : Text) × DoesLine old line t new × PrintsLine number old line t output
    × ShowsLine alone number old line t text × (outcome_answers outcome ≡ t.answers)

-- the command ended so, and what the world did until then is a run
abbrev pub IsEndedBy : Fleet → Command → CommandFault → Fleet → Type 0
IsEndedBy old command fault new = IsFaultOf old command fault × ((t : Trace) × Ran old.world t new.world)

-- How a script is stopped before its last line is done, and what was written until then.
use Rattle.std.specs.Prelude.{ℕ, ◌≡◌, ◌⊎◌, ◌<◌, ◌+◌, List, [], ◌∷◌, ◌++◌, length, count_by, Option, IfSome}
use Rattle.std.specs.Str.Lines.{lines}
use Rattle.hg_line.specs.declared.fault.RunFault.{RunFault}
use Rattle.hg_line.specs.declared.fault.RunFault.TheVariants.{Line, ScriptTooLong, Read, Write, NoMemory}
use Rattle.hg_line.specs.declared.fleet.Fleet.{Fleet}
use Rattle.hg_line.specs.declared.telling.Notes.{Notes}
use Rattle.hg_line.specs.Commands.{Text}
use Rattle.hg_line.specs.Endings.{IsOfLine}
use Rattle.hg_line.specs.Events.{Trace}
use Rattle.hg_line.specs.Outputs.{Printed}
use Rattle.hg_line.specs.Lines.{IsNewFleet}
use Rattle.hg_line.specs.Stops.{StopsAt}
use Rattle.hg_line.specs.Words.{has_node}
use Rattle.hg_script.specs.Limits.{script_limit}
use Rattle.hg_script.specs.Printing.{WritesLines}
use Rattle.hg_script.specs.Scripts.{IsScriptOf}

-- the lines before one were done, and this one ended the script; the first has this number. What the writer holds grew
-- by what was written of those before, and then by what this one wrote until it ended: by nothing, where its own fault
-- ended it
pub record StopsAmong (notes : Notes) (number : ℕ) (old : Fleet) (all : List Text) (fault : RunFault)
    (held holds : Option Text) : Type 0 where
  pub before : List Text
  pub line : Text
  pub after : List Text
  pub divided : all ≡ before ++ line ∷ after
  pub trace : Trace
  pub mid : Fleet
  pub output : Text
  pub did : WritesLines notes number old before trace mid output
  pub ends : StopsAt notes (length before + number) mid line fault
  pub more : Text
  pub own : IsOfLine fault → more ≡ []
  pub printed : Printed held (output ++ more) holds

-- the script was stopped at a line by this fault, from a new fleet on, with a peer for each line whose first word is
-- `node`; lines count from 1
pub record IsStoppedBy (notes : Notes) (text : Text) (fault : RunFault) (held holds : Option Text) : Type 0 where
  pub start : Fleet
  pub is_new : IsNewFleet (count_by has_node (lines text)) start
  pub stops : StopsAmong notes 1 start (lines text) fault held holds

-- memory was wanting before the first line, and nothing was written
abbrev pub IsUnbegun : RunFault → Option Text → Option Text → Type 0
IsUnbegun fault held holds = (fault ≡ NoMemory) × (holds ≡ held)

-- the script was stopped by this fault: at a line, or before the first one, and then nothing was written
abbrev pub IsStop : Notes → Option Text → RunFault → Option Text → Option Text → Type 0
IsStop notes known (Line number fault) held holds =
    (text : Text) × IsScriptOf known text × IsStoppedBy notes text (Line number fault) held holds
IsStop notes known ScriptTooLong held holds = IfSome known (λ bytes. script_limit < length bytes) × (holds ≡ held)
IsStop notes known Read held holds = holds ≡ held
IsStop notes known Write held holds =
    (text : Text) × IsScriptOf known text × IsStoppedBy notes text Write held holds
IsStop notes known NoMemory held holds =
    (holds ≡ held) ⊎ ((text : Text) × IsScriptOf known text × IsStoppedBy notes text NoMemory held holds)

-- What is written of a script.
use Rattle.std.specs.Prelude.{ℕ, ◌≡◌, ◌+◌, List, [], ◌∷◌, ◌++◌, Option}
use Rattle.std.specs.Str.Lines.{lines}
use Rattle.hg_view.specs.Kept.{KeptValue}
use Rattle.hg_world.specs.Runs.{Snapshot}
use Rattle.hg_line.specs.declared.fleet.Fleet.{Fleet}
use Rattle.hg_line.specs.declared.telling.Notes.{Notes}
use Rattle.hg_line.specs.Commands.{Text}
use Rattle.hg_line.specs.Events.{Trace, no_trace, joined, refusals}
use Rattle.hg_line.specs.Outputs.{Printed}
use Rattle.hg_line.specs.Printing.{WritesLine}
use Rattle.hg_script.specs.Scripts.{IsRunOf, IsScriptOf}

-- the lines, the first of which has this number, are done one after another, and what they show is written so
abbrev pub WritesLines : Notes → ℕ → Fleet → List Text → Trace → Fleet → Text → Type 0
WritesLines notes number old [] t new written = (t ≡ no_trace) × (new ≡ old) × (written ≡ [])
WritesLines notes number old (line ∷ lines) t new written =
    (mid : Fleet) × (here : Trace) × (later : Trace) × (first : Text) × (rest : Text)
    × WritesLine notes number old line here mid first × WritesLines notes (number + 1) mid lines later new rest
    × (t ≡ joined here later) × (written ≡ first ++ rest)

-- the script leaves the world so, and what the writer holds grew by what is written of its lines, which count from 1
pub record WritesRun (notes : Notes) (text : Text) (world : Snapshot KeptValue)
    (held holds : Option Text) : Type 0 where
  pub run : IsRunOf text world
  pub output : Text
  pub writes : WritesLines notes 1 run.start (lines text) run.trace run.end output
  pub printed : Printed held output holds

-- the same of the script that was read
abbrev pub WritesScript : Notes → Option Text → Snapshot KeptValue → Option Text → Option Text → Type 0
WritesScript notes known world held holds =
    (text : Text) × IsScriptOf known text × WritesRun notes text world held holds

-- the same, where so many of the script's events were refused
abbrev pub WritesCounted : Notes → Option Text → Snapshot KeptValue → ℕ → Option Text → Option Text → Type 0
WritesCounted notes known world refused held holds =
    (text : Text) × IsScriptOf known text
    × ((written : WritesRun notes text world held holds) × (refused ≡ refusals written.run.trace))

-- What each line of a script prints, line by line.
use Rattle.std.specs.Prelude.{ℕ, ◌≡◌, ◌+◌, List, [], ◌∷◌}
use Rattle.std.specs.Str.Lines.{lines}
use Rattle.hg_view.specs.Kept.{KeptValue}
use Rattle.hg_world.specs.Runs.{Snapshot}
use Rattle.hg_line.specs.declared.fleet.Fleet.{Fleet}
use Rattle.hg_line.specs.Commands.{Text}
use Rattle.hg_line.specs.Events.{Trace, no_trace, joined}
use Rattle.hg_line.specs.Printing.{PrintsLine}
use Rattle.hg_line.specs.Lines.{DoesLine}
use Rattle.hg_script.specs.Scripts.{IsRunOf}

-- the lines, the first of which has this number, are done one after another, and each prints what stands at its place
abbrev pub PrintsLines : ℕ → Fleet → List Text → Trace → Fleet → List Text → Type 0
PrintsLines number old [] t new outputs = (t ≡ no_trace) × (new ≡ old) × (outputs ≡ [])
PrintsLines number old (line ∷ lines) t new outputs =
    (mid : Fleet) × (here : Trace) × (later : Trace) × (first : Text) × (rest : List Text) × DoesLine old line here mid
    × PrintsLine number old line here first × PrintsLines (number + 1) mid lines later new rest
    × (t ≡ joined here later) × (outputs ≡ first ∷ rest)

-- the lines of the script, which count from 1, print these when it is run
abbrev pub PrintsEach : Text → List Text → Type 0
PrintsEach text outputs =
    (world : Snapshot KeptValue) × (run : IsRunOf text world)
    × PrintsLines 1 run.start (lines text) run.trace run.end outputs

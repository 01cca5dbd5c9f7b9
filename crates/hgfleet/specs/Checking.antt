-- What is printed of a script that is checked, and why that ends early.
use Rattle.std.specs.Prelude.{ℕ, ◌≡◌, ◌⊎◌, ◌≤◌, List, Bool, true, false, None, Option, count_by}
use Rattle.std.specs.Io.KnownBytes.{Appends}
use Rattle.std.specs.Str.Lines.{lines}
use Rattle.hg_expect.specs.declared.checking.Checked.{Checked}
use Rattle.hg_expect.specs.Filled.{account, differing, filled_text, told}
use Rattle.hg_log.specs.Drawings.{Text}
use Rattle.hg_line.specs.declared.fault.RunFault.TheVariants.{NoMemory, Write}
use Rattle.hg_script.specs.ByLine.{PrintsEach}
use Rattle.hg_line.specs.Printing.{no_notes}
use Rattle.hg_script.specs.Scripts.{IsScriptOf}
use Rattle.hg_script.specs.Stops.{IsStop}
use Rattle.hgfleet.specs.declared.failure.Failure.{Failure}
use Rattle.hgfleet.specs.declared.failure.Failure.TheVariants.{Run, Unmet}

-- the script is what was to be read, where that is known, and its lines print these
abbrev pub PrintsScript : Option Text → Text → List Text → Type 0
PrintsScript known text outputs = IsScriptOf known text × PrintsEach text outputs

-- what is told of a script that was checked
abbrev pub told_of : Checked → Text
told_of checked = account checked.lines checked.differ checked.hunks.items

-- the script is written with what its lines print behind each; or it is told that no line differs
abbrev pub IsCheck : Bool → Option Text → Option Text → Option Text → Type 0
IsCheck true known held holds =
    (text : Text) × (outputs : List Text) × PrintsScript known text outputs
    × Appends held holds (filled_text text outputs)
IsCheck false known held holds =
    (text : Text) × (outputs : List Text) × PrintsScript known text outputs
    × (differing 1 (lines text) outputs ≡ 0) × Appends held holds (told text outputs)

-- a check ends so: the script was stopped, or there are no keys for it, and nothing was written; or a write failed, or
-- memory was wanting; or it is told in what so many lines differ
abbrev pub EndsCheck : Bool → Option Text → Option Text → Option Text → Failure → Type 0
EndsCheck fills known held holds (Run fault) =
    (IsStop no_notes known fault None None × (holds ≡ held)) ⊎ ((fault ≡ Write) ⊎ (fault ≡ NoMemory))
EndsCheck fills known held holds (Unmet count) =
    (fills ≡ false)
    × ((text : Text) × (outputs : List Text) × PrintsScript known text outputs
    × (count ≡ differing 1 (lines text) outputs) × (1 ≤ count) × Appends held holds (told text outputs))
EndsCheck fills known held holds _ = ⊥

-- of a script that was checked, this is written: as it is filled in, or that no line differs
abbrev pub IsCheckWritten : Bool → Checked → Option Text → Option Text → Type 0
IsCheckWritten true checked held holds = Appends held holds checked.filled.items
IsCheckWritten false checked held holds = (checked.differ ≡ 0) × Appends held holds (told_of checked)

-- that ends so: a line differs, and it is told in what; or a write failed, or memory was wanting
abbrev pub EndsWriting : Bool → Checked → Option Text → Option Text → Failure → Type 0
EndsWriting fills checked held holds (Run fault) = (fault ≡ Write) ⊎ (fault ≡ NoMemory)
EndsWriting fills checked held holds (Unmet count) =
    (fills ≡ false) × (count ≡ checked.differ) × (1 ≤ count) × Appends held holds (told_of checked)
EndsWriting fills checked held holds _ = ⊥

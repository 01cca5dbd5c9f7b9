-- How a line with notes ends a script.
use Rattle.std.specs.Prelude.{ℕ, ◌≡◌, ◌≢◌, ◌⊎◌, []}
use Rattle.hg_line.specs.declared.fault.RunFault.{RunFault}
use Rattle.hg_line.specs.declared.fault.RunFault.TheVariants.{Write}
use Rattle.hg_line.specs.declared.fleet.Fleet.{Fleet}
use Rattle.hg_line.specs.declared.telling.Notes.{Notes}
use Rattle.hg_line.specs.Commands.{Text}
use Rattle.hg_line.specs.Endings.{EndsAt}
use Rattle.hg_line.specs.Events.{Trace}
use Rattle.hg_line.specs.Printing.{WritesLine, no_notes}

-- the line with this number is done, and what is written of it isn't empty
abbrev pub WritesSome : Notes → ℕ → Fleet → Text → Type 0
WritesSome notes number f line =
    (t : Trace) × (new : Fleet) × (written : Text) × WritesLine notes number f line t new written × (written ≢ [])

-- how the line with this number can end the script that is run with these notes: as it ends any script, but by a write
-- fault, where there are notes, only once it is done
abbrev pub StopsAt : Notes → ℕ → Fleet → Text → RunFault → Type 0
StopsAt notes number f line Write =
    ((notes ≡ no_notes) × EndsAt number f line Write) ⊎ WritesSome notes number f line
StopsAt notes number f line fault = EndsAt number f line fault

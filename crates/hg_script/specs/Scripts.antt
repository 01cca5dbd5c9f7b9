-- What a script does to a fleet, line by line.
use Rattle.std.specs.Prelude.{◌≡◌, ◌≤◌, List, [], ◌∷◌, length, count_by, Option, IfSome}
use Rattle.std.specs.Str.Lines.{lines}
use Rattle.hg_view.specs.Kept.{KeptValue}
use Rattle.hg_world.specs.Runs.{Snapshot}
use Rattle.hg_line.specs.declared.fleet.Fleet.{Fleet}
use Rattle.hg_line.specs.Commands.{Text}
use Rattle.hg_line.specs.Events.{Trace, no_trace, joined, Ran}
use Rattle.hg_line.specs.Lines.{DoesLine, IsNewFleet}
use Rattle.hg_line.specs.Words.{has_node}
use Rattle.hg_script.specs.Limits.{script_limit}

-- the lines are done one after another
abbrev pub DoesLines : Fleet → List Text → Trace → Fleet → Type 0
DoesLines old [] t new = (t ≡ no_trace) × (new ≡ old)
DoesLines old (line ∷ lines) t new =
    (mid : Fleet) × (here : Trace) × (later : Trace) × DoesLine old line here mid × DoesLines mid lines later new
    × (t ≡ joined here later)

-- the script leaves the world so: its lines were done from a new fleet on, with a peer for each line whose first word
-- is `node`, and all events together are one run of the world
pub record IsRunOf (text : Text) (world : Snapshot KeptValue) : Type 0 where
  pub start : Fleet
  pub is_new : IsNewFleet (count_by has_node (lines text)) start
  pub trace : Trace
  pub end : Fleet
  pub did : DoesLines start (lines text) trace end
  pub ended : end.world ≡ world
  pub ran : Ran start.world trace world

-- the script leaves the fleet so: its world, and what its names stand for
abbrev pub IsRunTo : Text → Fleet → Type 0
IsRunTo text fleet = (run : IsRunOf text fleet.world) × (run.end ≡ fleet)

-- the script that was read: no longer than a script may be, and what the reader had where that is known
abbrev pub IsScriptOf : Option Text → Text → Type 0
IsScriptOf known text = (length text ≤ script_limit) × IfSome known (λ bytes. bytes ≡ text)

-- the world is as the script leaves it
abbrev pub IsLeftWorld : Option Text → Snapshot KeptValue → Type 0
IsLeftWorld known world = (text : Text) × IsScriptOf known text × IsRunOf text world

-- the fleet is as the script leaves it
abbrev pub IsLeftFleet : Option Text → Fleet → Type 0
IsLeftFleet known fleet = (text : Text) × IsScriptOf known text × IsRunTo text fleet

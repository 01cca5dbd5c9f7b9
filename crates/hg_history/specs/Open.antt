-- What `open` answers.
use Rattle.std.specs.Prelude.{List, [], Result, Ok, Err, ◌⊎◌}
use Rattle.hg_changeset.specs.declared.node.Node.{Node}
use Rattle.hg_changeset.specs.Contents.{Contents}
use Rattle.hg_phases.specs.declared.phase.Phase.{Phase}
use Rattle.hg_phases.specs.State.{State, state_of}
use Rattle.hg_phases.specs.Least.{PartValue, IsAdmitted}
use Rattle.hg_phases.specs.Roots.{IsOpened}
use Rattle.hg_history.specs.declared.fault.Fault.{Fault}
use Rattle.hg_history.specs.Change.{unheld}
use Rattle.hg_history.specs.Answer.{IsRefusal, IsGrowthBeforeFault}

-- the part that is changesets alone
abbrev pub changesets_alone : List Contents → PartValue
changesets_alone cs = record { changesets = cs; bounds = [] }

-- the answer to `open` with these changesets and listed roots: each changeset once, at its first place, with the
-- highest phase that the roots give it; or the first fault of the changesets as a part
abbrev pub OpenAnswer : List Contents → List (Phase × Node) → Result State Fault → Type 0
OpenAnswer part roots (Ok s) = IsAdmitted (state_of [] []) (changesets_alone part) × IsOpened (unheld [] part) roots s
OpenAnswer part roots (Err fault) = IsRefusal [] (changesets_alone part) fault

-- memory may be wanting to `open`: the first changeset can be taken in, or all of them can
abbrev pub MayWantMemory : List Contents → Type 0
MayWantMemory part = IsGrowthBeforeFault (state_of [] []) (changesets_alone part)
    ⊎ IsAdmitted (state_of [] []) (changesets_alone part)

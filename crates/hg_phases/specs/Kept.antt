-- What is kept of a graph's phases, and what it means.
use Rattle.std.specs.Prelude.{List, length, take, ◌-◌}
use Rattle.hg_changeset.specs.Contents.{Contents}
use Rattle.hg_phases.specs.declared.phase.Phase.{Phase}
use Rattle.hg_phases.specs.declared.lowered.LoweredPlace.{LoweredPlace}
use Rattle.hg_phases.specs.Log.{IsLog, restored}

-- the phase at each place, as a map keeps it: here it keeps just that
abbrev pub phases_at : List Contents → List Phase → List Phase
phases_at cs kept = kept

-- the graph as it was before its last changeset
abbrev pub before_last : List Contents → List Contents
before_last cs = take (length cs - 1) cs

-- the phase at each place, as it was before what was logged went down
abbrev pub phases_before : List Contents → List Phase → List LoweredPlace → List Phase
phases_before cs kept log = restored (phases_at cs kept) log

-- the log is of these phases: it lists exactly what went down since it was begun
abbrev pub IsLogOf : List Contents → List Phase → List LoweredPlace → Type 0
IsLogOf cs kept log = (phase : Phase) × IsLog phase (phases_before cs kept log) (phases_at cs kept) log

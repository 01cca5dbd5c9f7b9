-- The phases of one graph in both forms: as a plain map, and with their roots.
use Rattle.std.specs.Prelude.{◌≡◌, List, length}
use Rattle.hg_changeset.specs.Contents.{Contents}
use Rattle.hg_phases.specs.declared.phase.Phase.{Phase}
use Rattle.hg_phases.specs.declared.phase_roots.PhaseRoots.{PhaseRoots}
use Rattle.hg_phases.specs.State.{IsValid, state_of}
use Rattle.hg_phases.specs.Kept.{phases_at}
use Rattle.hg_phases.specs.RootPlaces.{ArePhasesAndRoots}

-- each form is of this graph, and keeps the phase rule
pub record AreSideBySide (cs : List Contents) (map : List Phase) (kept : PhaseRoots) : Type 0 where
  pub map_len : length (phases_at cs map) ≡ length cs
  pub map_valid : IsValid (state_of cs map)
  pub are_kept : ArePhasesAndRoots cs kept
  pub kept_valid : IsValid (state_of cs kept.phases)

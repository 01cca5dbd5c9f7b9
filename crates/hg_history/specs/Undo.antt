-- Taking an absorption back.
use Rattle.std.specs.Prelude.{◌≡◌, ◌≤◌, ℕ, List, length, map, take}
use Rattle.hg_phases.specs.declared.phase.Phase.{Phase}
use Rattle.hg_phases.specs.declared.lowered.LoweredPlace.{LoweredPlace}
use Rattle.hg_phases.specs.State.{State, IsValid, changesets, state_of}
use Rattle.hg_phases.specs.Log.{IsLog, restored}

-- how many changesets were held before an absorption, and what it lowered
pub record UndoValue : Type 0 where
  pub before : ℕ
  pub log : List LoweredPlace

-- the phase of each changeset, at its place
abbrev pub phases_of : State → List Phase
phases_of s = map (λ h. h.phase) s.held

-- the undo leads from t back to s: to the first changesets of t, with the phases that the log gives back
pub record LeadsBack (t : State) (undo : UndoValue) (s : State) : Type 0 where
  pub valid : IsValid s
  pub within : undo.before ≤ length t.held
  pub logged : (phase : Phase) × IsLog phase (restored (phases_of t) undo.log) (phases_of t) undo.log
  pub state : s
      ≡ state_of (take undo.before (changesets t)) (take undo.before (restored (phases_of t) undo.log))

-- Taking an absorption back.
use Rattle.std.specs.Prelude.{◌≡◌, ◌≤◌, ℕ, length, take}
use Rattle.hg_history.specs.Undo.{UndoValue as HistoryUndo, LeadsBack as LeadsHistoryBack}
use Rattle.hg_replica.specs.State.{ReplicaState}

-- what takes the history back, and how many markers were held before
pub record UndoValue : Type 0 where
  pub history : HistoryUndo
  pub markers : ℕ

-- the undo leads from t back to s: the history's to the history, and the first markers are those of s
pub record LeadsBack (t : ReplicaState) (undo : UndoValue) (s : ReplicaState) : Type 0 where
  pub history : LeadsHistoryBack t.history undo.history s.history
  pub within : undo.markers ≤ length t.markers
  pub markers : s.markers ≡ take undo.markers t.markers

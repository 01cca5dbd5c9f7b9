-- What a part changes.
use Rattle.std.specs.Prelude.{◌≡◌, ℕ, List, []}
use Rattle.hg_changeset.specs.declared.node.Node.{Node}
use Rattle.hg_history.specs.Change.{ChangeValue as HistoryChange}
use Rattle.hg_history.specs.Join.{TellsChange as TellsHistory}
use Rattle.hg_obsstore.specs.Growth.{Grows}
use Rattle.hg_replica.specs.State.{ReplicaState}

-- the nodes that were added, those held before whose phase went down, and the places of the new markers
pub record ChangeValue : Type 0 where
  pub added : List Node
  pub lowered : List Node
  pub markers : List ℕ

-- nothing was added, no phase went down, and no marker is new
abbrev pub IsNothing : ChangeValue → Type 0
IsNothing change = (change.added ≡ []) × (change.lowered ≡ []) × (change.markers ≡ [])

-- what of the change the history tells
abbrev pub history_change : ChangeValue → HistoryChange
history_change change = record { added = change.added; lowered = change.lowered }

-- the change tells the nodes that were added, in their order, those held before whose phase went down, and the places
-- of the markers that stand after those held before
pub record TellsChange (s : ReplicaState) (change : ChangeValue) (t : ReplicaState) : Type 0 where
  pub history : TellsHistory s.history (history_change change) t.history
  pub markers : Grows s.markers change.markers t.markers

-- From one content to the next: what a change may turn.
use Rattle.std.specs.Prelude.{◌≡◌, ◌↔◌, ◌⊎◌, ℕ, List, slice_get, Some, Contains}
use Rattle.hg_changeset.specs.declared.node.Node.{Node}
use Rattle.hg_marker.specs.Fields.{Fields}
use Rattle.hg_graph.specs.Places.{IsAt}
use Rattle.hg_phases.specs.State.{changesets}
use Rattle.hg_history.specs.Content.{IsBelowAt, IsHeld}
use Rattle.hg_replica.specs.Content.{Content}
use Rattle.hg_replica.specs.Change.{ChangeValue, TellsChange}
use Rattle.hg_replica.specs.State.{ReplicaState, IsValid, Below}
use Rattle.hg_replica.specs.Evolution.{IsMarker}

-- the change added it, or lowered it
abbrev pub IsMoved : ChangeValue → Node → Type 0
IsMoved change n = Contains change.added n ⊎ Contains change.lowered n

-- of these markers, it stands at one of the places that the change tells
abbrev pub IsFresh : List Fields → ChangeValue → Fields → Type 0
IsFresh ms change m = (k : ℕ) × Contains change.markers k × (slice_get ms k ≡ Some m)

-- g, which has these markers, is f after the change: what wasn't moved is held as it was; what is held was held, or was
-- added; what was held still is, the same changeset, with a phase no higher; and the markers are those of before and
-- the fresh ones
pub record Follows (f g : Content) (change : ChangeValue) (ms : List Fields) : Type 0 where
  pub same : (n : Node) → ¬ (IsMoved change n) → g.0 n ≡ f.0 n
  pub held : (n : Node) → IsHeld g.0 n → IsHeld f.0 n ⊎ Contains change.added n
  pub above : (n : Node) → IsBelowAt (f.0 n) (g.0 n)
  pub markers : (m : Fields) → IsMarker g m ↔ (IsMarker f m ⊎ IsFresh ms change m)

-- moved, or the predecessor of a fresh marker: of any other id it is as before whether it is held, in which phase, and
-- whether a marker rewrote it
abbrev pub IsSeed : List Fields → ChangeValue → Node → Type 0
IsSeed ms change n = IsMoved change n ⊎ ((m : Fields) × IsFresh ms change m × (m.predecessor ≡ n))

-- each seed that is held stands at one of the places
abbrev pub AreSeeded : ReplicaState → ChangeValue → List ℕ → Type 0
AreSeeded t change places = (n : Node) (k : ℕ) → IsSeed t.markers change n → IsAt (changesets t.history) n k
    → Contains places k

-- in a set of which some are turned: those of the set that aren't turned, and those that are and weren't in it
abbrev pub IsNow : List Node → List Node → Node → Type 0
IsNow set turned n = (Contains set n × ¬ (Contains turned n)) ⊎ (¬ (Contains set n) × Contains turned n)

-- the change is what a part that was absorbed at s gave, and t what it left
pub record IsChangedTo (s : ReplicaState) (change : ChangeValue) (t : ReplicaState) : Type 0 where
  pub valid : IsValid s
  pub above : Below s t
  pub told : TellsChange s change t

-- Heads: the places that have no child of their kind.
use Rattle.std.specs.Prelude.{◌≡◌, ◌<◌, ℕ, List, Some, length, slice_get, take}
use Rattle.hg_changeset.specs.Contents.{Contents}
use Rattle.hg_changeset.specs.declared.node.Node.{Node}
use Rattle.hg_graph.specs.Places.{IsAt, IsParentPlace}
use Rattle.hg_phases.specs.declared.phase.Phase.TheVariants.{Public}
use Rattle.hg_phases.specs.State.{State, Held, changesets}
use Rattle.hg_view.specs.declared.head_updates.Among.{Among}
use Rattle.hg_view.specs.declared.head_updates.Among.TheVariants.{Everything, Published}
use Rattle.hg_view.specs.declared.head_places.HeadPlaces.{HeadPlaces}
use Rattle.hg_replica.specs.State.{ReplicaState}
use Rattle.hg_replica.specs.Content.{content_of}
use Rattle.hg_view.specs.Flags.{AreFlags}
use Rattle.hg_view.specs.Pins.{IsServedUnder}

-- the changeset at this place is so, and no child of it is
abbrev pub IsHeadAmong : List Contents → (ℕ → Type 0) → ℕ → Type 0
IsHeadAmong cs P k = P k × ((j : ℕ) → IsParentPlace cs j k → ¬ (P j))

-- there is a changeset at this place
abbrev pub IsPlace : State → ℕ → Type 0
IsPlace s k = k < length (changesets s)

-- the changeset at this place is public
abbrev pub IsPublicAt : State → ℕ → Type 0
IsPublicAt s k = (h : Held) × (slice_get s.held k ≡ Some h) × (h.phase ≡ Public)

-- the changeset at this place is one of those that are looked at
abbrev pub IsAmong : Among → State → ℕ → Type 0
IsAmong Everything s k = IsPlace s k
IsAmong Published s k = IsPublicAt s k

-- so many places are kept, with a flag for each of them in both sets
pub record AreLong (n : ℕ) (heads : HeadPlaces) : Type 0 where
  pub len : heads.len ≡ n
  pub all : length heads.all ≡ n
  pub public : length heads.public ≡ n

-- the heads are those of all changesets and of the public ones
pub record AreHeadPlaces (s : State) (heads : HeadPlaces) : Type 0 where
  pub len : heads.len ≡ length (changesets s)
  pub all : AreFlags (length (changesets s)) (IsHeadAmong (changesets s) (IsPlace s)) heads.all
  pub public : AreFlags (length (changesets s)) (IsHeadAmong (changesets s) (IsPublicAt s)) heads.public

-- places came, and the others are as they were
pub record AreGrown (before grown : HeadPlaces) : Type 0 where
  pub all : take (length before.all) grown.all ≡ before.all
  pub public : take (length before.public) grown.public ≡ before.public

-- the changeset at this place is served under the pins
abbrev pub IsServedAt : ReplicaState → List Node → ℕ → Type 0
IsServedAt s pins k = (n : Node) × IsAt (changesets s.history) n k × IsServedUnder (content_of s) pins n

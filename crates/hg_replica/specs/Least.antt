-- Parts with markers, and the least state that covers them.
use Rattle.std.specs.Prelude.{◌≡◌, map, List, [], ◌∷◌, Contains, ◌↔◌, ◌⊎◌}
use Rattle.hg_changeset.specs.Contents.{Contents}
use Rattle.hg_changeset.specs.Changeset.{IsChangeset}
use Rattle.hg_marker.specs.Fields.{Fields}
use Rattle.hg_phases.specs.Least.{PartValue as HistoryPart, Covers as CoversHistory, IsAdmitted as IsAdmittedHistory}
use Rattle.hg_phases.specs.Least.{IsLeast as IsLeastHistory, part_of as history_part_of}
use Rattle.hg_replica.specs.State.{ReplicaState, IsValid, AreWithin, Below}

-- what is absorbed: changesets and bounds, which the history takes, and markers
pub record PartValue : Type 0 where
  pub history : HistoryPart
  pub markers : List Fields

abbrev pub histories : List PartValue → List HistoryPart
histories ks = map (λ k. k.history) ks

-- the state holds the part's changesets and markers, and keeps its bounds
pub record Covers (t : ReplicaState) (k : PartValue) : Type 0 where
  pub history : CoversHistory t.history k.history
  pub markers : AreWithin k.markers t.markers

-- the part can be absorbed: each parent is held or comes earlier, each bound's node is held or comes with it, and no
-- two changesets collide. Any marker may come
abbrev pub IsAdmitted : ReplicaState → PartValue → Type 0
IsAdmitted s k = IsAdmittedHistory s.history k.history

-- some part has the marker
abbrev pub IsMarkerOfOne : List PartValue → Fields → Type 0
IsMarkerOfOne ks m = (k : PartValue) × Contains ks k × Contains k.markers m

-- t is s with the parts: the union of the changesets, for each the lowest of the phases that s and the bounds give it,
-- and the union of the markers
pub record IsLeast (s : ReplicaState) (ks : List PartValue) (t : ReplicaState) : Type 0 where
  pub history : IsLeastHistory s.history (histories ks) t.history
  pub markers : (m : Fields) → Contains t.markers m ↔ (Contains s.markers m ⊎ IsMarkerOfOne ks m)

-- each part is admitted after those before it, and holds changesets
abbrev pub AreAdmitted : ReplicaState → List PartValue → Type 0
AreAdmitted s [] = Unit {0}
AreAdmitted s (k ∷ ks) =
    IsAdmitted s k × ((c : Contents) → Contains k.history.changesets c → IsChangeset c)
    × ((t : ReplicaState) → IsLeast s (k ∷ []) t → AreAdmitted t ks)

-- t is valid, above s and covers the parts, and is below every valid state that is above s and covers them
pub record IsSmallest (s : ReplicaState) (ks : List PartValue) (t : ReplicaState) : Type 0 where
  pub valid : IsValid t
  pub above : Below s t
  pub covers : (k : PartValue) → Contains ks k → Covers t k
  pub below_each : (u : ReplicaState) → IsValid u → Below s u → ((k : PartValue) → Contains ks k → Covers u k) →
      Below t u

-- the parts are taken one after the other, each to the least state for it alone
abbrev pub IsLeastOneByOne : ReplicaState → List PartValue → ReplicaState → Type 0
IsLeastOneByOne s [] t = t ≡ s
IsLeastOneByOne s (k ∷ ks) t = (u : ReplicaState) × IsLeast s (k ∷ []) u × IsLeastOneByOne u ks t

-- a state as a part: what it holds, and a bound for each phase
abbrev pub part_of : ReplicaState → PartValue
part_of t = record { history = history_part_of t.history; markers = t.markers }

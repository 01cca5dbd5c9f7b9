-- Places of a graph of which something is so, such as that they are in common, and those of them without such a child.
use Rattle.std.specs.Prelude.{ℕ, ◌<◌, List, length, Contains}
use Rattle.hg_changeset.specs.Contents.{Contents}
use Rattle.hg_graph.specs.Places.{IsParentPlace, IsAncestorPlace}
use Rattle.hg_graph.specs.Waiting.{Widens}
use Rattle.hg_view.specs.HeadPlaces.{IsHeadAmong}

-- it is so of a child of the changeset at the place
abbrev pub HasChildIn : List Contents → (ℕ → Type 0) → ℕ → Type 0
HasChildIn cs P k = (j : ℕ) × IsParentPlace cs j k × P j

-- a changeset without children stands at the place
abbrev pub IsChildless : List Contents → ℕ → Type 0
IsChildless cs k = IsHeadAmong cs (λ j. j < length cs) k

-- where it is so of a changeset, it is so of its parents
abbrev pub IsClosedUnderParents : List Contents → (ℕ → Type 0) → Type 0
IsClosedUnderParents cs P = (j k : ℕ) → IsParentPlace cs j k → P j → P k

-- the changeset at the place is that at one of these places, or an ancestor of it
abbrev pub IsCovered : List Contents → List ℕ → ℕ → Type 0
IsCovered cs places k = (h : ℕ) × Contains places h × IsAncestorPlace cs k h

-- what waited waits on, and besides the places of the parents of those visited changesets of which it isn't so
abbrev pub GoesOn : List Contents → (ℕ → Type 0) → (ℕ → Type 0) → List ℕ → List ℕ → Type 0
GoesOn cs P IsVisited old new = Widens (λ k. (j : ℕ) × IsVisited j × ¬ (P j) × IsParentPlace cs j k) old new

-- what was found is found, and besides the heads among the visited changesets
abbrev pub Finds : List Contents → (ℕ → Type 0) → (ℕ → Type 0) → List ℕ → List ℕ → Type 0
Finds cs P IsVisited old new = Widens (λ k. IsVisited k × IsHeadAmong cs P k) old new

-- Where the changesets of a graph stand: places count from 0, in the graph's order.
use Rattle.std.specs.Prelude.{◌≡◌, ◌≤◌, ℕ, List, length, slice_get, ◌↔◌, Option, Some, MatchOption, Contains}
use Rattle.hg_changeset.specs.declared.node.Node.{Node}
use Rattle.hg_changeset.specs.Node.{null_node}
use Rattle.hg_changeset.specs.Contents.{Contents}
use Rattle.hg_graph.specs.declared.graph.ParentPlaces.{ParentPlaces}
use Rattle.hg_graph.specs.Graph.{nodes, IsParent, Reaches}

-- the node stands at this place
abbrev pub IsAt : List Contents → Node → ℕ → Type 0
IsAt cs n k = slice_get (nodes cs) k ≡ Some n

-- the node stands at this place, and at no other
abbrev pub IsOnlyAt : List Contents → Node → ℕ → Type 0
IsOnlyAt cs n k = (j : ℕ) → IsAt cs n j ↔ (j ≡ k)

-- a parent of the changeset at j stands at k
abbrev pub IsParentPlace : List Contents → ℕ → ℕ → Type 0
IsParentPlace cs j k = (c : Contents) × (p : Node) × (slice_get cs j ≡ Some c) × IsParent c p × IsAt cs p k

-- the changeset at j is the one at i, or an ancestor of it
abbrev pub IsAncestorPlace : List Contents → ℕ → ℕ → Type 0
IsAncestorPlace cs j i = (a : Node) × (n : Node) × IsAt cs a j × IsAt cs n i × Reaches cs a n

-- one of the nodes stands at this place
abbrev pub IsPlaceOfOne : List Contents → List Node → ℕ → Type 0
IsPlaceOfOne cs ns k = (n : Node) × Contains ns n × IsAt cs n k

-- P holds of the place, and of no other that is a descendant's
abbrev pub IsHeadPlace : List Contents → (ℕ → Type 0) → ℕ → Type 0
IsHeadPlace cs P k = P k × ((j : ℕ) → P j → IsAncestorPlace cs k j → j ≡ k)

-- both places are among those of the nodes, and all of these are from the first up to the second
abbrev pub IsSpan : List Contents → List Node → ℕ × ℕ → Type 0
IsSpan cs ns span = IsPlaceOfOne cs ns span.0 × IsPlaceOfOne cs ns span.1
    × ((k : ℕ) → IsPlaceOfOne cs ns k → (span.0 ≤ k) × (k ≤ span.1))

-- where a parent stands: nowhere if it is absent
abbrev pub IsPlaceOf : List Contents → Node → Option ℕ → Type 0
IsPlaceOf cs p place = MatchOption place (p ≡ null_node) (IsAt cs p)

-- where the two parents of a changeset stand
abbrev pub ArePlacesOf : List Contents → Contents → ParentPlaces → Type 0
ArePlacesOf cs c places = IsPlaceOf cs c.first places.first × IsPlaceOf cs c.second places.second

-- for each changeset, where its parents stand
pub record ArePlaces (cs : List Contents) (places : List ParentPlaces) : Type 0 where
  pub len : length places ≡ length cs
  pub each : (i : ℕ) (c : Contents) (p : ParentPlaces) → slice_get cs i ≡ Some c → slice_get places i ≡ Some p
      → ArePlacesOf cs c p

-- Which families are formed, and what is seen of the nodes before that.
use Rattle.std.specs.Prelude.{◌≡◌, ◌⊎◌, ◌<◌, ◌≤◌, ◌&&◌, ◌||◌, ℕ, List, [], ◌∷◌, Bool, true, nat_lt, min, max, get_or}
use Rattle.std.specs.Prelude.{map, length, slice_get, Contains, Option, Some, None, IsTrue}
use Rattle.std.specs.Option.{option_map_or, option_and_then}
use Rattle.std.specs.List.{AllPairs, flat_map, position}
use Rattle.hg_changeset.specs.declared.node.Node.{Node}
use Rattle.hg_changeset.specs.Node.{node_eq}
use Rattle.hg_marker.specs.Fields.{Fields}
use Rattle.hg_obsstore.specs.Markers.{ArePlaces}
use Rattle.hg_replica.specs.State.{ReplicaState}
use Rattle.hg_replica.specs.Content.{Content, content_of}
use Rattle.hg_succ.specs.declared.plan.Plan.{Plan}
use Rattle.hg_succ.specs.declared.ranges.RankRange.{RankRange}
use Rattle.hg_succ.specs.declared.ranges.Gathered.{Gathered}
use Rattle.hg_succ.specs.declared.ranges.Ranges.{Ranges}
use Rattle.hg_succ.specs.declared.search.Closed.{Closed}
use Rattle.hg_succ.specs.Rows.{At}
use Rattle.hg_succ.specs.Successors.{IsPick, IsOnCycle, IsRewrittenTo}
use Rattle.hg_succ.specs.Numbered.{successors_at}

-- the node's family is formed and kept
abbrev pub Lists : Plan → Node → Type 0
Lists plan n = IsTrue plan.is_whole ⊎ Contains plan.listed.keys n

-- the node's unions are formed
abbrev pub Unites : Plan → Node → Type 0
Unites plan n = Lists plan n ⊎ Contains plan.overlapping.keys n

-- no pick of the one has something in common with a pick of the other
abbrev pub AreStrangers : Content → Node → Node → Type 0
AreStrangers f y z = (p q : List Node) → IsPick f y p → IsPick f z q → (x : Node) → Contains p x → Contains q x → ⊥

-- the successors at each two places, of the same marker or of two, have nothing in common
abbrev pub IsApart : ReplicaState → Node → Type 0
IsApart s n = (places : List ℕ) → ArePlaces (λ m. m.predecessor ≡ n) s.markers places
    → AllPairs (AreStrangers (content_of s)) (flat_map (successors_at s.markers) places)

-- Where a node's unions are formed the families of its successors are kept, and where they aren't its successors have
-- nothing in common.
pub record IsPlan (s : ReplicaState) (nodes : List Node) (plan : Plan) : Type 0 where
  pub closed : (n y : Node) → Unites plan n → IsRewrittenTo (content_of s) n y → Lists plan y
  pub apart : (n : Node) → Contains nodes n → ¬ (IsOnCycle (content_of s) n) → ¬ (Unites plan n) → IsApart s n

-- ---- ranges

-- the rank lies in the range
abbrev pub InRange : ℕ → Option RankRange → Type 0
InRange rank None = ⊥
InRange rank (Some range) = (range.first ≤ rank) × (rank ≤ range.last)

abbrev pub rank_of : List ℕ → List Node → Node → ℕ
rank_of ranks nodes n = option_map_or (λ number. get_or ranks number 0) (position (node_eq n) nodes) 0

-- the range holds the ranks of what the node's picks have
abbrev pub IsRange : Content → List ℕ → List Node → Node → Option RankRange → Type 0
IsRange f ranks nodes n range = (p : List Node) (x : Node) → IsPick f n p → Contains p x
    → InRange (rank_of ranks nodes x) range

-- the range at a number, where there is one
abbrev pub range_at : List (Option RankRange) → ℕ → Option RankRange
range_at ranges number = option_and_then (λ range. range) (slice_get ranges number)

-- the range at the number of a node
abbrev pub range_of : List (Option RankRange) → List Node → Node → Option RankRange
range_of ranges nodes n = option_and_then (range_at ranges) (position (node_eq n) nodes)

-- from the first to the last rank of both
abbrev pub both : Option RankRange → Option RankRange → Option RankRange
both None other = other
both (Some a) None = Some a
both (Some a) (Some b) = Some (record { first = min a.first b.first; last = max a.last b.last })

-- whether one lies before the other
abbrev pub are_disjoint : Option RankRange → Option RankRange → Bool
are_disjoint None other = true
are_disjoint (Some a) None = true
are_disjoint (Some a) (Some b) = nat_lt a.last b.first || nat_lt b.last a.first

-- nothing is gathered
abbrev pub no_range : Gathered
no_range = record { range = None; are_apart = true }

-- with one more
abbrev pub gathered : Gathered → Option RankRange → Gathered
gathered g range = record { range = both g.range range; are_apart = g.are_apart && are_disjoint g.range range }

-- with one after the other
abbrev pub gather_all : Gathered → List (Option RankRange) → Gathered
gather_all g [] = g
gather_all g (range ∷ ranges) = gather_all (gathered g range) ranges

-- of the markers at these places; the node's own rank where there are none
abbrev pub seen_at : ℕ → List (Option RankRange) → List Node → List Fields → List ℕ → Gathered
seen_at rank ranges nodes markers [] = record { range = Some (record { first = rank; last = rank }); are_apart = true }
seen_at rank ranges nodes markers (place ∷ places) =
    gather_all no_range (map (range_of ranges nodes) (flat_map (successors_at markers) (place ∷ places)))

-- of a node that isn't on a cycle, by its markers
abbrev pub IsSeen : ReplicaState → List (Option RankRange) → List Node → ℕ → Node → Gathered → Type 0
IsSeen s ranges nodes rank n g = (places : List ℕ) × ArePlaces (λ m. m.predecessor ≡ n) s.markers places
    × (g ≡ seen_at rank ranges nodes s.markers places)

-- ---- what is found

-- where its successors may have something in common the node is among the overlapping ones
abbrev pub IsJudged : ReplicaState → Ranges → Node → Type 0
IsJudged s found x = ¬ (IsOnCycle (content_of s) x) → IsApart s x ⊎ Contains found.overlapping.keys x

-- what overlapping nodes were rewritten to is among the starts
abbrev pub HasStarts : ReplicaState → Ranges → Type 0
HasStarts s found = (x y : Node) → Contains found.overlapping.keys x → IsRewrittenTo (content_of s) x y
    → Contains found.starts.keys y

-- each node of the order before this place is seen
pub record AreSeen (s : ReplicaState) (ranks : List ℕ) (nodes : List Node) (order : List Closed) (place : ℕ)
    (found : Ranges) : Type 0 where
  pub long : length found.ranges.items ≡ length nodes
  pub seen : (k : ℕ) (e : Closed) (x : Node) → k < place → At order k e → At nodes e.node x
      → IsRange (content_of s) ranks nodes x (range_at found.ranges.items e.node)
  pub judged : (k : ℕ) (e : Closed) (x : Node) → k < place → At order k e → At nodes e.node x → IsJudged s found x
  pub starts : HasStarts s found

-- each node of the order is seen
pub record AreJudged (s : ReplicaState) (nodes : List Node) (order : List Closed) (found : Ranges) : Type 0 where
  pub judged : (k : ℕ) (e : Closed) (x : Node) → At order k e → At nodes e.node x → IsJudged s found x
  pub starts : HasStarts s found

-- the node is among the overlapping ones now, and what its row has is among the starts
pub record NotesOverlap (nodes : List Node) (n : Node) (row : List ℕ) (old new : Ranges) : Type 0 where
  pub ranges : new.ranges.items ≡ old.ranges.items
  pub there : Contains new.overlapping.keys n
  pub kept : (x : Node) → Contains old.overlapping.keys x → Contains new.overlapping.keys x
  pub only : (x : Node) → Contains new.overlapping.keys x → Contains old.overlapping.keys x ⊎ (n ≡ x)
  pub starts : (j : ℕ) (y : Node) → Contains row j → At nodes j y → Contains new.starts.keys y
  pub starts_kept : (x : Node) → Contains old.starts.keys x → Contains new.starts.keys x

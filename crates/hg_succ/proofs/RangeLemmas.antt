-- Disjoint ranges, and what their nodes then have in common.
use Rattle.std.proofs.Common.{◌≡◌, ℕ, ◌<◌, ◌≤◌, true, false, nat_lt, ◌||◌, List, [], ◌∷◌, ◌++◌}
use Rattle.std.proofs.Common.{length, map, get_or, Contains, Option, Some, None, ◌⊎◌, inl, inr, refl, sym, ap, subst}
use Rattle.std.specs.Cmp.{unsigned_Decides}
use Rattle.std.proofs.Common.{Bool, eqb, zero, suc, ◌∙◌, ◌+◌, ◌↔◌, IsTrue, true≢false, length-set, arith, set}
use Rattle.std.specs.List.{AllPairs, flat_map, list_any}
use Rattle.std.specs.Option.{option_map_or, option_and_then}
use Rattle.std.proofs.lemmas.Bool.{cases_Bool, cases_eq, cases_lt, and_parts, ltb-true}
use Rattle.std.proofs.lemmas.List.Elements.{Contains-append_cases}
use Rattle.std.proofs.lemmas.List.Kept.{AllPairs-from_increasing}
use Rattle.std.proofs.lemmas.Option.{slice_get_within, get_or_from_slice_get}
use Rattle.hg_changeset.specs.declared.node.Node.{Node}
use Rattle.hg_changeset.specs.Node.{node_eq}
use Rattle.std.proofs.lemmas.Map.Views.{Contains-from_any}
use Rattle.hg_changeset.proofs.NodeLemmas.{same_node, node_itself}
use Rattle.hg_changeset.proofs.ListLemmas.{Contains-cons_cases, Contains-later, Contains-first, Contains-none}
use Rattle.hg_changeset.proofs.ListLemmas.{Contains-map, Contains-one}
use Rattle.hg_graph.proofs.GraphLemmas.{Contains-from_place, place_from_Contains}
use Rattle.hg_graph.proofs.MarkLemmas.{get-set_same, get-set_other}
use Rattle.hg_marker.specs.Fields.{Fields}
use Rattle.hg_obsstore.specs.Markers.{ArePlaces}
use Rattle.hg_replica.specs.State.{ReplicaState}
use Rattle.hg_replica.specs.Content.{Content, content_of}
use Rattle.hg_replica.specs.Evolution.{IsMarker, IsPredecessor}
use Rattle.hg_replica.proofs.MarkerLemmas.{holds-from, in_from_holds}
use Rattle.hg_succ.specs.declared.ranges.RankRange.{RankRange}
use Rattle.hg_succ.specs.declared.ranges.Gathered.{Gathered}
use Rattle.hg_succ.specs.declared.ranges.Ranges.{Ranges}
use Rattle.hg_succ.specs.declared.search.Closed.{Closed}
use Rattle.hg_succ.specs.Rows.{At, IsOrder}
use Rattle.hg_succ.specs.Search.{IsListed}
use Rattle.hg_succ.specs.Successors.{IsPick, IsPickOfEach, IsOnCycle, IsRewrittenTo}
use Rattle.hg_succ.specs.Successors.IsPick.{on_cycle, itself, unknown, rewritten}
use Rattle.hg_succ.specs.Successors.IsPickOfEach.{no_places, next_place}
use Rattle.std.proofs.lemmas.List.{append-nil}
use Rattle.hg_succ.specs.Factors.{IsOnlySuccessor}
use Rattle.hg_succ.specs.Numbered.{successors_at, AreOnce, AreRows, IsNumbered}
use Rattle.hg_succ.specs.Plan.{AreStrangers, IsApart, InRange, IsRange, IsSeen, rank_of, range_at, range_of, both}
use Rattle.hg_succ.specs.Plan.{are_disjoint, no_range, gathered, gather_all, seen_at, AreSeen, HasStarts, AreJudged}
use Rattle.hg_succ.proofs.ApartLemmas.{ArePairs, pairs_from_all, all_from_pairs}
use Rattle.hg_succ.proofs.FamilyLemmas.{pick_on_cycle}
use Rattle.hg_succ.proofs.ListLemmas.{get_one}
use Rattle.hg_succ.proofs.LookupLemmas.{number_at}
use Rattle.hg_succ.proofs.NumberLemmas.{rewritten_places}
use Rattle.hg_succ.proofs.PathLemmas.{cycles_are, edge_from}
use Rattle.hg_succ.proofs.SetLemmas.{flat_contains, contains_flat, has_any}

-- ---- ranges

in_both_left : (a b : Option RankRange) (r : ℕ) → InRange r a → InRange r (both a b)
in_both_left None b r h = absurd h
in_both_left (Some a) None r h = h
in_both_left (Some a) (Some b) r h = (omega (arith, h.0), omega (arith, h.1))

in_both_right : (a b : Option RankRange) (r : ℕ) → InRange r b → InRange r (both a b)
in_both_right None b r h = h
in_both_right (Some a) None r h = absurd h
in_both_right (Some a) (Some b) r h = (omega (arith, h.0), omega (arith, h.1))

-- no rank lies in both
abbrev pub AreClear : Option RankRange → Option RankRange → Type 0
AreClear a b = (r : ℕ) → InRange r a → InRange r b → ⊥

disjoint_clear : (a b : Option RankRange) → are_disjoint a b ≡ true → AreClear a b
disjoint_clear None b e r h g = h
disjoint_clear (Some a) None e r h g = g
disjoint_clear (Some a) (Some b) e r h g = elim (cases_Bool (nat_lt a.last b.first)) [
  | inl before ↦ (let l = ltb-true a.last b.first before in omega (arith, l, h.1, g.0))
  | inr other ↦
      (let after : nat_lt b.last a.first ≡ true = sym (ap (λ c. c || nat_lt b.last a.first) other) ∙ e in
      let l = ltb-true b.last a.first after in omega (arith, l, h.0, g.1))
]

gather_keeps : (g : Gathered) (ranges : List (Option RankRange)) (r : ℕ) → InRange r g.range
    → InRange r (gather_all g ranges).range
gather_keeps g [] r h = h
gather_keeps g (range ∷ ranges) r h = gather_keeps (gathered g range) ranges r (in_both_left g.range range r h)

gather_has : (g : Gathered) (ranges : List (Option RankRange)) (r : ℕ) (range : Option RankRange)
    → Contains ranges range
    → InRange r range → InRange r (gather_all g ranges).range
gather_has g [] r range h i = absurd (Contains-none range h)
gather_has g (first ∷ ranges) r range h i = elim (Contains-cons_cases first ranges range h) [
  | inl same ↦ gather_keeps (gathered g first) ranges r (in_both_right g.range first r (subst (InRange r) (sym same) i))
  | inr later ↦ gather_has (gathered g first) ranges r range later i
]

gather_apart : (g : Gathered) (ranges : List (Option RankRange)) → (gather_all g ranges).are_apart ≡ true
    → (g.are_apart ≡ true) × ((range : Option RankRange) → Contains ranges range → AreClear g.range range)
    × ArePairs AreClear ranges
gather_apart g [] e = (e, (λ range h. absurd (Contains-none range h)), tt)
gather_apart g (first ∷ ranges) e =
    let w = gather_apart (gathered g first) ranges e in
    let parts = and_parts g.are_apart (are_disjoint g.range first) w.0 in (
      parts.0,
      (λ range h. elim (Contains-cons_cases first ranges range h) [
        | inl same ↦ subst (AreClear g.range) same (disjoint_clear g.range first parts.1)
        | inr later ↦ (λ r i j. w.1 range later r (in_both_left g.range first r i) j)
      ]),
      ((λ range h r i j. w.1 range h r (in_both_right g.range first r i) j), w.2),
    )

pairs_back_map : {X Y : Type 0} (R : X → X → Type 0) (S : Y → Y → Type 0) (f : X → Y) (xs : List X)
    → ArePairs S (map f xs) → ((x y : X) → Contains xs x → Contains xs y → S (f x) (f y) → R x y) → ArePairs R xs
pairs_back_map R S f [] p step = tt
pairs_back_map R S f (x ∷ xs) p step = (
  λ y h. step x y (Contains-first x xs) (Contains-later x xs y h) (p.0 (f y) (Contains-map f xs y h)),
  pairs_back_map R S f xs p.1 (λ y z h g. step y z (Contains-later x xs y h) (Contains-later x xs z g)),
)

-- ---- places are told once

same_ascending : (xs ys : List ℕ) → ArePairs (λ a b. a < b) xs → ArePairs (λ a b. a < b) ys
    → ((z : ℕ) → Contains xs z → Contains ys z) → ((z : ℕ) → Contains ys z → Contains xs z) → xs ≡ ys
same_ascending [] [] p q to from = refl
same_ascending [] (y ∷ ys) p q to from = absurd (Contains-none y (from y (Contains-first y ys)))
same_ascending (x ∷ xs) [] p q to from = absurd (Contains-none x (to x (Contains-first x xs)))
same_ascending (x ∷ xs) (y ∷ ys) p q to from =
    let same : x ≡ y = elim (Contains-cons_cases y ys x (to x (Contains-first x xs))) [
      | inl e ↦ sym e
      | inr later ↦ elim (Contains-cons_cases x xs y (from y (Contains-first y ys))) [
        | inl e ↦ e
        | inr later' ↦ absurd (let a = p.0 y later' in let b = q.0 x later in omega (arith, a, b))
      ]
    ] in
    let rest : xs ≡ ys = same_ascending xs ys p.1 q.1
    (λ z h. elim (Contains-cons_cases y ys z (to z (Contains-later x xs z h))) [
      | inl e ↦ absurd (let a = p.0 z h in omega (arith, a, same, e))
      | inr later ↦ later
    ])
    (λ z h. elim (Contains-cons_cases x xs z (from z (Contains-later y ys z h))) [
      | inl e ↦ absurd (let a = q.0 z h in omega (arith, a, same, e))
      | inr later ↦ later
    ]) in
    (λ i. same i ∷ rest i)

same_places : (P : Fields → Type 0) (ms : List Fields) (ps qs : List ℕ) → ArePlaces P ms ps → ArePlaces P ms qs
    → ps ≡ qs
same_places P ms ps qs a b = same_ascending ps qs
    (pairs_from_all (λ x y. x < y) ps (AllPairs-from_increasing ps a.ascending))
    (pairs_from_all (λ x y. x < y) qs (AllPairs-from_increasing qs b.ascending))
    (λ z h. (b.exact z).1 ((a.exact z).0 h)) (λ z h. (a.exact z).1 ((b.exact z).0 h))

-- ---- what picks have

-- what a pick of each has is of a pick of one
of_one : (f : Content) (ns p : List Node) (x : Node) → IsPickOfEach f ns p → Contains p x
    → (y : Node) × Contains ns y × (q : List Node) × IsPick f y q × Contains q x
of_one f ns p x no_places h = absurd (Contains-none x h)
of_one f ns p x (next_place {n = n} {ns = rest} {pick = a} {picks = b} first others) h =
    elim (Contains-append_cases a b x h) [
      | inl here' ↦ (n, Contains-first n rest, a, first, here')
      | inr later ↦ (let w = of_one f rest b x others later in
          (w.0, Contains-later n rest w.0 w.1, w.2, w.3, w.4))
    ]

-- what a pick has is the node itself, or of a pick of a successor
pick_cases : (f : Content) (n : Node) (p : List Node) (x : Node) → ¬ (IsOnCycle f n) → IsPick f n p → Contains p x
    → ((x ≡ n) × (¬ (IsPredecessor f n)))
    ⊎ ((m : Fields) × IsMarker f m × (m.predecessor ≡ n) × (y : Node) × Contains m.successors y
    × (q : List Node) × IsPick f y q × Contains q x)
pick_cases f n p x off (on_cycle on) h = absurd (off on)
pick_cases f n p x off (itself free held) h = inl (sym (Contains-one n x h), free)
pick_cases f n p x off (unknown free missing) h = absurd (Contains-none x h)
pick_cases f n p x off (rewritten m held same off' picks) h = let w = of_one f m.successors p x picks h in
    inr (m, held, same, w.0, w.1, w.2, w.3, w.4)

module _ (s : ReplicaState) (ranks : List ℕ) (nodes : List Node) (n : Node) (places : List ℕ)
    (are : ArePlaces (λ m. m.predecessor ≡ n) s.markers places) where
  abbrev followers : List Node
  followers = flat_map (successors_at s.markers) places

  -- what is told of each successor's range
  abbrev AreRanges : List (Option RankRange) → Type 0
  AreRanges ranges = (y : Node) → IsRewrittenTo (content_of s) n y
      → IsRange (content_of s) ranks nodes y (range_of ranges nodes y)

  follows : (y : Node) → Contains followers y → IsRewrittenTo (content_of s) n y
  follows y h = let p = flat_contains (successors_at s.markers) places y h in
      (rewritten_places s places n are y).0 (p.0, p.1, p.2)

  follower : (y : Node) → IsRewrittenTo (content_of s) n y → Contains followers y
  follower y h = let p = (rewritten_places s places n are y).1 h in
      contains_flat (successors_at s.markers) places p.0 y p.1 p.2

  strangers : (ranges : List (Option RankRange)) → AreRanges ranges
      → ArePairs AreClear (map (range_of ranges nodes) followers)
      → ArePairs (AreStrangers (content_of s)) followers
  strangers ranges told clear =
      pairs_back_map (AreStrangers (content_of s)) AreClear (range_of ranges nodes) followers clear
      (λ y z h g clear' p q pick_p pick_q x i j. clear' (rank_of ranks nodes x)
      (told y (follows y h) p x pick_p i) (told z (follows z g) q x pick_q j))

  -- disjoint ranges are of successors that have nothing in common
  pub apart_by_ranges : (ranges : List (Option RankRange)) (rank : ℕ) → AreRanges ranges
      → (seen_at rank ranges nodes s.markers places).are_apart ≡ true → IsApart s n
  apart_by_ranges ranges rank told e places' are' =
      subst (λ (ps : List ℕ). AllPairs (AreStrangers (content_of s)) (flat_map (successors_at s.markers) ps))
      (same_places (λ m. m.predecessor ≡ n) s.markers places places' are are') (by places refl)
    where
      by : (ps : List ℕ) → places ≡ ps → AllPairs (AreStrangers (content_of s)) followers
      by [] is = subst (λ (ps : List ℕ). AllPairs (AreStrangers (content_of s)) (flat_map (successors_at s.markers) ps))
          (sym is) (all_from_pairs (AreStrangers (content_of s)) [] tt)
      by (p ∷ ps) is = all_from_pairs (AreStrangers (content_of s)) followers
          (strangers ranges told
          (gather_apart no_range (map (range_of ranges nodes) followers)
          (subst (λ (qs : List ℕ). (gather_all no_range
          (map (range_of ranges nodes) (flat_map (successors_at s.markers) qs))).are_apart ≡ true) (sym is)
          (subst (λ (qs : List ℕ). (seen_at rank ranges nodes s.markers qs).are_apart ≡ true) is e))).2)

  -- the rank lies in the range of the node, whose own rank stands at the number
  abbrev IsOwn : List (Option RankRange) → ℕ → Node → List ℕ → Type 0
  IsOwn ranges number x qs = InRange (rank_of ranks nodes x)
      (seen_at (get_or ranks number 0) ranges nodes s.markers qs).range

  -- a node's range is gathered from those of its successors
  pub range_by_ranges : (ranges : List (Option RankRange)) (number : ℕ) → AreOnce nodes → At nodes number n
      → ¬ (IsOnCycle (content_of s) n) → AreRanges ranges
      → IsRange (content_of s) ranks nodes n (seen_at (get_or ranks number 0) ranges nodes s.markers places).range
  range_by_ranges ranges number once at off told p x pick h =
      by places refl (pick_cases (content_of s) n p x off pick h)
    where
      rank_is : rank_of ranks nodes n ≡ get_or ranks number 0
      rank_is = ap (λ o. option_map_or (λ k. get_or ranks k 0) o 0) (number_at nodes number n once at)

      rewritten_at : (m : Fields) → IsMarker (content_of s) m → m.predecessor ≡ n
          → (k : ℕ) × Contains places k × At s.markers k m
      rewritten_at m held is = let k = place_from_Contains s.markers m (in_from_holds s.markers m held) in
          (k.0, (are.exact k.0).1 (m, k.1, is), k.1)

      some_marker : (k : ℕ) (ks : List ℕ) → places ≡ k ∷ ks → IsPredecessor (content_of s) n
      some_marker k ks is = let w = (are.exact k).0
          (subst (λ (qs : List ℕ). Contains qs k) (sym is) (Contains-first k ks)) in
          (w.0, holds-from s.markers w.0 (Contains-from_place s.markers k w.0 w.1), w.2)

      by : (ps : List ℕ) → places ≡ ps → ((x ≡ n) × (¬ (IsPredecessor (content_of s) n)))
          ⊎ ((m : Fields) × IsMarker (content_of s) m × (m.predecessor ≡ n) × (y : Node) × Contains m.successors y
          × (q : List Node) × IsPick (content_of s) y q × Contains q x) → IsOwn ranges number x places
      by [] is (inl free) = subst (IsOwn ranges number x) (sym is)
          (let e : rank_of ranks nodes x ≡ get_or ranks number 0 = ap (rank_of ranks nodes) free.0 ∙ rank_is in
          (omega (arith, e), omega (arith, e)))
      by (k ∷ ks) is (inl free) = absurd (free.1 (some_marker k ks is))
      by [] is (inr w) = absurd
          (let k = rewritten_at w.0 w.1 w.2 in Contains-none k.0 (subst (λ (qs : List ℕ). Contains qs k.0) is k.1))
      by (k ∷ ks) is (inr w) =
          let step : IsRewrittenTo (content_of s) n w.3 = (w.0, w.1, w.2, w.4) in
          subst (IsOwn ranges number x) (sym is)
          (subst (λ (qs : List ℕ). InRange (rank_of ranks nodes x)
          (gather_all no_range (map (range_of ranges nodes) (flat_map (successors_at s.markers) qs))).range) is
          (gather_has no_range (map (range_of ranges nodes) followers) (rank_of ranks nodes x)
          (range_of ranges nodes w.3)
          (Contains-map (range_of ranges nodes) followers w.3 (follower w.3 step)) (told w.3 step w.5 x w.6 w.7)))

-- a node on a cycle has no range
pub range_on_cycle : (f : Content) (ranks : List ℕ) (nodes : List Node) (n : Node) → IsOnCycle f n
    → ((p : List Node) → IsPick f n p → p ≡ []) → IsRange f ranks nodes n None
range_on_cycle f ranks nodes n on only p x pick h =
    Contains-none x (subst (λ (zs : List Node). Contains zs x) (only p pick) h)

-- the range at the number of a node
pub range_at_number : (ranges : List (Option RankRange)) (nodes : List Node) (number : ℕ) (n : Node) → AreOnce nodes
    → At nodes number n → range_of ranges nodes n ≡ range_at ranges number
range_at_number ranges nodes number n once at =
    ap (option_and_then (range_at ranges)) (number_at nodes number n once at)

pub range_written : (ranges : List (Option RankRange)) (number : ℕ) (range : Option RankRange) → number < length ranges
    → range_at (set ranges number range) number ≡ range
range_written ranges number range l = ap (option_and_then (λ o. o)) (get-set_same ranges number range l)

pub range_kept : (ranges : List (Option RankRange)) (number other : ℕ) (range : Option RankRange) → ¬ (other ≡ number)
    → range_at (set ranges number range) other ≡ range_at ranges other
range_kept ranges number other range e = ap (option_and_then (λ o. o)) (get-set_other ranges number other range e)

-- ---- tests

pub among : (keys : List Node) (n : Node) → list_any (node_eq n) keys ≡ true → Contains keys n
among keys n e = Contains-from_any same_node n keys e

pub test_among : (keys : List Node) (n : Node) → Contains keys n → list_any (node_eq n) keys ≡ true
test_among keys n h = has_any (node_eq n) keys n h (node_itself n n refl)

-- ---- one more

pub gather_append : (g : Gathered) (ranges more : List (Option RankRange))
    → gather_all g (ranges ++ more) ≡ gather_all (gather_all g ranges) more
gather_append g [] more = refl
gather_append g (range ∷ ranges) more = gather_append (gathered g range) ranges more

-- ---- a node by its number

pub node_there : (nodes read : List Node) (number : ℕ) (n : Node) → read ≡ nodes → At nodes number n
    → get_or read number (record { 0 = [] }) ≡ n
node_there nodes read number n same at = ap (λ (ns : List Node). get_or ns number (record { 0 = [] })) same
    ∙ get_or_from_slice_get nodes number n (record { 0 = [] }) at

pub places_of : (s : ReplicaState) (ms : List Fields) (m n : Node) (places : List ℕ) → ms ≡ s.markers → m ≡ n
    → ArePlaces (λ k. k.predecessor ≡ m) ms places → ArePlaces (λ k. k.predecessor ≡ n) s.markers places
places_of s ms m n places same is are =
    subst (λ (ks : List Fields). ArePlaces (λ k. k.predecessor ≡ n) ks places) same
    (subst (λ (x : Node). ArePlaces (λ k. k.predecessor ≡ x) ms places) is are)

pub seen_some : (rank : ℕ) (ranges : List (Option RankRange)) (nodes : List Node) (markers : List Fields)
    (places : List ℕ)
    → ¬ (length places ≡ 0)
    → gather_all no_range (map (range_of ranges nodes) (flat_map (successors_at markers) places))
    ≡ seen_at rank ranges nodes markers places
seen_some rank ranges nodes markers [] some = absurd (some refl)
seen_some rank ranges nodes markers (p ∷ ps) some = refl

-- one successor alone hands its range on
pub seen_only : (s : ReplicaState) (nodes : List Node) (n : Node) (places : List ℕ)
    → ArePlaces (λ m. m.predecessor ≡ n) s.markers places → (ranges : List (Option RankRange)) (rank : ℕ) (x : Node)
    → IsOnlySuccessor s.markers places x → (j : ℕ) (y : Node) → AreOnce nodes → At nodes j y
    → IsRewrittenTo (content_of s) n y
    → gathered no_range (range_at ranges j) ≡ seen_at rank ranges nodes s.markers places
seen_only s nodes n places are ranges rank x only j y once at to =
    let w = (rewritten_places s places n are y).1 to in
    let p_is : only.0 ≡ w.0 = Contains-one only.0 w.0 (subst (λ (ps : List ℕ). Contains ps w.0) only.1 w.1) in
    let same : x ≡ y = Contains-one x y
    (subst (λ (ns : List Node). Contains ns y) (ap (successors_at s.markers) (sym p_is) ∙ only.2) w.2) in
    let range : range_of ranges nodes x ≡ range_at ranges j = ap (range_of ranges nodes) same
    ∙ range_at_number ranges nodes j y once at in
    let flat : flat_map (successors_at s.markers) (only.0 ∷ []) ≡ x ∷ [] = append-nil (successors_at s.markers only.0)
    ∙ only.2 in
    ap (gathered no_range) (sym range)
    ∙ sym (ap (seen_at rank ranges nodes s.markers) only.1
    ∙ ap (λ (ns : List Node). gather_all no_range (map (range_of ranges nodes) ns)) flat)

-- ---- one node more is seen

module _ (s : ReplicaState) (ranks : List ℕ) (nodes : List Node) (order : List Closed) (rows : List (List ℕ))
    (once : AreOnce nodes) (all : length rows ≡ length nodes) (exact : AreRows (content_of s) nodes rows)
    (is_order : IsOrder rows order) (i : ℕ) (e : Closed) (at : At order i e) (old : Ranges)
    (before : AreSeen s ranks nodes order i old) (g : Gathered)
    (cyclic : IsTrue e.cyclic → g ≡ no_range)
    (seen : e.cyclic ≡ false → (n : Node) → At nodes e.node n
    → IsSeen s old.ranges.items nodes (get_or ranks e.node 0) n g) where
  told : (x : Node) → At nodes e.node x → e.cyclic ≡ false → (y : Node) → IsRewrittenTo (content_of s) x y
      → IsRange (content_of s) ranks nodes y (range_of old.ranges.items nodes y)
  told x x_at off y to =
      let edge = edge_from (content_of s) nodes rows once all exact e.node x y x_at to in
      let earlier = is_order.after i e edge.0 at off edge.2 in
      let y_at : At nodes earlier.1.node y = subst (λ j. At nodes j y) (sym earlier.4) edge.1 in
      subst (IsRange (content_of s) ranks nodes y)
      (sym (range_at_number old.ranges.items nodes earlier.1.node y once y_at))
      (before.seen earlier.0 earlier.1 y earlier.2 earlier.3 y_at)

  on_cycle_is : (x : Node) → At nodes e.node x → IsTrue e.cyclic ↔ IsOnCycle (content_of s) x
  on_cycle_is x x_at =
      let cycles = cycles_are (content_of s) nodes rows once all exact e.node x x_at in
      let known = is_order.cyclic i e at in
      ((λ t. cycles.0 (known.0 t)), (λ on. known.1 (cycles.1 on)))

  range_right : (x : Node) → At nodes e.node x → IsRange (content_of s) ranks nodes x g.range
  range_right x x_at = elim (cases_Bool e.cyclic) [
    | inl t ↦
        let on = (on_cycle_is x x_at).0 t in
        subst (λ (h : Gathered). IsRange (content_of s) ranks nodes x h.range) (sym (cyclic t))
        (range_on_cycle (content_of s) ranks nodes x on (λ p pick. pick_on_cycle (content_of s) x p on pick))
    | inr off ↦
        let w = seen off x x_at in
        subst (λ (h : Gathered). IsRange (content_of s) ranks nodes x h.range) (sym w.2)
        (range_by_ranges s ranks nodes x w.0 w.1 old.ranges.items e.node once x_at
        (λ on. true≢false (sym ((on_cycle_is x x_at).1 on) ∙ off)) (told x x_at off))
  ]

  apart_right : (x : Node) → At nodes e.node x → g.are_apart ≡ true → ¬ (IsOnCycle (content_of s) x) → IsApart s x
  apart_right x x_at apart off = elim (cases_Bool e.cyclic) [
    | inl t ↦ absurd (off ((on_cycle_is x x_at).0 t))
    | inr f ↦
        let w = seen f x x_at in
        apart_by_ranges s ranks nodes x w.0 w.1 old.ranges.items (get_or ranks e.node 0) (told x x_at f)
        (subst (λ (h : Gathered). h.are_apart ≡ true) w.2 apart)
  ]

  pub seen_more : (new : Ranges) → new.ranges.items ≡ set old.ranges.items e.node g.range
      → ((x : Node) → Contains old.overlapping.keys x → Contains new.overlapping.keys x)
      → (g.are_apart ≡ false → (x : Node) → At nodes e.node x → Contains new.overlapping.keys x) → HasStarts s new
      → AreSeen s ranks nodes order (i + 1) new
  seen_more new ranges kept overlapping starts = record {
    long = ap length ranges ∙ length-set {A = Option RankRange} old.ranges.items e.node g.range ∙ before.long;
    seen = λ k d x l d_at x_at. subst (λ (ss : List (Option RankRange)). IsRange (content_of s) ranks nodes x
        (range_at ss d.node)) (sym ranges) (elim (cases_eq d.node e.node) [
          | inl same ↦
              let here' : At nodes e.node x = subst (λ j. At nodes j x) same x_at in
              let written : range_at (set old.ranges.items e.node g.range) d.node ≡ g.range =
              ap (range_at (set old.ranges.items e.node g.range)) same
              ∙ range_written old.ranges.items e.node g.range
              (let m = slice_get_within nodes e.node x here' in omega (arith, m, before.long)) in
              subst (IsRange (content_of s) ranks nodes x) (sym written) (range_right x here')
          | inr other ↦ subst (IsRange (content_of s) ranks nodes x)
              (sym (range_kept old.ranges.items e.node d.node g.range other))
              (elim (cases_lt k i) [
                | inl earlier ↦ before.seen k d x earlier d_at x_at
                | inr last ↦ absurd (other (ap (λ (c : Closed). c.node) (same_entry k d l d_at last)))
              ])
        ]);
    judged = λ k d x l d_at x_at off. elim (cases_lt k i) [
      | inl earlier ↦ elim (before.judged k d x earlier d_at x_at off)
          [ inl apart ↦ inl apart | inr in' ↦ inr (kept x in') ]
      | inr last ↦
          let here' : At nodes e.node x =
          subst (λ (c : Closed). At nodes c.node x) (same_entry k d l d_at last) x_at in
          elim (cases_Bool g.are_apart) [
            | inl apart ↦ inl (apart_right x here' apart off)
            | inr not' ↦ inr (overlapping not' x here')
          ]
    ];
    starts = starts;
  }
    where
      same_entry : (k : ℕ) (d : Closed) → k < i + 1 → At order k d → i ≤ k → d ≡ e
      same_entry k d l d_at last =
          let k_is : k ≡ i = omega (arith, l, last) in
          get_one order i d e (subst (λ j. At order j d) k_is d_at) at

  -- what a overlapping node was rewritten to is among the starts
  pub starts_more : (row : List ℕ) (new : Ranges) → At rows e.node row → (n : Node) → At nodes e.node n
      → ((x : Node) → Contains new.overlapping.keys x → Contains old.overlapping.keys x ⊎ (n ≡ x))
      → ((j : ℕ) (y : Node) → Contains row j → At nodes j y → Contains new.starts.keys y)
      → ((x : Node) → Contains old.starts.keys x → Contains new.starts.keys x) → HasStarts s new
  starts_more row new row_at n n_at only listed kept x y h to = elim (only x h) [
    | inl old' ↦ kept y (before.starts x y old' to)
    | inr same ↦
        let w = (exact e.node n row n_at row_at).each y
        (subst (λ (z : Node). IsRewrittenTo (content_of s) z y) (sym same) to) in
        listed w.0 y w.1 w.2
  ]

-- ---- the plan

-- each node that isn't overlapping has successors with nothing in common, and what overlapping ones lead to is listed
module _ (s : ReplicaState) (nodes : List Node) (order : List Closed) (found : Ranges)
    (seen : AreJudged s nodes order found) (count : ℕ) (all : count ≡ length nodes)
    (listed : (x : ℕ) → x < count → IsListed order x)
    (closure : List Node) (first : (n : Node) → Contains found.starts.keys n → Contains closure n)
    (closed : (n y : Node) → Contains closure n → IsRewrittenTo (content_of s) n y → Contains closure y) where
  pub plan_closed : (n y : Node) → Contains closure n ⊎ Contains found.overlapping.keys n
      → IsRewrittenTo (content_of s) n y → Contains closure y
  plan_closed n y h to = elim h [
    | inl in' ↦ closed n y in' to
    | inr overlapping ↦ first y (seen.starts n y overlapping to)
  ]

  pub plan_apart : (n : Node) → Contains nodes n → ¬ (IsOnCycle (content_of s) n)
      → ¬ (Contains found.overlapping.keys n)
      → IsApart s n
  plan_apart n h off out =
      let at = place_from_Contains nodes n h in
      let w = listed at.0 (let l = slice_get_within nodes at.0 n at.1 in omega (arith, l, all)) in
      elim (seen.judged w.0 w.1 n w.3 (subst (λ j. At nodes j n) (sym w.4) at.1) off)
      [ inl apart ↦ apart | inr overlapping ↦ absurd (out overlapping) ]

-- numbered nodes are closed
pub closed_nodes : (s : ReplicaState) (roots nodes : List Node) (rows : List (List ℕ))
    → IsNumbered (content_of s) roots nodes rows → (n y : Node) → Contains nodes n → IsRewrittenTo (content_of s) n y
    → Contains nodes y
closed_nodes s roots nodes rows is n y h to =
    let at = place_from_Contains nodes n h in
    let e = edge_from (content_of s) nodes rows is.once is.all is.exact at.0 n y at.1 to in
    Contains-from_place nodes e.0 y e.1

pub some_numbers : (empty : Bool) (count : ℕ) → empty ≡ eqb count 0 → empty ≡ false → 0 < count
some_numbers empty zero e f = absurd (true≢false (sym (e ∙ (unsigned_Decides 0 0).1 refl) ∙ f))
some_numbers empty (suc count) e f = omega arith

-- Heads, by marks on the places of those that are asked about.
use Rattle.std.proofs.Common.{◌≡◌, ◌≢◌, ℕ, ◌<◌, ◌≤◌, ◌+◌, ◌-◌, min, max, Bool, true, false, List, []}
use Rattle.std.proofs.Common.{length, take}
use Rattle.std.proofs.Common.{get_or, replicate, slice_get, Option, None, Some, MatchOption, Contains, ◌↔◌, ◌⊎◌, inl}
use Rattle.std.proofs.Common.{inr, refl, sym, ap, subst, ◌∙◌, arith, true≢false}
use Rattle.std.specs.BTreeSet.{BTreeSet, Updates}
use Rattle.std.proofs.lemmas.Bool.{cases_eq, cases_lt}
use Rattle.std.proofs.lemmas.List.{length-replicate}
use Rattle.std.proofs.lemmas.Option.{none-some, slice_get-get_or, same_Some}
use Rattle.hg_changeset.specs.declared.node.Node.{Node}
use Rattle.hg_changeset.specs.Node.{node_cmp}
use Rattle.hg_changeset.specs.Contents.{Contents}
use Rattle.hg_changeset.proofs.NodeLemmas.{node_cmp_total, node_cmp_exact}
use Rattle.hg_graph.specs.Graph.{nodes, Holds, IsGraph, Reaches, IsHeadAmong, IsHeadOfThem}
use Rattle.hg_graph.specs.Places.{IsAt, IsOnlyAt, IsParentPlace, IsPlaceOfOne, IsHeadPlace, IsSpan}
use Rattle.hg_graph.specs.Marks.{IsMarked, MarksAlso, MarksAncestors}
use Rattle.hg_graph.proofs.GraphLemmas.{Contains-from_place}
use Rattle.hg_graph.proofs.PlaceLemmas.{same_place, place_from_Holds, placed_within, Holds-reached}
use Rattle.hg_graph.proofs.PlaceLemmas.{parent_first, ancestor_first, ancestor_by_parent, ancestor_through_parent}
use Rattle.hg_graph.proofs.MarkLemmas.{MarksAlso-then, MarksAlso-same, unmarked, IsMarked-within, taken_more}
use Rattle.hg_graph.proofs.WalkLemmas.{inserted}

-- ---- the marks that were gone through

-- the place is marked, and before the end
abbrev pub IsMarkedBefore : ℕ → List Bool → ℕ → ℕ → Type 0
IsMarkedBefore low marks end k = IsMarked low marks k × (k < end)

module _ (low : ℕ) (marks : List Bool) where
  pub before_none : (k : ℕ) → ¬ (IsMarkedBefore low marks low k)
  before_none k h = omega (arith, h.1, h.0.0)

  pub before_all : (place : ℕ) → low + length marks ≤ place → (k : ℕ) → IsMarked low marks k
      ↔ IsMarkedBefore low marks place k
  before_all place all k = (λ m. (m, omega (arith, all, IsMarked-within low marks k m)), λ h. h.0)

  pub before_other : (place k : ℕ) → k ≢ place → IsMarkedBefore low marks (place + 1) k
      ↔ IsMarkedBefore low marks place k
  before_other place k ne = (λ h. (h.0, omega (arith, h.1, ne)), λ old. (old.0, omega (arith, old.1)))

  module _ (place : ℕ) (from : low ≤ place) (l : place - low < length marks) where
    -- what is read at a place says whether it is marked
    pub marked_here : get_or marks (place - low) false ≡ true → IsMarked low marks place
    marked_here e = (from, slice_get-get_or marks (place - low) false l ∙ ap (λ b. Some b) e)

    pub clear_here : get_or marks (place - low) false ≡ false → ¬ (IsMarked low marks place)
    clear_here e m =
        true≢false (same_Some true false (sym m.1 ∙ slice_get-get_or marks (place - low) false l ∙ ap (λ b. Some b) e))

    pub before_more : get_or marks (place - low) false ≡ true → (k : ℕ) → IsMarkedBefore low marks (place + 1) k
        ↔ (IsMarkedBefore low marks place k ⊎ (k ≡ place))
    before_more e k = (
      λ h. elim (cases_eq k place) [ inl same ↦ inr same | inr ne ↦ inl (h.0, omega (arith, h.1, ne)) ],
      λ h. elim h [
        | inl old ↦ (old.0, omega (arith, old.1))
        | inr same ↦
            (subst (IsMarked low marks) (sym same) (marked_here e), omega (arith, same))
      ],
    )

    pub before_same : get_or marks (place - low) false ≡ false → (k : ℕ) → IsMarkedBefore low marks (place + 1) k
        ↔ IsMarkedBefore low marks place k
    before_same e k = (
      λ h. elim (cases_eq k place) [
        | inl same ↦ absurd (clear_here e (subst (IsMarked low marks) same h.0))
        | inr ne ↦
            (before_other place k ne).0 h
      ],
      λ old. (old.0, omega (arith, old.1)),
    )

-- the parents of one place more
pub parents_more : (cs : List Contents) (low : ℕ) (D E : ℕ → Type 0) (p : ℕ) (a b c : List Bool)
    → ((j : ℕ) → E j ↔ (D j ⊎ (j ≡ p))) → MarksAlso low (λ k. (j : ℕ) × D j × IsParentPlace cs j k) a b
    → MarksAlso low (IsParentPlace cs p) b c
    → MarksAlso low (λ k. (j : ℕ) × E j × IsParentPlace cs j k) a c
parents_more cs low D E p a b c joins before more = MarksAlso-then low _ _ _ a b c before more (λ k l. (
  λ h. elim ((joins h.0).0 h.1)
      [ inl old ↦ inl (h.0, old, h.2) | inr e ↦ inr (subst (λ j. IsParentPlace cs j k) e h.2) ],
  λ h. elim h [ inl old ↦ (old.0, (joins old.0).1 (inl old.1), old.2) | inr new ↦ (p, (joins p).1 (inr refl), new) ],
))

pub parents_same : (cs : List Contents) (low : ℕ) (D E : ℕ → Type 0) (a b : List Bool) → ((j : ℕ) → E j ↔ D j)
    → MarksAlso low (λ k. (j : ℕ) × D j × IsParentPlace cs j k) a b
    → MarksAlso low (λ k. (j : ℕ) × E j × IsParentPlace cs j k) a b
parents_same cs low D E a b same h = MarksAlso-same low _ _ a b
    (λ k. (λ d. (d.0, (same d.0).1 d.1, d.2), λ e. (e.0, (same e.0).0 e.1, e.2))) h

-- the nodes at those of the places that have no mark
abbrev pub AreUnmarked : List Contents → ℕ → List Bool → (ℕ → Type 0) → List Node → Type 0
AreUnmarked cs low above P found = (n : Node) → Contains found n
    ↔ ((k : ℕ) × IsAt cs n k × P k × ¬ (IsMarked low above k))

module _ (cs : List Contents) (low : ℕ) (above : List Bool) (D E : ℕ → Type 0) where
  pub unmarked_same : (found : List Node) → ((k : ℕ) → ¬ (IsMarked low above k) → E k ↔ D k)
      → AreUnmarked cs low above D found → AreUnmarked cs low above E found
  unmarked_same found same before n = (
    λ h. let old = (before n).0 h in (old.0, old.1, (same old.0 old.3).1 old.2, old.3),
    λ h. (before n).1 (h.0, h.1, (same h.0 h.3).0 h.2, h.3),
  )

  pub unmarked_push : (p : ℕ) (s t : BTreeSet Node) (n : Node) → IsAt cs n p → ¬ (IsMarked low above p)
      → Updates node_cmp s t n true → ((k : ℕ) → E k ↔ (D k ⊎ (k ≡ p))) → AreUnmarked cs low above D s.keys
      → AreUnmarked cs low above E t.keys
  unmarked_push p s t n at clear up joins before m =
      let added = inserted node_cmp_total node_cmp_exact s t n up m in (
        λ h. elim (added.0 h) [
          | inl old ↦ let o = (before m).0 old in (o.0, o.1, (joins o.0).1 (inl o.2), o.3)
          | inr e ↦ (p, subst (λ x. IsAt cs x p) e at, (joins p).1 (inr refl), clear)
        ],
        λ h. added.1 (elim ((joins h.0).0 h.2) [
          | inl old ↦ inl ((before m).1 (h.0, h.1, old, h.3))
          | inr e ↦ inr (same_Some n m (sym at ∙ subst (IsAt cs m) e h.1))
        ]),
      )

-- where the parents of the marked places got a second mark, and what reaches them, a marked place has no second one
-- exactly where it is a head's
pub head_unmarked : (cs : List Contents) → IsGraph cs → (low : ℕ) (marks : List Bool) (old new : List Bool)
    → MarksAlso low (λ k. (j : ℕ) × IsMarked low marks j × IsParentPlace cs j k) (replicate (length marks) false) old
    → MarksAncestors cs low old new → (k : ℕ) → IsMarked low marks k → (¬ (IsMarked low new k))
    ↔ IsHeadPlace cs (IsMarked low marks) k
head_unmarked cs graph low marks old new parents ancestors k named = (
  λ clear. (
    named,
    λ j other reach. elim (cases_eq j k) [
      | inl e ↦ e
      | inr ne ↦
          let first : k ≤ j = ancestor_first cs graph k j reach in
          let up = ancestor_by_parent cs graph k j (omega (arith, first, ne)) reach in
          let up_from : k ≤ up.0 = ancestor_first cs graph k up.0 up.2 in
          let up_to : up.0 < j = parent_first cs graph j up.0 up.1 in
          let marked =
          (parents.1 up.0 (omega (arith, named.0, up_from))
          (omega (arith, up_to, IsMarked-within low marks j other, length-replicate (length marks) false))).1
          (inr (j, other, up.1)) in
          absurd (clear ((ancestors.1 k named.0).1 (up.0, marked, up.2)))
    ],
  ),
  λ head marked.
      let way = (ancestors.1 k named.0).0 marked in
      let in_old = IsMarked-within low old way.0 way.1 in
      elim ((parents.1 way.0 way.1.0 (omega (arith, in_old, parents.0))).0 way.1) [
        | inl before ↦ unmarked (length marks) (way.0 - low) before.1
        | inr parent ↦
            let reach = ancestor_through_parent cs k way.0 parent.0 parent.2 way.2 in
            let first : k ≤ way.0 = ancestor_first cs graph k way.0 way.2 in
            let after : way.0 < parent.0 = parent_first cs graph parent.0 way.0 parent.2 in
            omega (arith, first, after, head.1 parent.0 parent.1 reach)
      ],
)

-- ---- heads

pub unmarked_heads : (cs : List Contents) (P : ℕ → Type 0) (low : ℕ) (above : List Bool)
    → ((k : ℕ) → P k → (¬ (IsMarked low above k)) ↔ IsHeadPlace cs P k) → (heads : List Node)
    → AreUnmarked cs low above P heads
    → (n : Node) → Contains heads n ↔ ((k : ℕ) × IsAt cs n k × IsHeadPlace cs P k)
unmarked_heads cs P low above same heads are n = (
  λ h. let head = (are n).0 h in (head.0, head.1, (same head.0 head.2).0 head.3),
  λ h. (are n).1 (h.0, h.1, h.2.0, (same h.0 h.2.0).1 h.2),
)

-- the nodes at the head places of some nodes' places are the heads of the nodes
pub heads_are : (cs : List Contents) → IsGraph cs → (N : Node → Type 0) (P : ℕ → Type 0)
    → ((k : ℕ) → P k ↔ ((n : Node) × N n × IsAt cs n k)) → (heads : List Node)
    → ((n : Node) → Contains heads n ↔ ((k : ℕ) × IsAt cs n k × IsHeadPlace cs P k))
    → (n : Node) → Contains heads n ↔ IsHeadAmong cs N n
heads_are cs graph N P given heads are n = (
  λ h.
      let head = (are n).0 h in
      let one = (given head.0).0 head.2.0 in
      let n_is : one.0 ≡ n = same_Some one.0 n (sym one.2 ∙ head.1) in (
        subst N n_is one.1,
        Contains-from_place (nodes cs) head.0 n head.1,
        λ m named reach.
            let at_m = place_from_Holds cs m (Holds-reached cs reach) in
            let same : at_m.0 ≡ head.0 = head.2.1 at_m.0 ((given at_m.0).1 (m, named, at_m.1))
            (n, m, head.1, at_m.1, reach) in
            same_Some m n (sym at_m.1 ∙ ap (slice_get (nodes cs)) same ∙ head.1),
      ),
  λ h.
      let at_n = place_from_Holds cs n h.1 in
      (are n).1 (
        at_n.0,
        at_n.1,
        (
          (given at_n.0).1 (n, h.0, at_n.1),
          λ j other reach.
              let one = (given j).0 other in
              let a_is : reach.0 ≡ n = same_Some reach.0 n (sym reach.2 ∙ at_n.1) in
              let m_is : reach.1 ≡ one.0 = same_Some reach.1 one.0 (sym reach.3 ∙ one.2) in
              let way : Reaches cs n one.0 = subst (Reaches cs n) m_is
              (subst (λ a. Reaches cs a reach.1) a_is reach.4) in
              let same : one.0 ≡ n = h.2 one.0 one.1 way in
              same_place (nodes cs) n at_n.0 j graph.distinct at_n.1 (subst (λ m. IsAt cs m j) same one.2),
        ),
      ),
)

-- ---- the places of some nodes

module _ (cs : List Contents) (ns : List Node) where
  pub one_within : (k : ℕ) → IsPlaceOfOne cs ns k → k < length cs
  one_within k h = placed_within cs h.0 k h.2

  pub one_held : (k : ℕ) → IsPlaceOfOne cs ns k → (n : Node) × Contains ns n × Holds cs n
  one_held k h = (h.0, h.1, Contains-from_place (nodes cs) k h.0 h.2)

  pub no_heads : ((k : ℕ) → ¬ (IsPlaceOfOne cs ns k)) → (n : Node) → Contains {X = Node} [] n ↔ IsHeadOfThem cs ns n
  no_heads never n = (
    λ h. absurd (omega (arith, h.1)),
    λ h. let at_n = place_from_Holds cs n h.1 in absurd (never at_n.0 (n, h.0, at_n.1)),
  )

  -- in a window from the first to the last, marked are exactly these
  pub window_given : (span : ℕ × ℕ) → IsSpan cs ns span → (count : ℕ) → span.1 < span.0 + count → (marks : List Bool)
      → MarksAlso span.0 (IsPlaceOfOne cs ns) (replicate count false) marks
      → (k : ℕ) → IsMarked span.0 marks k ↔ IsPlaceOfOne cs ns k
  window_given span is count long marks also k = (
    λ m. elim ((also.1 k m.0 (omega (arith, IsMarked-within span.0 marks k m, also.0))).0 m) [
      | inl before ↦ absurd (unmarked count (k - span.0) before.1)
      | inr one ↦ one
    ],
    λ one. let place = is.2 k one in (also.1 k place.0 (omega (arith, place.1, long, length-replicate count false))).1
        (inr one),
  )

-- the first and the last of the places of the nodes so far
abbrev pub IsSpanOf : List Contents → List Node → Option (ℕ × ℕ) → Type 0
IsSpanOf cs ns span = MatchOption span ((k : ℕ) → ¬ (IsPlaceOfOne cs ns k)) (IsSpan cs ns)

module _ (cs : List Contents) (ns : List Node) (i : ℕ) (d : Node) (l : i < length ns) (r : Option ℕ)
    (told : MatchOption r (¬ (Holds cs (get_or ns i d))) (IsOnlyAt cs (get_or ns i d))) where
  more : (k : ℕ) → IsPlaceOfOne cs (take (i + 1) ns) k ↔ (IsPlaceOfOne cs (take i ns) k ⊎ (r ≡ Some k))
  more = taken_more cs ns i d l r told

  pub span_same : r ≡ None → (span : Option (ℕ × ℕ)) → IsSpanOf cs (take i ns) span → IsSpanOf cs (take (i + 1) ns) span
  span_same r_is None before = λ k h. elim ((more k).0 h)
      [ inl old ↦ before k old | inr e ↦ none-some k (sym r_is ∙ e) ]
  span_same r_is (Some s) before = (
    (more s.0).1 (inl before.0),
    (more s.1).1 (inl before.1),
    λ k h. elim ((more k).0 h)
        [ inl old ↦ before.2 k old | inr e ↦ absurd (none-some k (sym r_is ∙ e)) ],
  )

  pub span_more : (place : ℕ) → r ≡ Some place → (span : Option (ℕ × ℕ)) → IsSpanOf cs (take i ns) span → (wide : ℕ × ℕ)
      → MatchOption span (wide ≡ (place, place)) (λ s. wide ≡ (min s.0 place, max s.1 place))
      → IsSpan cs (take (i + 1) ns) wide
  span_more place r_is None before wide is = subst (IsSpan cs (take (i + 1) ns)) (sym is) (
    (more place).1 (inr r_is),
    (more place).1 (inr r_is),
    λ k h. elim ((more k).0 h) [
      | inl old ↦ absurd (before k old)
      | inr e ↦ let same : place ≡ k = same_Some place k (sym r_is ∙ e) in
          (omega (arith, same), omega (arith, same))
    ],
  )
  span_more place r_is (Some s) before wide is = subst (IsSpan cs (take (i + 1) ns)) (sym is) (
    elim (cases_lt s.0 place) [
      | inl less ↦ subst (IsPlaceOfOne cs (take (i + 1) ns)) (omega (arith, less)) ((more s.0).1 (inl before.0))
      | inr ge ↦ subst (IsPlaceOfOne cs (take (i + 1) ns)) (omega (arith, ge)) ((more place).1 (inr r_is))
    ],
    elim (cases_lt s.1 place) [
      | inl less ↦ subst (IsPlaceOfOne cs (take (i + 1) ns)) (omega (arith, less)) ((more place).1 (inr r_is))
      | inr ge ↦ subst (IsPlaceOfOne cs (take (i + 1) ns)) (omega (arith, ge)) ((more s.1).1 (inl before.1))
    ],
    λ k h. elim ((more k).0 h) [
      | inl old ↦ let within = before.2 k old in (omega (arith, within.0), omega (arith, within.1))
      | inr e ↦ let same : place ≡ k = same_Some place k (sym r_is ∙ e) in (omega (arith, same), omega (arith, same))
    ],
  )

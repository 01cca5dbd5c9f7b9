-- The next sample.
use Rattle.std.proofs.Common.{◌≡◌, ◌↔◌, ◌⊎◌, ℕ, zero, suc, ◌<◌, ◌≤◌, ◌+◌, min, inl, inr, Bool, true, false, ◌&&◌, List}
use Rattle.std.proofs.Common.{[], ◌∷◌, ◌++◌, append_assoc, length, length-append, get_or, filter, take, replicate}
use Rattle.std.proofs.Common.{slice_get, Option, Some, None, Contains, IsTrue, refl, sym, ap, subst, ◌∙◌, arith, cond}
use Rattle.std.proofs.Common.{true≢false, eq-eqb, eqb-true}
use Rattle.std.specs.Bool.{◌==◌}
use Rattle.std.proofs.lemmas.Bool.{cases_eq}
use Rattle.std.proofs.lemmas.List.{length-replicate, length-take, take_all, take-append-le, append-nil}
use Rattle.std.proofs.lemmas.List.Elements.{filter_more, Contains-append_left, Contains-append_right}
use Rattle.std.proofs.lemmas.List.Elements.{Contains-append_cases}
use Rattle.std.proofs.lemmas.List.Kept.{AllPairs-filter}
use Rattle.std.proofs.lemmas.Option.{same_Some, slice_get_within}
use Rattle.std.specs.declared.cmp.Ordering.TheVariants.{Less}
use Rattle.hg_changeset.specs.Node.{node_cmp}
use Rattle.hg_graph.specs.declared.graph.ParentPlaces.{ParentPlaces}
use Rattle.hg_graph.proofs.GraphLemmas.{get-take, Contains-from_place, place_from_Contains}
use Rattle.hg_graph.proofs.MarkLemmas.{unmarked}
use Rattle.hg_changeset.proofs.ListLemmas.{Contains-cons_cases, Contains-first, Contains-later, Contains-none}
use Rattle.hg_changeset.proofs.ListLemmas.{slice_get_some}
use Rattle.hg_discovery.specs.declared.finding.Finding.{Finding}
use Rattle.hg_discovery.specs.declared.finding.Finding.TheVariants.{Undecided, Common, Missing}
use Rattle.hg_discovery.specs.declared.finding.PlacedNode.{PlacedNode}
use Rattle.hg_discovery.specs.Under.{IsOneOf, IsParentAt, IsUnder, IsInOrder}
use Rattle.hg_discovery.specs.Search.{Search, Is, IsSo, IsHead, IsAscending, Lists, ArePlacedNodes, IsSample, IsSearch}
use Rattle.hg_discovery.specs.Spread.{IsMarked, AreCovered, MarksPlace}
use Rattle.hg_discovery.specs.Picking.{same_decided, is_decided, is_mark, is_picked}
use Rattle.hg_discovery.proofs.UnderLemmas.{parent_under, child_on_way}
use Rattle.hg_discovery.specs.Limits.{sample_size}

-- ---- marks

-- the marks of the parents of the changesets before the place i
pub record IsCoveredTo (ps : List ParentPlaces) (ds : List Finding) (d : Finding) (i : ℕ)
    (marks : List Bool) : Type 0 where
  pub len : length marks ≡ length ds
  pub each : (k : ℕ) → k < length ds → IsMarked marks k ↔ ((j : ℕ) × (j < i) × IsParentAt ps j k × Is ds d j)

pub MarksPlace-then : (P Q R : ℕ → Type 0) (a b c : List Bool) → MarksPlace P a b → MarksPlace Q b c
    → ((k : ℕ) → R k ↔ (P k ⊎ Q k)) → MarksPlace R a c
MarksPlace-then P Q R a b c first next joins = record {
  len = next.len ∙ first.len;
  each = λ k l.
      let in_b : k < length b = omega (arith, first.len) in (
        λ m. elim ((next.each k in_b).0 m) [
          | inl n ↦ elim ((first.each k l).0 n) [ inl o ↦ inl o | inr p ↦ inr ((joins k).1 (inl p)) ]
          | inr q ↦ inr ((joins k).1 (inr q))
        ],
        λ h. elim h [
          | inl o ↦ (next.each k in_b).1 (inl ((first.each k l).1 (inl o)))
          | inr r ↦ elim ((joins k).0 r) [
            | inl p ↦ (next.each k in_b).1 (inl ((first.each k l).1 (inr p)))
            | inr q ↦ (next.each k in_b).1 (inr q)
          ]
        ],
      );
}

module _ (ps : List ParentPlaces) (ds : List Finding) (d : Finding) where
  pub IsCoveredTo-start : (n : ℕ) → n ≡ length ds → IsCoveredTo ps ds d 0 (replicate n false)
  IsCoveredTo-start n e = record {
    len = length-replicate n false ∙ e;
    each = λ k l. (λ m. absurd (unmarked n k m), λ h. absurd (omega (arith, h.1)));
  }

  pub IsCoveredTo-other : (i : ℕ) (marks : List Bool) → IsCoveredTo ps ds d i marks → (Is ds d i → ⊥)
      → IsCoveredTo ps ds d (i + 1) marks
  IsCoveredTo-other i marks c never = record {
    len = c.len;
    each = λ k l. (
      λ m. let h = (c.each k l).0 m in (h.0, omega (arith, h.1), h.2, h.3),
      λ h. elim (cases_eq h.0 i) [
        | inl e ↦ absurd (never (subst (Is ds d) e h.3))
        | inr ne ↦ (c.each k l).1 (h.0, omega (arith, h.1), h.2, h.3)
      ],
    );
  }

  pub IsCoveredTo-so : (i : ℕ) (marks new : List Bool) (p : ParentPlaces) → IsCoveredTo ps ds d i marks
      → slice_get ps i ≡ Some p → Is ds d i → MarksPlace (IsOneOf p) marks new → IsCoveredTo ps ds d (i + 1) new
  IsCoveredTo-so i marks new p c at so also = record {
    len = also.len ∙ c.len;
    each = λ k l.
        let in_marks : k < length marks = omega (arith, c.len) in (
          λ m. elim ((also.each k in_marks).0 m) [
            | inl o ↦ let h = (c.each k l).0 o in (h.0, omega (arith, h.1), h.2, h.3)
            | inr q ↦ (i, omega arith, (p, at, q), so)
          ],
          λ h. elim (cases_eq h.0 i) [
            | inl e ↦
                let at_i : slice_get ps i ≡ Some h.2.0 = subst (λ x. slice_get ps x ≡ Some h.2.0) e h.2.1 in
                let same : h.2.0 ≡ p = same_Some h.2.0 p (sym at_i ∙ at) in
                (also.each k in_marks).1 (inr (subst (λ x. IsOneOf x k) same h.2.2))
            | inr ne ↦ (also.each k in_marks).1 (inl ((c.each k l).1 (h.0, omega (arith, h.1), h.2, h.3)))
          ],
        );
  }

  pub IsCoveredTo-end : (i : ℕ) (marks : List Bool) → length ps ≤ i → IsCoveredTo ps ds d i marks
      → AreCovered ps ds d marks
  IsCoveredTo-end i marks le c = record {
    len = c.len;
    each = λ k l. (
      λ m. let h = (c.each k l).0 m in (h.0, h.2, h.3),
      λ h. (c.each k l).1 (h.0, omega (arith, slice_get_within ps h.0 h.1.0 h.1.1), h.1, h.2),
    );
  }

-- ---- picking

pub take_front : {X : Type 0} (n : ℕ) (xs ys : List X) → take n (take n xs ++ ys) ≡ take n (xs ++ ys)
take_front zero xs ys = refl
take_front (suc n) [] ys = refl
take_front (suc n) (x ∷ xs) ys = ap (λ zs. x ∷ zs) (take_front n xs ys)

module _ (test : PlacedNode → Bool) (limit : ℕ) (old xs : List PlacedNode) (i : ℕ) (d : PlacedNode) (lt : i < length xs)
    (found : List PlacedNode) (inv : found ≡ take limit (old ++ filter test (take i xs))) where
  more : filter test (take (i + 1) xs) ≡ filter test (take i xs) ++ cond (test (get_or xs i d)) (get_or xs i d ∷ []) []
  more = filter_more test xs i d lt

  abbrev seen : List PlacedNode
  seen = old ++ filter test (take i xs)

  pub pick_push : length found < limit → test (get_or xs i d) ≡ true
      → found ++ get_or xs i d ∷ [] ≡ take limit (old ++ filter test (take (i + 1) xs))
  pick_push short t =
      let x = get_or xs i d in
      let long : length found ≡ min limit (length seen) = ap length inv ∙ length-take limit seen in
      let all : found ≡ seen = inv ∙ take_all limit seen (omega (arith, long, short)) in
      let whole : take limit (seen ++ x ∷ []) ≡ seen ++ x ∷ [] =
      take_all limit (seen ++ x ∷ []) (omega (arith, length-append seen (x ∷ []), long, short)) in
      let grown : old ++ filter test (take (i + 1) xs) ≡ seen ++ x ∷ [] =
      ap (λ zs. old ++ zs) (more ∙ ap (λ b. filter test (take i xs) ++ cond b (x ∷ []) []) t)
      ∙ sym (append_assoc old (filter test (take i xs)) (x ∷ [])) in
      ap (λ zs. zs ++ x ∷ []) all ∙ sym whole ∙ sym (ap (take limit) grown)

  pub pick_skip : (test (get_or xs i d) ≡ true → ⊥) → found ≡ take limit (old ++ filter test (take (i + 1) xs))
  pick_skip never = by (test (get_or xs i d)) refl
    where
      by : (b : Bool) → test (get_or xs i d) ≡ b → found ≡ take limit (old ++ filter test (take (i + 1) xs))
      by true e = absurd (never e)
      by false e = inv ∙ ap (λ zs. take limit (old ++ zs)) (sym (append-nil (filter test (take i xs)))
          ∙ sym (more ∙ ap (λ b. filter test (take i xs) ++ cond b (get_or xs i d ∷ []) []) e))

  pub pick_full : limit ≤ length found → found ≡ take limit (old ++ filter test (take (i + 1) xs))
  pick_full full =
      let rest = cond (test (get_or xs i d)) (get_or xs i d ∷ []) [] in
      let long : length found ≡ min limit (length seen) = ap length inv ∙ length-take limit seen in
      inv ∙ sym (take-append-le limit seen rest (omega (arith, long, full)))
      ∙ ap (take limit) (append_assoc old (filter test (take i xs)) rest)
      ∙ ap (λ zs. take limit (old ++ zs)) (sym more)

-- ---- the test

same_decided_itself : (d : Finding) → same_decided d d ≡ true
same_decided_itself Undecided = refl
same_decided_itself Common = refl
same_decided_itself Missing = refl

from_same_decided : (d e : Finding) → same_decided d e ≡ true → d ≡ e
from_same_decided Undecided Undecided h = refl
from_same_decided Undecided Common h = absurd (true≢false (sym h))
from_same_decided Undecided Missing h = absurd (true≢false (sym h))
from_same_decided Common Undecided h = absurd (true≢false (sym h))
from_same_decided Common Common h = refl
from_same_decided Common Missing h = absurd (true≢false (sym h))
from_same_decided Missing Undecided h = absurd (true≢false (sym h))
from_same_decided Missing Common h = absurd (true≢false (sym h))
from_same_decided Missing Missing h = refl

from_is_decided : (o : Option Finding) (d : Finding) → is_decided o d ≡ true → o ≡ Some d
from_is_decided None d h = absurd (true≢false (sym h))
from_is_decided (Some e) d h = ap (λ x. Some x) (from_same_decided e d h)

is_mark_itself : (b : Bool) → is_mark (Some b) b ≡ true
is_mark_itself true = refl
is_mark_itself false = refl

from_is_mark : (o : Option Bool) (b : Bool) → is_mark o b ≡ true → o ≡ Some b
from_is_mark None b h = absurd (true≢false (sym h))
from_is_mark (Some true) true h = refl
from_is_mark (Some true) false h = absurd (true≢false (sym h))
from_is_mark (Some false) true h = absurd (true≢false (sym h))
from_is_mark (Some false) false h = refl

both_of : (a b : Bool) → (a && b) ≡ true → (a ≡ true) × (b ≡ true)
both_of true true h = (refl, refl)
both_of true false h = absurd (true≢false (sym h))
both_of false true h = absurd (true≢false (sym h))
both_of false false h = absurd (true≢false (sym h))

module _ (ds : List Finding) (marks : List Bool) (d : Finding) (b : Bool) (x : PlacedNode) where
  pub picked : Is ds d x.place → slice_get marks x.place ≡ Some b → is_picked ds marks d b x ≡ true
  picked so mark = (λ i. is_decided (so i) d && is_mark (mark i) b)
      ∙ (λ i. same_decided_itself d i && is_mark_itself b i)

  pub from_picked : is_picked ds marks d b x ≡ true → Is ds d x.place × (slice_get marks x.place ≡ Some b)
  from_picked h =
      let parts = both_of (is_decided (slice_get ds x.place) d) (is_mark (slice_get marks x.place) b) h in
      (from_is_decided (slice_get ds x.place) d parts.0, from_is_mark (slice_get marks x.place) b parts.1)

-- ---- what a filter keeps

kept_by : {X : Type 0} (test : X → Bool) (x : X) (xs : List X) (y : X) → (Contains xs y → Contains (filter test xs) y)
    → IsTrue (test y) → (b : Bool) → test x ≡ b → (x ≡ y) ⊎ Contains xs y → Contains (filter test (x ∷ xs)) y
kept_by test x xs y rest t true e (inl is) =
    rw e (subst (Contains (x ∷ filter test xs)) is (Contains-first x (filter test xs)))
kept_by test x xs y rest t true e (inr later) = rw e (Contains-later x (filter test xs) y (rest later))
kept_by test x xs y rest t false e (inl is) = absurd (true≢false (sym t ∙ sym (ap test is) ∙ e))
kept_by test x xs y rest t false e (inr later) = rw e (rest later)

pub kept : {X : Type 0} (test : X → Bool) (xs : List X) (y : X) → Contains xs y → IsTrue (test y)
    → Contains (filter test xs) y
kept test [] y h t = absurd (Contains-none y h)
kept test (x ∷ xs) y h t = kept_by test x xs y (λ later. kept test xs y later t) t (test x) refl
    (Contains-cons_cases x xs y h)

passed_by : {X : Type 0} (test : X → Bool) (x : X) (xs : List X) (y : X)
    → (Contains (filter test xs) y → Contains xs y × IsTrue (test y)) → (b : Bool) → test x ≡ b
    → Contains (filter test (x ∷ xs)) y → Contains (x ∷ xs) y × IsTrue (test y)
passed_by test x xs y rest true e g = elim (Contains-cons_cases x (filter test xs) y (rw e at g)) [
  | inl is ↦ (subst (Contains (x ∷ xs)) is (Contains-first x xs), subst (λ z. IsTrue (test z)) is e)
  | inr r ↦ let p = rest r in (Contains-later x xs y p.0, p.1)
]
passed_by test x xs y rest false e g = let p = rest (rw e at g) in (Contains-later x xs y p.0, p.1)

pub passed : {X : Type 0} (test : X → Bool) (xs : List X) (y : X) → Contains (filter test xs) y
    → Contains xs y × IsTrue (test y)
passed test [] y h = absurd (Contains-none y h)
passed test (x ∷ xs) y h = passed_by test x xs y (passed test xs y) (test x) refl h

shorter : {X : Type 0} (test : X → Bool) (x : X) (xs : List X) (b : Bool) → test x ≡ b
    → length (filter test xs) ≤ length xs → length (filter test (x ∷ xs)) ≤ length (x ∷ xs)
shorter test x xs true e le = rw e (let grown : length (x ∷ filter test xs) ≤ length (x ∷ xs) = omega (arith, le) in
    grown)
shorter test x xs false e le = rw e (let grown : length (filter test xs) ≤ length (x ∷ xs) = omega (arith, le) in grown)

pub short_filter : {X : Type 0} (test : X → Bool) (xs : List X) → length (filter test xs) ≤ length xs
short_filter test [] = omega arith
short_filter test (x ∷ xs) = shorter test x xs (test x) refl (short_filter test xs)

pub Contains-take : {X : Type 0} (n : ℕ) (xs : List X) (x : X) → Contains (take n xs) x → Contains xs x
Contains-take n xs x h =
    let p = place_from_Contains (take n xs) x h in
    Contains-from_place xs p.0 x (get-take xs n p.0 x p.1).1

-- ---- heads

abbrev Before : PlacedNode → PlacedNode → Type 0
Before x y = node_cmp x.node y.node ≡ Less

module _ (s : Search) (so : Finding) (marks : List Bool) (order : IsInOrder s.parents)
    (placed_nodes : ArePlacedNodes s.decided s.placed_nodes) (covered : AreCovered s.parents s.decided so marks)
    (convex : (k m j : ℕ) → IsUnder s.parents k m → IsUnder s.parents m j → Is s.decided so k → Is s.decided so j
    → Is s.decided so m) where
  clear_is_head : (x : PlacedNode) → IsSo s so x → slice_get marks x.place ≡ Some false → IsHead s so x
  clear_is_head x is clear = (
    is,
    λ j at_j under. elim (child_on_way s.parents x.place j under) [
      | inl e ↦ sym e
      | inr c ↦
          let at_c : Is s.decided so c.0 = convex x.place c.0 j
          (parent_under s.parents c.0 x.place c.1) c.2 is.1 at_j in
          absurd (true≢false (same_Some true false
          (sym ((covered.each x.place (placed_nodes.within x is.0)).1 (c.0, c.1, at_c)) ∙ clear)))
    ],
  )

  marked_is_no_head : (x : PlacedNode) → Contains s.placed_nodes x → slice_get marks x.place ≡ Some true
      → IsHead s so x → ⊥
  marked_is_no_head x in_placed_nodes mark head =
      let child = (covered.each x.place (placed_nodes.within x in_placed_nodes)).0 mark in
      let before : x.place < child.0 = order child.0 x.place child.1 in
      let same : child.0 ≡ x.place = head.1 child.0 child.2 (parent_under s.parents child.0 x.place child.1) in
      omega arith

  mark_of : (x : PlacedNode) → Contains s.placed_nodes x → (b : Bool) × (slice_get marks x.place ≡ Some b)
  mark_of x h = slice_get_some marks x.place (omega (arith, covered.len, placed_nodes.within x h))

  -- of a line in which all that are decided so stand
  module _ (line : List PlacedNode) (sound : (x : PlacedNode) → Contains line x → Contains s.placed_nodes x)
      (complete : (x : PlacedNode) → Contains s.placed_nodes x → Is s.decided so x.place → Contains line x) where
    pub heads_among : (x : PlacedNode) → Contains (filter (is_picked s.decided marks so false) line) x ↔ IsHead s so x
    heads_among x = (
      λ h.
          let p = passed (is_picked s.decided marks so false) line x h in
          let q = from_picked s.decided marks so false x p.1 in
          clear_is_head x (sound x p.0, q.0) q.1,
      λ head.
          let b = mark_of x head.0.0 in
          kept (is_picked s.decided marks so false) line x (complete x head.0.0 head.0.1) (by head b.0 b.1),
    )
      where
        by : IsHead s so x → (b : Bool) → slice_get marks x.place ≡ Some b
            → is_picked s.decided marks so false x ≡ true
        by head true e = absurd (marked_is_no_head x head.0.0 e head)
        by head false e = picked s.decided marks so false x head.0.1 e

    pub others_among : (x : PlacedNode)
        → Contains (filter (is_picked s.decided marks so true) line) x ↔ (IsSo s so x × ¬ (IsHead s so x))
    others_among x = (
      λ h.
          let p = passed (is_picked s.decided marks so true) line x h in
          let q = from_picked s.decided marks so true x p.1 in
          ((sound x p.0, q.0), marked_is_no_head x (sound x p.0) q.1),
      λ o.
          let b = mark_of x o.0.0 in
          kept (is_picked s.decided marks so true) line x (complete x o.0.0 o.0.1) (by o.0 o.1 b.0 b.1),
    )
      where
        by : IsSo s so x → ¬ (IsHead s so x) → (b : Bool) → slice_get marks x.place ≡ Some b
            → is_picked s.decided marks so true x ≡ true
        by is not_head true e = picked s.decided marks so true x is.1 e
        by is not_head false e = absurd (not_head (clear_is_head x is e))

    pub heads_are : IsAscending line → Lists (IsHead s so) (filter (is_picked s.decided marks so false) line)
    heads_are ascending = (AllPairs-filter Before (is_picked s.decided marks so false) line ascending, heads_among)

    pub others_are : IsAscending line
        → Lists (λ x. IsSo s so x × ¬ (IsHead s so x)) (filter (is_picked s.decided marks so true) line)
    others_are ascending = (AllPairs-filter Before (is_picked s.decided marks so true) line ascending, others_among)

-- ---- the sample

pub sample_member : (s : Search) (xs : List PlacedNode) → IsSample s xs → (x : PlacedNode) → Contains xs x
    → IsSo s Undecided x
sample_member s xs sample x h =
    let all = Contains-take sample_size (sample.heads ++ sample.others) x
    (subst (λ zs. Contains zs x) sample.first h) in
    elim (Contains-append_cases sample.heads sample.others x all) [
      | inl a ↦ ((sample.heads_are.1 x).0 a).0
      | inr b ↦ ((sample.others_are.1 x).0 b).0
    ]

-- where the sample isn't full, nothing else is undecided
pub short_sample : (s : Search) (xs : List PlacedNode) → IsSample s xs → length xs < sample_size → (x : PlacedNode)
    → IsSo s Undecided x
    → (Contains xs x → ⊥) → ⊥
short_sample s xs sample short x so out =
    let all = sample.heads ++ sample.others in
    let long : length xs ≡ min sample_size (length all) = ap length sample.first ∙ length-take sample_size all in
    let whole : xs ≡ all = sample.first ∙ take_all sample_size all (omega (arith, long, short)) in
    let out_of_all : Contains all x → ⊥ = λ (h : Contains all x). out (subst (λ zs. Contains zs x) (sym whole) h) in
    let not_head : ¬ (IsHead s Undecided x) = λ (h : IsHead s Undecided x). out_of_all
    (Contains-append_left sample.heads sample.others x ((sample.heads_are.1 x).1 h)) in
    out_of_all (Contains-append_right sample.heads sample.others x ((sample.others_are.1 x).1 (so, not_head)))

pub done_is : (s : Search) → IsSearch s → (b : Bool) → b ≡ (length s.asked == 0)
    → IsTrue b ↔ ((k : ℕ) → Is s.decided Undecided k → ⊥)
done_is s known b is = (
  λ t k h.
      let empty : length s.asked ≡ 0 = eqb-true (length s.asked) 0 (sym is ∙ t) in
      let x = known.placed_nodes.found k (inl h) in
      short_sample s s.asked known.sample (omega (arith, empty)) x.0 (x.1, subst (Is s.decided Undecided) (sym x.2) h)
      (λ inside. omega (arith, inside.1, empty)),
  λ none. is ∙ eq-eqb (length s.asked) 0
      (by s.asked (λ x h. let so = sample_member s s.asked known.sample x h in none x.place so.1)),
)
  where
    by : (xs : List PlacedNode) → ((x : PlacedNode) → Contains xs x → ⊥) → length xs ≡ 0
    by [] none = refl
    by (x ∷ xs) none = absurd (none x (Contains-first x xs))

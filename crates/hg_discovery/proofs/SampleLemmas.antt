-- There are samples.
use Rattle.std.proofs.Common.{◌≡◌, ℕ, zero, suc, ◌≤◌, ◌+◌, inl, inr, Bool, true, false, List, ◌++◌, length, filter}
use Rattle.std.proofs.Common.{take, replicate, set, slice_get, Option, Some, None, refl, sym, ap, subst, ◌∙◌}
use Rattle.std.proofs.Common.{arith}
use Rattle.std.proofs.lemmas.Bool.{cases_eq}
use Rattle.std.proofs.lemmas.List.{length-set}
use Rattle.std.proofs.lemmas.Option.{none-some, same_Some}
use Rattle.hg_changeset.proofs.ListLemmas.{slice_get_some}
use Rattle.hg_graph.specs.declared.graph.ParentPlaces.{ParentPlaces}
use Rattle.hg_graph.proofs.MarkLemmas.{get-set_same, get-set_other}
use Rattle.hg_discovery.specs.declared.finding.Finding.{Finding}
use Rattle.hg_discovery.specs.declared.finding.Finding.TheVariants.{Undecided}
use Rattle.hg_discovery.specs.declared.finding.PlacedNode.{PlacedNode}
use Rattle.hg_discovery.specs.Under.{IsOneOf, IsInOrder}
use Rattle.hg_discovery.specs.Search.{Search, Is, IsAscending, ArePlacedNodes, IsClosed, IsSample}
use Rattle.hg_discovery.specs.Spread.{AreCovered, MarksPlace}
use Rattle.hg_discovery.specs.Picking.{is_picked}
use Rattle.hg_discovery.proofs.UnderLemmas.{three, not_both_uc, not_both_um, between}
use Rattle.hg_discovery.proofs.DrawLemmas.{IsCoveredTo, IsCoveredTo-start, IsCoveredTo-so, IsCoveredTo-other}
use Rattle.hg_discovery.proofs.DrawLemmas.{IsCoveredTo-end, MarksPlace-then, heads_are, others_are}
use Rattle.hg_discovery.specs.Limits.{sample_size}

-- the first sample_size of the heads and then of the others, by marks
abbrev pub drawn : List Finding → List Bool → List PlacedNode → List PlacedNode
drawn ds marks xs = take sample_size (filter (is_picked ds marks Undecided false) xs
    ++ filter (is_picked ds marks Undecided true) xs)

-- of placed nodes that ascend that is a sample
pub drawn_sample : (ps : List ParentPlaces) (ds : List Finding) (xs asked : List PlacedNode) → length ds ≡ length ps
    → IsInOrder ps → IsClosed ps ds → ArePlacedNodes ds xs → IsAscending xs → (marks : List Bool)
    → AreCovered ps ds Undecided marks → asked ≡ drawn ds marks xs
    → IsSample (record { parents = ps; placed_nodes = xs; decided = ds; asked = asked }) asked
drawn_sample ps ds xs asked len order closed placed_nodes ascending marks covered first =
    let s : Search = record { parents = ps; placed_nodes = xs; decided = ds; asked = asked } in
    let convex = λ (k m j : ℕ). between ps ds closed len order k m j in
    record {
      heads = filter (is_picked ds marks Undecided false) xs;
      others = filter (is_picked ds marks Undecided true) xs;
      heads_are = heads_are s Undecided marks order placed_nodes covered convex xs (λ x h. h) (λ x h u. h) ascending;
      others_are = others_are s Undecided marks order placed_nodes covered convex xs (λ x h. h) (λ x h u. h) ascending;
      first = first;
    }

-- ---- marks

mark_at : (place : Option ℕ) (old : List Bool) → (new : List Bool) × MarksPlace (λ k. place ≡ Some k) old new
mark_at None old = (
  old,
  record { len = refl; each = λ k l. (λ m. inl m, λ h. elim h [ inl m ↦ m | inr e ↦ absurd (none-some k e) ]) },
)
mark_at (Some p) old = (
  set old p true,
  record {
    len = length-set old p true;
    each = λ k l. (
      λ m. elim (cases_eq k p) [
        | inl e ↦ inr (ap (λ q. Some q) (sym e))
        | inr ne ↦ inl (sym (get-set_other old p k true ne) ∙ m)
      ],
      λ h. elim (cases_eq k p) [
        | inl e ↦ subst (λ q. slice_get (set old p true) q ≡ Some true) (sym e)
            (get-set_same old p true (omega (arith, l, e)))
        | inr ne ↦ elim h [ inl m ↦ get-set_other old p k true ne ∙ m | inr e ↦ absurd (ne (sym (same_Some p k e))) ]
      ],
    );
  },
)

mark_both : (p : ParentPlaces) (old : List Bool) → (new : List Bool) × MarksPlace (IsOneOf p) old new
mark_both p old =
    let one = mark_at p.first old in
    let two = mark_at p.second one.0 in
    (two.0, MarksPlace-then _ _ (IsOneOf p) old one.0 two.0 one.1 two.1 (λ k. (λ h. h, λ h. h)))

module _ (ps : List ParentPlaces) (ds : List Finding) (len : length ds ≡ length ps) where
  marks_to : (i : ℕ) → i ≤ length ps → (marks : List Bool) × IsCoveredTo ps ds Undecided i marks
  marks_to zero le = (replicate (length ds) false, IsCoveredTo-start ps ds Undecided (length ds) refl)
  marks_to (suc i) le =
      let mid = marks_to i (omega (arith, le)) in
      let p = slice_get_some ps i (omega (arith, le)) in
      let next : i + 1 ≡ suc i = omega arith in
      let not_so : (Is ds Undecided i → ⊥) → (marks : List Bool) × IsCoveredTo ps ds Undecided (suc i) marks =
      λ out. (
        mid.0,
        subst (λ n. IsCoveredTo ps ds Undecided n mid.0) next
            (IsCoveredTo-other ps ds Undecided i mid.0 mid.1 out),
      ) in
      elim (three ds i (omega (arith, le, len))) [
        | inl u ↦ let new = mark_both p.0 mid.0 in (
          new.0,
          subst (λ n. IsCoveredTo ps ds Undecided n new.0) next
              (IsCoveredTo-so ps ds Undecided i mid.0 new.0 p.0 mid.1 p.1 u new.1),
        )
        | inr e ↦ elim e [
          | inl c ↦ not_so (λ u. not_both_uc ds i u c)
          | inr m ↦ not_so (λ u. not_both_um ds i u m)
        ]
      ]

  -- there are such marks
  pub marks_exist : (marks : List Bool) × AreCovered ps ds Undecided marks
  marks_exist = let all = marks_to (length ps) (omega arith) in
      (all.0, IsCoveredTo-end ps ds Undecided (length ps) all.0 (omega arith) all.1)

-- The phases that listed roots give, place after place.
use Rattle.std.proofs.Common.{◌≡◌, ℕ, zero, suc, ◌+◌, ◌<◌, ◌≤◌, List, [], ◌∷◌, ◌++◌, length, replicate, slice_get}
use Rattle.std.proofs.Common.{slice_set, Option, Some, None, Contains, IfSome, MatchOption, ◌↔◌, ◌⊎◌, inl, inr, refl}
use Rattle.std.proofs.Common.{sym, ap, subst, ◌∙◌, arith}
use Rattle.std.proofs.lemmas.Bool.{cases_eq}
use Rattle.std.proofs.lemmas.List.{length-append, length-set}
use Rattle.std.proofs.lemmas.List.Elements.{Contains-append_left, Contains-push, Contains-push_cases}
use Rattle.std.proofs.lemmas.Option.{none-some, same_Some, slice_get_within}
use Rattle.hg_changeset.specs.declared.node.Node.{Node}
use Rattle.hg_changeset.specs.Contents.{Contents}
use Rattle.hg_changeset.specs.Changeset.{node_of}
use Rattle.hg_changeset.proofs.ListLemmas.{slice_get-push_cases}
use Rattle.hg_graph.specs.Graph.{Holds, IsGraph, IsParent, Reaches, nodes}
use Rattle.hg_graph.specs.Graph.Reaches.{itself, below}
use Rattle.hg_graph.specs.Places.{IsAt, IsOnlyAt, IsParentPlace}
use Rattle.hg_graph.proofs.GraphLemmas.{Contains-from_place, place_from_Contains, absent}
use Rattle.hg_graph.proofs.MarkLemmas.{get-set_same, get-set_other}
use Rattle.hg_graph.proofs.PlaceLemmas.{same_place, IsAt-from, place_from_Holds, Holds-reached, parent_first}
use Rattle.hg_phases.specs.declared.phase.Phase.{Phase}
use Rattle.hg_phases.specs.declared.phase.Phase.TheVariants.{Public}
use Rattle.hg_phases.specs.State.{rank, held_of, state_of}
use Rattle.hg_phases.specs.Marks.{IsMark, AreMarked, IsRaised, IsHigher}
use Rattle.hg_phases.specs.Roots.{IsRootPhase, IsHighest, IsOpened}
use Rattle.hg_phases.proofs.PlaceLemmas.{changesets-held_of, parts-at}

-- ---- marks

module _ (cs : List Contents) (roots : List (Phase × Node)) (root : Phase × Node) (marks : List Phase)
    (are : AreMarked cs roots marks) where
  more_marks : (i : ℕ) (k : Phase) → IsMark cs roots i k → IsMark cs (roots ++ root ∷ []) i k
  more_marks i k (inl z) = inl z
  more_marks i k (inr r) = inr (r.0, Contains-append_left roots (root ∷ []) r.0 r.1, r.2, r.3)

  -- the marks stay, where they are as high as the root
  kept : (new : List Phase) → new ≡ marks
      → ((i : ℕ) (k : Phase) → slice_get marks i ≡ Some k → IsAt cs root.1 i → rank root.0 ≤ rank k)
      → AreMarked cs (roots ++ root ∷ []) new
  kept new is high = subst (AreMarked cs (roots ++ root ∷ [])) (sym is) (record { len = are.len; each = each })
    where
      each : (i : ℕ) (k : Phase) → slice_get marks i ≡ Some k → IsHighest (IsMark cs (roots ++ root ∷ []) i) k
      each i k at = (
        more_marks i k (are.each i k at).0,
        λ j may. elim may [
          | inl z ↦ (are.each i k at).1 j (inl z)
          | inr r ↦ elim (Contains-push_cases roots root r.0 r.1) [
            | inl old ↦ (are.each i k at).1 j (inr (r.0, old, r.2, r.3))
            | inr e ↦
                let le = high i k at (subst (λ x. IsAt cs x.1 i) (sym e) r.2) in
                let x = ap (λ y. rank y.0) e in
                let y = ap rank r.3 in
                omega (arith, le, x, y)
          ]
        ],
      )

  pub marked-absent : ¬ (Holds cs root.1) → AreMarked cs (roots ++ root ∷ []) marks
  marked-absent absent =
      kept marks refl (λ i k at stands. absurd (absent (Contains-from_place (nodes cs) i root.1 stands)))

  pub marked-raised : (place : ℕ) → IsOnlyAt cs root.1 place → (new : List Phase) → IsRaised place root.0 marks new
      → AreMarked cs (roots ++ root ∷ []) new
  marked-raised place only new (had, at_had, inr (low, is)) =
      kept new is (λ i k at stands.
      let e = (only i).0 stands in
      let same = ap rank (same_Some had k (sym at_had ∙ ap (slice_get marks) (sym e) ∙ at)) in
      omega (arith, low, same))
  marked-raised place only new (had, at_had, inl (lower, is)) =
      subst (AreMarked cs (roots ++ root ∷ [])) (sym is)
      (record { len = length-set marks place root.0 ∙ are.len; each = each })
    where
      within : place < length marks
      within = slice_get_within marks place had at_had

      each : (i : ℕ) (k : Phase) → slice_get (slice_set marks place root.0) i ≡ Some k
          → IsHighest (IsMark cs (roots ++ root ∷ []) i) k
      each i k at = elim (cases_eq i place) [
        | inl e ↦
            let k_is : root.0 ≡ k =
            same_Some root.0 k
            (sym (get-set_same marks place root.0 within) ∙ ap (slice_get (slice_set marks place root.0)) (sym e)
            ∙ at) in
            let z = ap rank k_is in (
              inr (root, Contains-push roots root, (only i).1 e, k_is),
              λ j may. elim may [
                | inl p ↦ let y = ap rank p in omega (arith, y)
                | inr r ↦ elim (Contains-push_cases roots root r.0 r.1) [
                  | inl old ↦
                      let le = (are.each place had at_had).1 j
                      (inr (r.0, old, subst (λ m. IsAt cs r.0.1 m) e r.2, r.3)) in
                      omega (arith, le, lower, z)
                  | inr same ↦
                      let x = ap (λ y. rank y.0) same in
                      let y = ap rank r.3 in
                      omega (arith, x, y, z)
                ]
              ],
            )
        | inr apart ↦
            let at_old = sym (get-set_other marks place i root.0 apart) ∙ at in (
              more_marks i k (are.each i k at_old).0,
              λ j may. elim may [
                | inl p ↦ (are.each i k at_old).1 j (inl p)
                | inr r ↦ elim (Contains-push_cases roots root r.0 r.1) [
                  | inl old ↦ (are.each i k at_old).1 j (inr (r.0, old, r.2, r.3))
                  | inr same ↦ absurd (apart ((only i).0 (subst (λ x. IsAt cs x.1 i) (sym same) r.2)))
                ]
              ],
            )
      ]

-- ---- the sweep

-- the changesets so far have the highest phases that the roots give them
abbrev pub AreOpenedTo : List Contents → List (Phase × Node) → List Phase → Type 0
AreOpenedTo cs roots ks = (j : ℕ) (k : Phase) → slice_get ks j ≡ Some k → (n : Node) → IsAt cs n j
    → IsHighest (IsRootPhase cs roots n) k

module _ (cs : List Contents) (graph : IsGraph cs) (roots : List (Phase × Node)) (ks : List Phase)
    (so_far : AreOpenedTo cs roots ks) where
  -- a parent's phase, and public where there is no parent
  abbrev IsParentPhase : ℕ → Option ℕ → Phase → Type 0
  IsParentPhase i place k = MatchOption place (k ≡ Public) (λ p. slice_get ks p ≡ Some k)

  module _ (marks : List Phase) (are : AreMarked cs roots marks) (i : ℕ) (n : Node) (at : IsAt cs n i)
      (first second : Option ℕ) (parents : (k : ℕ) → IsParentPlace cs i k ↔ ((first ≡ Some k) ⊎ (second ≡ Some k)))
    where
      -- what decides a parent's phase may decide the child's
      from_parent : (place : Option ℕ) → ((k : ℕ) → place ≡ Some k → IsParentPlace cs i k) → (k : Phase)
          → IsParentPhase i place k → IsRootPhase cs roots n k
      from_parent None stands k z = inl z
      from_parent (Some p) stands k at_p =
          let parent = stands p refl in
          let here : node_of parent.0 ≡ n =
          same_Some (node_of parent.0) n (sym (IsAt-from cs i parent.0 (node_of parent.0) parent.2 refl) ∙ at) in
          by parent.1 parent.3 here (Contains-from_place cs i parent.0 parent.2) (so_far p k at_p parent.1 parent.4).0
        where
          by : {c : Contents} (q : Node) → IsParent c q → node_of c ≡ n → Contains cs c → IsRootPhase cs roots q k
              → IsRootPhase cs roots n k
          by q is here in_cs (inl z) = inl z
          by q is here in_cs (inr r) = inr (r.0, r.1, below r.2 is in_cs here, r.3)

      module _ (mark one other k : Phase) (at_mark : slice_get marks i ≡ Some mark)
          (at_first : IsParentPhase i first one)
          (at_second : IsParentPhase i second other)
          (two : Phase) (of_two : IsHigher one other two) (of_all : IsHigher mark two k) where
        attained : IsRootPhase cs roots n k
        attained = elim of_all.0 [
          | inl e ↦ subst (IsRootPhase cs roots n) (sym e) (elim (are.each i mark at_mark).0 [
            | inl z ↦ inl z
            | inr r ↦
                let same : r.0.1 ≡ n = same_Some r.0.1 n (sym r.2 ∙ at) in
                inr (r.0, r.1, subst (Reaches cs r.0.1) same (itself (Contains-from_place (nodes cs) i r.0.1 r.2)), r.3)
          ])
          | inr e ↦ subst (IsRootPhase cs roots n) (sym e) (elim of_two.0 [
            | inl f ↦ subst (IsRootPhase cs roots n) (sym f)
                (from_parent first (λ p s. (parents p).1 (inl s)) one at_first)
            | inr f ↦ subst (IsRootPhase cs roots n) (sym f)
                (from_parent second (λ p s. (parents p).1 (inr s)) other at_second)
          ])
        ]

        parent_bound : (q : Node) (p : ℕ) → IsAt cs q p → (place : Option ℕ) → place ≡ Some p → (x : Phase)
            → IsParentPhase i place x → (j : Phase) → IsRootPhase cs roots q j → rank j ≤ rank x
        parent_bound q p at_q place e x at_x j may =
            (so_far p x (subst (λ o. IsParentPhase i o x) e at_x) q at_q).1 j may

        reaching : (a m : Node) → Reaches cs a m → m ≡ n → (r : Phase × Node) → Contains roots r → r.1 ≡ a
            → rank r.0 ≤ rank k
        reaching a m (itself held) e r in_roots r_is =
            let le = (are.each i mark at_mark).1 r.0
            (inr (r, in_roots, subst (λ x. IsAt cs x i) (sym (r_is ∙ e)) at, refl)) in
            omega (arith, le, of_all.1)
        reaching a m (below {c = c} {p = q} reach is in_cs c_is) e r in_roots r_is =
            let place = place_from_Contains cs c in_cs in
            let i_is : place.0 ≡ i =
            same_place (nodes cs) n i place.0 graph.distinct at (IsAt-from cs place.0 c n place.1 (c_is ∙ e)) in
            let q_at = place_from_Holds cs q (Holds-reached cs reach) in
            let parent : IsParentPlace cs i q_at.0 = (c, q, ap (slice_get cs) (sym i_is) ∙ place.1, is, q_at.1) in
            let may : IsRootPhase cs roots q r.0 =
            inr (r, in_roots, subst (λ x. Reaches cs x q) (sym r_is) reach, refl) in
            elim ((parents q_at.0).0 parent) [
              | inl s ↦ let le = parent_bound q q_at.0 q_at.1 first s one at_first r.0 may in
                  omega (arith, le, of_two.1, of_all.2)
              | inr s ↦ let le = parent_bound q q_at.0 q_at.1 second s other at_second r.0 may in
                  omega (arith, le, of_two.2, of_all.2)
            ]

        pub highest-here : IsHighest (IsRootPhase cs roots n) k
        highest-here = (
          attained,
          λ j may. elim may [
            | inl z ↦ let l = ap rank z in omega (arith, l)
            | inr r ↦ let le = reaching r.0.1 n r.2 refl r.0 r.1 refl in let l = ap rank r.3 in omega (arith, le, l)
          ],
        )

pub opened-more : (cs : List Contents) (roots : List (Phase × Node)) (ks : List Phase) (i : ℕ) → length ks ≡ i
    → AreOpenedTo cs roots ks → (k : Phase) (new : List Phase) → new ≡ ks ++ k ∷ []
    → ((n : Node) → IsAt cs n i → IsHighest (IsRootPhase cs roots n) k)
    → (length new ≡ i + 1) × AreOpenedTo cs roots new
opened-more cs roots ks i len so_far k new is here = (
  ap length is ∙ omega (arith, length-append ks (k ∷ []), len),
  λ j x at n at_n. elim (slice_get-push_cases ks k j x (ap (λ xs. slice_get xs j) (sym is) ∙ at)) [
    | inl old ↦ so_far j x old n at_n
    | inr last ↦ subst (IsHighest (IsRootPhase cs roots n)) last.1 (here n (subst (IsAt cs n) (last.0 ∙ len) at_n))
  ],
)

-- a parent's place is before the child's
pub parent_within : (cs : List Contents) → IsGraph cs → (i : ℕ) (place : Option ℕ)
    → ((k : ℕ) → place ≡ Some k → IsParentPlace cs i k) → IfSome place (λ p. p < i)
parent_within cs graph i None stands = tt
parent_within cs graph i (Some p) stands = parent_first cs graph i p (stands p refl)

pub opened-all : (cs : List Contents) (roots : List (Phase × Node)) (ks : List Phase) → length ks ≡ length cs
    → AreOpenedTo cs roots ks → IsOpened cs roots (state_of cs ks)
opened-all cs roots ks len all = record {
  held = changesets-held_of cs ks len;
  phases = λ g at_g.
      let place = place_from_Contains (held_of cs ks) g at_g in
      let parts = parts-at cs ks place.0 g place.1 in
      all place.0 g.phase parts.1 (node_of g.changeset)
      (IsAt-from cs place.0 g.changeset (node_of g.changeset) parts.0 refl);
}

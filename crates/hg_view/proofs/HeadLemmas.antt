-- Each changeset of what is in view is a head of it, or an ancestor of one.
use Rattle.std.proofs.Common.{◌≡◌, ◌≢◌, ℕ, zero, suc, ◌<◌, ◌≤◌, ◌+◌, List, [], ◌∷◌, length, Contains, ◌↔◌, ◌⊎◌}
use Rattle.std.proofs.Common.{inl, inr, sym, ap, subst, arith, ◌∙◌}
use Rattle.std.proofs.lemmas.Bool.{cases_eq}
use Rattle.std.proofs.lemmas.Option.{same_Some}
use Rattle.hg_changeset.specs.Node.{null_node}
use Rattle.hg_changeset.specs.Contents.{Contents}
use Rattle.hg_changeset.proofs.NodeLemmas.{node_cases}
use Rattle.hg_changeset.proofs.ListLemmas.{slice_get_some, Contains-none, Contains-first, Contains-later}
use Rattle.hg_changeset.proofs.ListLemmas.{Contains-cons_cases}
use Rattle.hg_graph.specs.Graph.{nodes, Holds, IsGraph}
use Rattle.hg_graph.specs.Places.{IsParentPlace, IsAncestorPlace}
use Rattle.hg_graph.proofs.GraphLemmas.{Contains-from_place, null_not_held}
use Rattle.hg_graph.proofs.PlaceLemmas.{IsAt-within, parent_first, ancestor_first}
use Rattle.hg_graph.proofs.PlaceLemmas.{ancestor_by_parent, ancestor_through_parent, ancestor_itself}
use Rattle.hg_phases.proofs.LowerLemmas.{parent_of_ancestor}
use Rattle.hg_view.specs.Descent.{IsCovered}
use Rattle.hg_view.specs.HeadPlaces.{IsHeadAmong}

-- ---- what can be told

both : {A B : Type 0} → A ⊎ ¬ A → B ⊎ ¬ B → (A × B) ⊎ ¬ (A × B)
both a b = elim a [
  | inl is ↦ elim b [ inl too ↦ inl (is, too) | inr not_too ↦ inr (λ h. not_too h.1) ]
  | inr out ↦ inr (λ h. out h.0)
]

-- one of the first n numbers, or none
one_or_none : (Q : ℕ → Type 0) (n : ℕ) → ((p : ℕ) → p < n → Q p ⊎ ¬ (Q p))
    → ((p : ℕ) × Q p) ⊎ ((p : ℕ) → p < n → ¬ (Q p))
one_or_none Q zero told = inr (λ p l is. omega (arith, l))
one_or_none Q (suc n) told = elim (told n (omega arith)) [
  | inl is ↦ inl (n, is)
  | inr out ↦ elim (one_or_none Q n (λ p l. told p (omega (arith, l)))) [
    | inl found ↦ inl found
    | inr none ↦ inr (λ p l is. elim (cases_eq p n) [
      | inl e ↦ out (subst Q e is)
      | inr ne ↦ none p (omega (arith, l, ne)) is
    ])
  ]
]

-- ---- ancestors

module _ (cs : List Contents) (graph : IsGraph cs) where
  -- whether a parent of the changeset at j stands at k can be told
  parent_cases : (j k : ℕ) → j < length cs → k < length cs → IsParentPlace cs j k ⊎ ¬ (IsParentPlace cs j k)
  parent_cases j k j_in k_in =
      let c = slice_get_some cs j j_in in
      let p = IsAt-within cs k k_in in
      let there : p.0 ≢ null_node = λ e. null_not_held cs graph
      (subst (Holds cs) e (Contains-from_place (nodes cs) k p.0 p.1)) in
      elim (node_cases c.0.first p.0) [
        | inl e ↦ inl (c.0, p.0, c.1, (there, inl e), p.1)
        | inr ne ↦ elim (node_cases c.0.second p.0) [
          | inl e ↦ inl (c.0, p.0, c.1, (there, inr e), p.1)
          | inr ne_too ↦ inr (λ h.
              let c_is : h.0 ≡ c.0 = same_Some h.0 c.0 (sym h.2 ∙ c.1) in
              let p_is : h.1 ≡ p.0 = same_Some h.1 p.0 (sym h.4 ∙ p.1) in
              elim h.3.1 [
                | inl e ↦ ne (ap (λ (d : Contents). d.first) (sym c_is) ∙ e ∙ p_is)
                | inr e ↦ ne_too (ap (λ (d : Contents). d.second) (sym c_is) ∙ e ∙ p_is)
              ])
        ]
      ]

  -- whether the changeset at a is the one at j, or an ancestor of it, can be told
  ancestor_cases : (n a j : ℕ) → j < n → a < length cs → j < length cs
      → IsAncestorPlace cs a j ⊎ ¬ (IsAncestorPlace cs a j)
  ancestor_cases zero a j l a_in j_in = absurd (omega (arith, l))
  ancestor_cases (suc n) a j l a_in j_in = elim (cases_eq a j) [
    | inl e ↦ inl (subst (IsAncestorPlace cs a) e (ancestor_itself cs graph a a_in))
    | inr ne ↦ elim (one_or_none (λ p. IsParentPlace cs j p × IsAncestorPlace cs a p) j (λ p before.
        both (parent_cases j p j_in (omega (arith, before, j_in)))
        (ancestor_cases n a p (omega (arith, before, l)) a_in (omega (arith, before, j_in))))) [
          | inl way ↦ inl (ancestor_through_parent cs a way.0 j way.1.0 way.1.1)
          | inr none ↦ inr (λ reach.
              let first : a ≤ j = ancestor_first cs graph a j reach in
              let up = ancestor_by_parent cs graph a j (omega (arith, first, ne)) reach in
              none up.0 (parent_first cs graph j up.0 up.1) (up.1, up.2))
        ]
  ]

  -- whether one of the places covers another can be told
  covered_cases : (hs : List ℕ) → ((h : ℕ) → Contains hs h → h < length cs) → (k : ℕ) → k < length cs
      → IsCovered cs hs k ⊎ ¬ (IsCovered cs hs k)
  covered_cases [] there k k_in = inr (λ c. Contains-none c.0 c.1)
  covered_cases (h ∷ hs) there k k_in =
      elim (ancestor_cases (length cs) k h (there h (Contains-first h hs)) k_in (there h (Contains-first h hs))) [
        | inl reach ↦ inl (h, Contains-first h hs, reach)
        | inr not_here ↦ elim (covered_cases hs (λ m c. there m (Contains-later h hs m c)) k k_in) [
          | inl c ↦ inl (c.0, Contains-later h hs c.0 c.1, c.2)
          | inr none ↦ inr (λ c. elim (Contains-cons_cases h hs c.0 c.1) [
            | inl e ↦ not_here (subst (IsAncestorPlace cs k) (sym e) c.2)
            | inr later ↦ none (c.0, later, c.2)
          ])
        ]
      ]

  module _ (P : ℕ → Type 0) (within : (k : ℕ) → P k → k < length cs) (found : List ℕ)
      (exact : (k : ℕ) → Contains found k ↔ IsHeadAmong cs P k) where
    -- a changeset of which it is so and that no head covers would be a head itself
    none_lost : (n k : ℕ) → length cs ≤ k + n → P k → ¬ (¬ (IsCovered cs found k))
    none_lost zero k few is none = omega (arith, few, within k is)
    none_lost (suc n) k few is none = none (
      k,
      (exact k).1 (
        is,
        λ j parent is_j.
            let later : k < j = parent_first cs graph j k parent in
            none_lost n j (omega (arith, few, later)) is_j
            (λ c. none (c.0, c.1, parent_of_ancestor cs graph j c.0 k c.2 parent)),
      ),
      ancestor_itself cs graph k (within k is),
    )

    -- a changeset of which it is so is a head, or an ancestor of one
    pub covered : (k : ℕ) → P k → IsCovered cs found k
    covered k is = elim (covered_cases found (λ h c. within h ((exact h).0 c).0) k (within k is)) [
      | inl c ↦ c
      | inr none ↦ absurd (none_lost (length cs) k (omega arith) is none)
    ]

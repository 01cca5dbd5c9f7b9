-- A walk up from a changeset, by the places that wait.
use Rattle.std.proofs.Common.{◌≡◌, ℕ, ◌<◌, ◌≤◌, List, [], length, Option, Some, None}
use Rattle.std.proofs.Common.{Contains, ◌↔◌, ◌⊎◌, inl, inr, refl, sym, ap, subst, arith}
use Rattle.std.proofs.lemmas.Bool.{cases_lt}
use Rattle.std.proofs.lemmas.Option.{none-some, same_Some}
use Rattle.hg_changeset.specs.declared.node.Node.{Node}
use Rattle.hg_changeset.specs.Contents.{Contents}
use Rattle.hg_graph.specs.Graph.{nodes, IsGraph, Reaches}
use Rattle.hg_graph.specs.Graph.Reaches.{itself, below}
use Rattle.hg_graph.specs.Places.{IsAt, IsParentPlace, IsAncestorPlace}
use Rattle.hg_graph.specs.Waiting.{Waits, IsLast, TakesLast}
use Rattle.hg_graph.proofs.GraphLemmas.{place_from_Contains}
use Rattle.hg_graph.proofs.PlaceLemmas.{same_place, place_from_Holds, Holds-reached, parent_first, ancestor_first}
use Rattle.hg_graph.proofs.PlaceLemmas.{ancestor_by_parent, ancestor_through_parent, ancestor_itself}
use Rattle.hg_graph.proofs.WalkLemmas.{contains_none}

-- nothing waited but the next one, if there is one
pub next_alone : (Waited : ℕ → Type 0) (waiting : List ℕ) (next : Option ℕ)
    → waiting ≡ [] → ((k : ℕ) → Waited k ↔ (next ≡ Some k)) → TakesLast Waited waiting next
next_alone Waited waiting None empty is = λ k w. none-some k ((is k).0 w)
next_alone Waited waiting (Some g) empty is = (
  λ k. (
    λ w. inl (same_Some g k ((is k).0 w)),
    λ h. elim h [ inl e ↦ (is k).1 (ap (λ j. Some j) e) | inr c ↦ absurd (contains_none waiting k empty c) ],
  ),
  λ k c. absurd (contains_none waiting k empty c),
)

-- what waited said in another way
pub next_alike : (P Q : ℕ → Type 0) (waiting : List ℕ) (next : Option ℕ) → ((k : ℕ) → Q k ↔ P k)
    → TakesLast Q waiting next → TakesLast P waiting next
next_alike P Q waiting None same is = λ k p. is k ((same k).1 p)
next_alike P Q waiting (Some g) same is =
    (λ k. (λ p. (is.0 k).0 ((same k).1 p), λ h. (same k).0 ((is.0 k).1 h)), is.1)

-- the changeset at `low` is an ancestor of the one at `high` exactly where it is one of the one at `place` or at a
-- place that waits
pub record IsClimbed (cs : List Contents) (low high : ℕ) (waiting : List ℕ) (place : ℕ) : Type 0 where
  pub within : place < length cs
  pub waits : (k : ℕ) → Contains waiting k → k < place
  pub sound : (k : ℕ) → (place ≡ k) ⊎ Contains waiting k → IsAncestorPlace cs low k → IsAncestorPlace cs low high
  pub complete : IsAncestorPlace cs low high → (k : ℕ) × ((place ≡ k) ⊎ Contains waiting k) × IsAncestorPlace cs low k

module _ (cs : List Contents) (graph : IsGraph cs) (low high : ℕ) where
  pub IsClimbed-start : (waiting : List ℕ) → waiting ≡ [] → high < length cs → IsClimbed cs low high waiting high
  IsClimbed-start waiting empty within = record {
    within = within;
    waits = λ k c. absurd (contains_none waiting k empty c);
    sound = λ k is h. elim is
        [ inl e ↦ subst (IsAncestorPlace cs low) (sym e) h | inr c ↦ absurd (contains_none waiting k empty c) ];
    complete = λ h. (high, inl refl, h);
  }

  module _ (waiting : List ℕ) (place : ℕ) (s : IsClimbed cs low high waiting place) where
    one_waits : low < place → IsAncestorPlace cs low high
        → (k : ℕ) × Waits cs place waiting k × IsAncestorPlace cs low k
    one_waits later h =
        let c = s.complete h in
        elim c.1 [
          | inl e ↦
              let up = ancestor_by_parent cs graph low place later (subst (IsAncestorPlace cs low) (sym e) c.2) in
              (up.0, inr up.1, up.2)
          | inr w ↦ (c.0, inl w, c.2)
        ]

    pub IsClimbed-end : low < place → (next : List ℕ) → TakesLast (Waits cs place waiting) next None
        → ¬ (IsAncestorPlace cs low high)
    IsClimbed-end later next none h = let w = one_waits later h in none w.0 w.1

    pub IsClimbed-step : low < place → (next : List ℕ) (g : ℕ) → IsLast (Waits cs place waiting) next g
        → IsClimbed cs low high next g × (g < place)
    IsClimbed-step later next g is = (
      record {
        within = omega (arith, s.within, before);
        waits = is.1;
        sound = λ k here h. elim ((is.0 k).1 here) [
          | inl c ↦ s.sound k (inr c) h
          | inr p ↦ s.sound place (inl refl) (ancestor_through_parent cs low k place p h)
        ];
        complete = λ h. let w = one_waits later h in (w.0, (is.0 w.0).0 w.1, w.2);
      },
      before,
    )
      where
        before : g < place
        before = elim ((is.0 g).1 (inl refl)) [ inl c ↦ s.waits g c | inr p ↦ parent_first cs graph place g p ]

    -- at the end of the walk
    pub IsClimbed-found : place ≤ low → (low ≡ place) ↔ IsAncestorPlace cs low high
    IsClimbed-found not_later = (
      λ e. s.sound place (inl refl)
          (subst (IsAncestorPlace cs low) e (ancestor_itself cs graph low (omega (arith, s.within, e)))),
      λ h.
          let c = s.complete h in
          let first = ancestor_first cs graph low c.0 c.2 in
          elim c.1 [
            | inl e ↦ omega (arith, e, first, not_later)
            | inr w ↦ let l = s.waits c.0 w in omega (arith, l, first, not_later)
          ],
    )

  -- one that has no children is an ancestor of no other
  pub childless : low < high → ((k : ℕ) → ¬ (IsParentPlace cs k low)) → ¬ (IsAncestorPlace cs low high)
  childless before none h = by h.0 h.1 h.4 h.2 high h.3 before
    where
      by : (a n : Node) → Reaches cs a n → IsAt cs a low → (i : ℕ) → IsAt cs n i → low < i → ⊥
      by a n (itself held) at_a i at_n l = omega (arith, same_place (nodes cs) a low i graph.distinct at_a at_n, l)
      by a n (below {c = c} {p = p} r is at e) at_a i at_n l =
          let child = place_from_Contains cs c at in
          let parent = place_from_Holds cs p (Holds-reached cs r) in
          elim (cases_lt low parent.0) [
            | inl later ↦ by a p r at_a parent.0 parent.1 later
            | inr ge ↦
                let first = ancestor_first cs graph low parent.0 (a, p, at_a, parent.1, r) in
                let same : parent.0 ≡ low = omega (arith, first, ge) in
                none child.0 (subst (IsParentPlace cs child.0) same (c, p, child.1, is, parent.1))
          ]

-- Ancestors by places, and what is decided of them.
use Rattle.std.proofs.Common.{◌≡◌, ◌⊎◌, ℕ, ◌<◌, ◌≤◌, inl, inr, List, length, slice_get, Some, refl, sym, subst, ◌∙◌}
use Rattle.std.proofs.Common.{arith}
use Rattle.std.proofs.lemmas.Option.{same_Some, slice_get_within}
use Rattle.hg_graph.specs.declared.graph.ParentPlaces.{ParentPlaces}
use Rattle.hg_changeset.proofs.ListLemmas.{slice_get_some}
use Rattle.hg_discovery.specs.declared.finding.Finding.{Finding}
use Rattle.hg_discovery.specs.declared.finding.Finding.TheVariants.{Undecided, Common, Missing}
use Rattle.hg_discovery.specs.Under.{IsParentAt, IsUnder, IsInOrder, itself, below}
use Rattle.hg_discovery.specs.Search.{Is, IsClosed}

-- ---- what is decided

pub not_both_uc : (ds : List Finding) (k : ℕ) → Is ds Undecided k → Is ds Common k → ⊥
not_both_uc ds k a b = let e : Undecided ≡ Common = same_Some Undecided Common (sym a ∙ b) in cc

pub not_both_um : (ds : List Finding) (k : ℕ) → Is ds Undecided k → Is ds Missing k → ⊥
not_both_um ds k a b = let e : Undecided ≡ Missing = same_Some Undecided Missing (sym a ∙ b) in cc

pub not_both_cm : (ds : List Finding) (k : ℕ) → Is ds Common k → Is ds Missing k → ⊥
not_both_cm ds k a b = let e : Common ≡ Missing = same_Some Common Missing (sym a ∙ b) in cc

one_of : (ds : List Finding) (k : ℕ) (d : Finding) → slice_get ds k ≡ Some d
    → Is ds Undecided k ⊎ (Is ds Common k ⊎ Is ds Missing k)
one_of ds k Undecided e = inl e
one_of ds k Common e = inr (inl e)
one_of ds k Missing e = inr (inr e)

pub three : (ds : List Finding) (k : ℕ) → k < length ds → Is ds Undecided k ⊎ (Is ds Common k ⊎ Is ds Missing k)
three ds k l = let d = slice_get_some ds k l in one_of ds k d.0 d.1

-- ---- ancestors

pub under_then : (ps : List ParentPlaces) (a b c : ℕ) → IsUnder ps a b → IsUnder ps b c → IsUnder ps a c
under_then ps a b c u itself = u
under_then ps a b c u (below {p = p} v q) = below (under_then ps a b p u v) q

pub parent_under : (ps : List ParentPlaces) (j k : ℕ) → IsParentAt ps j k → IsUnder ps k j
parent_under ps j k q = below itself q

pub under_before : (ps : List ParentPlaces) → IsInOrder ps → (k j : ℕ) → IsUnder ps k j → k ≤ j
under_before ps order k j itself = omega arith
under_before ps order k j (below {p = p} u q) =
    let lt : p < j = order j p q in
    let le : k ≤ p = under_before ps order k p u in
    omega arith

-- the way up from an ancestor begins with a child of it
pub child_on_way : (ps : List ParentPlaces) (k j : ℕ) → IsUnder ps k j
    → (k ≡ j) ⊎ ((c : ℕ) × IsParentAt ps c k × IsUnder ps c j)
child_on_way ps k j itself = inl refl
child_on_way ps k j (below {p = p} u q) = elim (child_on_way ps k p u) [
  | inl e ↦ inr (j, subst (λ m. IsParentAt ps j m) (sym e) q, itself)
  | inr r ↦ inr (r.0, r.1, below r.2 q)
]

-- ---- closed decisions

module _ (ps : List ParentPlaces) (ds : List Finding) (closed : IsClosed ps ds) where
  pub under_common : (k j : ℕ) → IsUnder ps k j → Is ds Common j → Is ds Common k
  under_common k j itself h = h
  under_common k j (below {p = p} u q) h = under_common k p u (closed.common j p q h)

  pub above_missing : (k j : ℕ) → IsUnder ps k j → Is ds Missing k → Is ds Missing j
  above_missing k j itself h = h
  above_missing k j (below {p = p} u q) h = closed.missing j p q (above_missing k p u h)

  -- an undecided one's parent isn't missing, and its child isn't common
  pub between : length ds ≡ length ps → IsInOrder ps → (k m j : ℕ) → IsUnder ps k m → IsUnder ps m j
      → Is ds Undecided k → Is ds Undecided j → Is ds Undecided m
  between len order k m j low high at_k at_j =
      let le : m ≤ j = under_before ps order m j high in
      elim (three ds m (omega (arith, slice_get_within ds j Undecided at_j))) [
        | inl u ↦ u
        | inr e ↦ elim e [
          | inl common ↦ absurd (not_both_uc ds k at_k (under_common k m low common))
          | inr missing ↦ absurd (not_both_um ds j at_j (above_missing m j high missing))
        ]
      ]

-- What is hidden is what is extinct.
use Rattle.std.proofs.Common.{◌≡◌, ◌↔◌, ◌⊎◌, inl, inr, refl, sym, ap, ◌∙◌, arith}
use Rattle.std.proofs.lemmas.Option.{same_Some}
use Rattle.hg_changeset.specs.declared.node.Node.{Node}
use Rattle.hg_phases.specs.declared.phase.Phase.{Phase}
use Rattle.hg_phases.specs.declared.phase.Phase.TheVariants.{Public, Draft, Secret}
use Rattle.hg_phases.specs.State.{rank}
use Rattle.hg_history.specs.Content.{IsHeld}
use Rattle.hg_history.specs.Content.Leads.{itself}
use Rattle.hg_replica.specs.State.{ReplicaState, IsValid}
use Rattle.hg_replica.specs.Content.{content_of}
use Rattle.hg_replica.specs.Evolution.{IsObsolete, IsExtinct, IsVisible, IsHidden}
use Rattle.hg_instab.proofs.LocalLemmas.{obsolete-or_current, mutable-above}

public-or : (k : Phase) → (k ≡ Public) ⊎ (¬ (k ≡ Public))
public-or Public = inl refl
public-or Draft = inr (λ e. let r : 1 ≡ 0 = ap rank e in omega (arith, r))
public-or Secret = inr (λ e. let r : 2 ≡ 0 = ap rank e in omega (arith, r))

-- what is held is obsolete or not
pub obsolete-or : (s : ReplicaState) (n : Node) → IsHeld (content_of s).0 n
    → IsObsolete (content_of s) n ⊎ (¬ (IsObsolete (content_of s) n))
obsolete-or s n held = elim (public-or held.0.phase) [
  | inl public ↦ inr (λ o. o.0.2 (ap (λ h. h.phase)
      (same_Some o.0.0 held.0 (sym o.0.1 ∙ held.1)) ∙ public))
  | inr mutable ↦ elim (obsolete-or_current s n (held.0, held.1, mutable)) [
    | inl obsolete ↦ inl obsolete
    | inr current ↦ inr current.1
  ]
]

module _ (s : ReplicaState) (v : IsValid s) where
  -- nothing that is visible is extinct
  pub visible-not_extinct : (n : Node) → IsVisible (content_of s) n → IsExtinct (content_of s) n → ⊥
  visible-not_extinct n seen x =
      let d = seen.0 in
      elim (obsolete-or_current s d (mutable-above s v n d seen.2 seen.1.0 x.0.0)) [
        | inl obsolete ↦ seen.1.1 obsolete
        | inr current ↦ x.1 (x.0, (d, (seen.1.0, seen.2), (current, (n, (seen.1.0, seen.2), x.0))))
      ]

  pub hidden-extinct : (n : Node) → IsHidden (content_of s) n ↔ IsExtinct (content_of s) n
  hidden-extinct n = (
    λ h. elim (obsolete-or s n h.0) [
      | inl obsolete ↦ (
        obsolete,
        λ suspended. h.1 (
          suspended.1.0,
          (suspended.1.1.0, suspended.1.2.0.1),
          suspended.1.1.1,
        ),
      )
      | inr none ↦ absurd (h.1 (n, (h.0, none), itself))
    ],
    λ x. ((x.0.0.0, x.0.0.1), λ seen. visible-not_extinct n seen x),
  )

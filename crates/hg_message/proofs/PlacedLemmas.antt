-- Nodes at places, one more.
use Rattle.std.proofs.Common.{◌≡◌, ◌↔◌, ℕ, ◌<◌, ◌+◌, inl, inr, List, length, get_or, take, Contains}
use Rattle.std.proofs.Common.{true, refl, sym, subst, ◌∙◌}
use Rattle.std.specs.BTreeSet.{BTreeSet, Updates}
use Rattle.std.proofs.lemmas.Option.{same_Some}
use Rattle.hg_changeset.specs.declared.node.Node.{Node}
use Rattle.hg_changeset.specs.Node.{node_cmp}
use Rattle.hg_changeset.proofs.NodeLemmas.{node_cmp_total, node_cmp_exact}
use Rattle.hg_graph.specs.Places.{IsAt}
use Rattle.hg_graph.proofs.WalkLemmas.{inserted, taken_one}
use Rattle.hg_phases.specs.declared.phase.Phase.{Phase}
use Rattle.hg_phases.specs.State.{State, changesets}
use Rattle.hg_message.specs.Covered.{HasPhaseAt, IsAtOneIn}

module _ (s : State) (phase : Phase) (places : List ℕ) (i : ℕ) (l : i < length places) where
  abbrev here : ℕ
  here = get_or places i 0

  pub picked-push : (old new : BTreeSet Node) (m : Node) → IsAt (changesets s) m here → HasPhaseAt s phase here
      → Updates node_cmp old new m true → ((n : Node) → Contains old.keys n ↔ IsAtOneIn s (take i places) phase n)
      → (n : Node) → Contains new.keys n ↔ IsAtOneIn s (take (i + 1) places) phase n
  picked-push old new m at so updates before n =
      let added = inserted node_cmp_total node_cmp_exact old new m updates n in (
        λ h. elim (added.0 h) [
          | inl was ↦ let b = (before n).0 was in (b.0, (taken_one places i 0 b.0 l).1 (inl b.1), b.2, b.3)
          | inr e ↦ (
            here,
            (taken_one places i 0 here l).1 (inr refl),
            subst (λ (y : Node). IsAt (changesets s) y here) e at,
            so,
          )
        ],
        λ h. added.1 (elim ((taken_one places i 0 h.0 l).0 h.1) [
          | inl was ↦ inl ((before n).1 (h.0, was, h.2, h.3))
          | inr e ↦ inr (same_Some m n (sym at ∙ subst (IsAt (changesets s) n) (sym e) h.2))
        ]),
      )

  pub picked-skip : (found : List Node) → ((n : Node) → IsAt (changesets s) n here → ¬ (HasPhaseAt s phase here))
      → ((n : Node) → Contains found n ↔ IsAtOneIn s (take i places) phase n)
      → (n : Node) → Contains found n ↔ IsAtOneIn s (take (i + 1) places) phase n
  picked-skip found never before n = (
    λ h. let b = (before n).0 h in (b.0, (taken_one places i 0 b.0 l).1 (inl b.1), b.2, b.3),
    λ h. elim ((taken_one places i 0 h.0 l).0 h.1) [
      | inl was ↦ (before n).1 (h.0, was, h.2, h.3)
      | inr e ↦ absurd (never n (subst (IsAt (changesets s) n) (sym e) h.2)
          (subst (HasPhaseAt s phase) (sym e) h.3))
    ],
  )

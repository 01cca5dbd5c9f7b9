-- Tests of a Bool, and elements of lists.
use Rattle.std.proofs.Common.{◌≡◌, inl, inr, Bool, true, false, List, [], ◌∷◌, Contains, refl, ap, sym, subst, ◌∙◌, not}
use Rattle.std.proofs.Common.{◌||◌, true≢false}
use Rattle.std.specs.List.{list_any}
use Rattle.hg_changeset.specs.declared.node.Node.{Node}
use Rattle.hg_changeset.specs.Node.{node_eq}
use Rattle.hg_changeset.proofs.NodeLemmas.{same_node, node_itself}
use Rattle.hg_changeset.proofs.ListLemmas.{Contains-first, Contains-later, Contains-none, Contains-cons_cases}

-- tests of a Bool
pub not_true : (b : Bool) → not b ≡ true → b ≡ true → ⊥
not_true true h e = true≢false (sym h)
not_true false h e = true≢false (sym e)

pub not_untrue : (b : Bool) → (b ≡ true → ⊥) → not b ≡ true
not_untrue true h = absurd (h refl)
not_untrue false h = refl

-- the nodes that `contains` finds
any_first : (n y : Node) (ns : List Node) → (list_any (λ m. node_eq m n) ns ≡ true → Contains ns n) → (b : Bool)
    → node_eq y n ≡ b → list_any (λ m. node_eq m n) (y ∷ ns) ≡ true → Contains (y ∷ ns) n
any_first n y ns rest true e h = subst (Contains (y ∷ ns)) (same_node y n e) (Contains-first y ns)
any_first n y ns rest false e h =
    Contains-later y ns n (rest (subst (λ b. (b || list_any (λ m. node_eq m n) ns) ≡ true) e h))

pub Contains-any : (ns : List Node) (n : Node) → list_any (λ m. node_eq m n) ns ≡ true → Contains ns n
Contains-any [] n h = absurd (true≢false (sym h))
Contains-any (y ∷ ns) n h = any_first n y ns (Contains-any ns n) (node_eq y n) refl h

or_true : (b : Bool) → (b || true) ≡ true
or_true true = refl
or_true false = refl

pub any-Contains : (ns : List Node) (n : Node) → Contains ns n → list_any (λ m. node_eq m n) ns ≡ true
any-Contains [] n h = absurd (Contains-none n h)
any-Contains (y ∷ ns) n h = elim (Contains-cons_cases y ns n h) [
  | inl e ↦ ap (λ b. b || list_any (λ m. node_eq m n) ns) (node_itself y n e)
  | inr later ↦ ap (λ b. node_eq y n || b) (any-Contains ns n later) ∙ or_true (node_eq y n)
]

-- Sets of which some nodes are turned.
use Rattle.std.proofs.Common.{◌≡◌, ◌≢◌, Bool, true, false, true≢false, List, Contains, ◌↔◌, ◌⊎◌}
use Rattle.std.proofs.Common.{inl, inr, refl, sym, subst, ◌∙◌}
use Rattle.std.specs.List.{list_any}
use Rattle.std.proofs.lemmas.Bool.{cases_Bool}
use Rattle.std.proofs.lemmas.Map.Views.{Contains-from_any, list_any-from_Contains}
use Rattle.hg_changeset.specs.declared.node.Node.{Node}
use Rattle.hg_changeset.specs.Node.{node_eq}
use Rattle.hg_changeset.proofs.NodeLemmas.{same_node, node_eq_laws}
use Rattle.hg_instab.specs.Changed.{IsNow}
use Rattle.hg_instab.specs.Settling.{IsTurned}
use Rattle.hg_instab.specs.Turns.{HasPut}

pub contains-or : (ns : List Node) (n : Node) → Contains ns n ⊎ (¬ (Contains ns n))
contains-or ns n = elim (cases_Bool (list_any (node_eq n) ns)) [
  | inl t ↦ inl (Contains-from_any same_node n ns t)
  | inr f ↦ inr (λ h. true≢false (sym (list_any-from_Contains node_eq_laws n ns h) ∙ f))
]

-- ---- what a set has now

-- what is alike turned is alike in the set now
pub now-alike : (set old new : List Node) (n : Node) → Contains new n ↔ Contains old n
    → IsNow set new n ↔ IsNow set old n
now-alike set old new n same = (
  λ h. elim h [ inl x ↦ inl (x.0, λ t. x.1 (same.1 t)) | inr x ↦ inr (x.0, same.0 x.1) ],
  λ h. elim h [ inl x ↦ inl (x.0, λ t. x.1 (same.0 t)) | inr x ↦ inr (x.0, same.1 x.1) ],
)

-- with nothing turned the set is as it was
pub now-none : (set turned : List Node) (n : Node) → ¬ (Contains turned n) → IsNow set turned n ↔ Contains set n
now-none set turned n none =
    (λ h. elim h [ inl x ↦ x.0 | inr x ↦ absurd (none x.1) ], λ h. inl (h, none))

-- ---- one node is turned

-- it came
pub turned-added : (old new : List Node) (node : Node) (came : Bool) → HasPut node came old new → came ≡ true
    → IsTurned node old new
turned-added old new node came put is n =
    let none = put.new is in (
      λ h. elim ((put.then n).0 h) [
        | inl was ↦ inl (was, λ same. none (subst (Contains old) same was))
        | inr same ↦ inr ((λ was. none (subst (Contains old) same was)), same)
      ],
      λ h. (put.then n).1 (elim h [ inl was ↦ inl was.0 | inr new ↦ inr new.1 ]),
    )

-- it didn't come, as it was there, and is taken out
pub turned-removed : (old between new : List Node) (node : Node) (came : Bool) → HasPut node came old between
    → came ≡ false → ((n : Node) → Contains new n ↔ (Contains between n × (n ≢ node))) → IsTurned node old new
turned-removed old between new node came put is less n =
    let same = put.old is in
    let there : Contains old node = subst (λ ns. Contains ns node) same ((put.then node).1 (inr refl)) in (
      λ h. let x = (less n).0 h in inl (subst (λ ns. Contains ns n) same x.0, x.1),
      λ h. (less n).1 (elim h [
        | inl was ↦ (subst (λ ns. Contains ns n) (sym same) was.0, was.1)
        | inr new ↦ absurd (new.0 (subst (Contains old) (sym new.1) there))
      ]),
    )

pub others-alike : (node : Node) (old new : List Node) → IsTurned node old new → (n : Node) → n ≢ node
    → Contains new n ↔ Contains old n
others-alike node old new turned n other = (
  λ h. elim ((turned n).0 h) [ inl was ↦ was.0 | inr same ↦ absurd (other same.1) ],
  λ h. (turned n).1 (inl (h, other)),
)

-- the node that is turned changes sides
pub now-turned : (set old new : List Node) (node : Node) → IsTurned node old new
    → IsNow set new node ↔ (¬ (IsNow set old node))
now-turned set old new node turned = (
  λ h was. elim h [
    | inl x ↦ elim was [ inl a ↦ x.1 ((turned node).1 (inr (a.1, refl))) | inr b ↦ b.0 x.0 ]
    | inr x ↦ elim was [
      | inl a ↦ x.0 a.0
      | inr b ↦ elim ((turned node).0 x.1) [ inl y ↦ y.1 refl | inr y ↦ y.0 b.1 ]
    ]
  ],
  λ not. elim (contains-or set node) [
    | inl there ↦ inl (
      there,
      λ t. elim ((turned node).0 t) [ inl x ↦ x.1 refl | inr x ↦ not (inl (there, x.0)) ],
    )
    | inr out ↦ inr (
      out,
      elim (contains-or old node)
          [ inl t ↦ absurd (not (inr (out, t))) | inr fresh ↦ (turned node).1 (inr (fresh, refl)) ],
    )
  ],
)

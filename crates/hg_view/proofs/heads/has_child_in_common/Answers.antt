use Rattle.std.proofs.Common.{◌≡◌, ◌↔◌, ℕ, List, Contains, take, get_or, inl, inr, refl, subst, sym, true≢false}
use Rattle.std.proofs.Common.{◌∙◌}
use Rattle.std.proofs.lemmas.List.{take_all}
use Rattle.std.proofs.lemmas.List.Elements.{Contains-get_or}
use Rattle.hg_changeset.specs.Contents.{Contents}
use Rattle.hg_graph.specs.Places.{IsParentPlace}
use Rattle.hg_graph.proofs.WalkLemmas.{taken_one}
use Rattle.hg_phases.specs.State.{changesets}
use Rattle.hg_view.specs.Common.{IsCommonAt}
use Rattle.hg_view.proofs.heads.has_child_in_common.Goals as goal

pub returns-then-is_in_common : goal.returns-then-is_in_common
returns-then-is_in_common c =
    let xs = c.children-child-items.result.now in
    let i = c.loop-child.child-index in
    let exact : (k : ℕ) → Contains xs k ↔ IsParentPlace (changesets c.args.replica.now.history) k c.args.place =
    subst (λ (cs : List Contents). (k : ℕ) → Contains xs k ↔ IsParentPlace cs k c.args.place) c.graph.ensures.graph
    c.children-child-items.ensures.exact in
    let parent = (exact (get_or xs i 0)).0 (Contains-get_or xs i 0 c.loop-child-test.true) in
    (λ t. (get_or xs i 0, parent, c.is_in_common.ensures.0 c.if-is_in_common.true), λ h. refl)

pub loop-child-preserved : goal.loop-child-preserved
loop-child-preserved c k h is =
    let xs = c.children-child-items.result.now in
    elim ((taken_one xs c.loop-child.child-index 0 k c.loop-child-test.true).0 h) [
      | inl before ↦ c.loop-child.invariant k before is
      | inr e ↦ true≢false (sym (c.is_in_common.ensures.1
          (subst (IsCommonAt c.args.replica.now c.args.other.now) (sym e) is)) ∙ c.if-is_in_common.false)
    ]

pub returns : goal.returns
returns c =
    let xs = c.children-child-items.result.now in
    let exact : (k : ℕ) → Contains xs k ↔ IsParentPlace (changesets c.args.replica.now.history) k c.args.place =
    subst (λ (cs : List Contents). (k : ℕ) → Contains xs k ↔ IsParentPlace cs k c.args.place) c.graph.ensures.graph
    c.children-child-items.ensures.exact in
    let all : take c.loop-child.child-index xs ≡ xs = take_all c.loop-child.child-index xs c.loop-child-test.false in
    let none = rw all at c.loop-child.invariant in (
      λ t. absurd (true≢false (sym t)),
      λ h. absurd (none h.0 ((exact h.0).1 h.1) h.2),
    )

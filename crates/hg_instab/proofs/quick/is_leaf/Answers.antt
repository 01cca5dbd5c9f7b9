use Rattle.std.proofs.Common.{◌↔◌, ℕ, List, Contains, sym, subst, ◌∙◌}
use Rattle.hg_changeset.specs.Contents.{Contents}
use Rattle.hg_graph.specs.Places.{IsParentPlace}
use Rattle.hg_phases.specs.State.{changesets}
use Rattle.hg_instab.proofs.QueryLemmas.{mutable_there, not_true, nothing-in}
use Rattle.hg_instab.proofs.SettlingLemmas.{children-by_place}
use Rattle.hg_instab.proofs.quick.is_leaf.Goals as goal

pub returns-then-is_empty : goal.returns-then-is_empty
returns-then-is_empty c t =
    let s = c.args.replica.now in
    let node = c.args.node in
    let place = c.args.place in
    let children = c.children.result.now in
    let exact : (k : ℕ) → Contains children k ↔ IsParentPlace (changesets s.history) k place =
    subst (λ (cs : List Contents). (k : ℕ) → Contains children k ↔ IsParentPlace cs k place) c.graph.ensures.graph
    c.children.ensures.exact in (
      mutable_there s c.graph.ensures.valid place node c.requires
          (λ public. not_true c.has_phase_at.result t ((c.has_phase_at.ensures node c.requires).1 public)),
      (children-by_place s c.graph.ensures.valid node place c.requires (λ _. ⊥) children exact).1
          (λ k h _ _. nothing-in children (sym c.is_empty.ensures ∙ c.if-is_empty.true) k h),
    )

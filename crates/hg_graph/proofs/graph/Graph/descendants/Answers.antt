use Rattle.std.proofs.Common.{◌≡◌, ◌↔◌, ◌+◌, ◌++◌, ◌∷◌, List, ℕ, [], Contains, length, sym, ap, subst, arith, ◌∙◌}
use Rattle.std.proofs.lemmas.List.{length-append}
use Rattle.std.proofs.lemmas.Option.{none-some}
use Rattle.hg_changeset.proofs.ListLemmas.{on_err_anyway}
use Rattle.hg_graph.specs.Places.{IsParentPlace, IsPlaceOfOne}
use Rattle.hg_graph.proofs.WalkLemmas.{IsWalked, IsWalked-start, IsWalked-step, IsWalked-end, found_less, one_held}
use Rattle.hg_graph.proofs.WalkLemmas.{taken_at, taken_within, placed_one, along}
use Rattle.hg_graph.proofs.QueueLemmas.{widens-same}
use Rattle.hg_graph.proofs.graph.Graph.descendants.Goals as goal

pub loop-place-init : goal.loop-place-init
loop-place-init c =
    let cs = c.args.self.now in
    let ns = c.args.nodes.now in
    let waiting = c.in_ok-waiting.waiting in
    let all = λ (k : ℕ). along (c.in_ok-waiting.ensures.answer k)
    (subst (λ (ps : List ℕ). Contains ps k ↔ IsPlaceOfOne cs ns k) (sym c.deref.ensures.value)
    (c.in_ok-places.ensures.answer k)) in (
      0,
      subst (λ found. IsWalked cs ns waiting found 0) (sym c.new-found.ensures.items)
          (IsWalked-start cs c.alloc.ensures ns waiting all),
    )

pub returns-in_err-waiting-clause-memory : goal.returns-in_err-waiting-clause-memory
returns-in_err-waiting-clause-memory c = on_err_anyway c.from_residual-in_err-waiting.result _
    (placed_one c.args.self.now c.args.nodes.now c.deref.result.now c.in_err-waiting.ensures.memory
    (λ (k : ℕ). subst (λ (ps : List ℕ). Contains ps k ↔ IsPlaceOfOne c.args.self.now c.args.nodes.now k)
    (sym c.deref.ensures.value) (c.in_ok-places.ensures.answer k)))

not_past : (c : goal.In_default-node_at) → ⊥
not_past c =
    let at = taken_at c.args.self.now c.alloc.ensures c.args.nodes.now c.loop-place.waiting
    c.loop-place.found.items c.loop-place.invariant.0 c.loop-place.invariant.1
    c.in-Some.place c.pop_first.new.self c.in-Some.ensures in
    none-some at.0 (sym c.in_default-node_at.is ∙ c.node_at.ensures ∙ at.1)

pub loop-place-preserved : goal.loop-place-preserved
loop-place-preserved c = absurd (not_past c)

pub loop-place-smaller : goal.loop-place-smaller
loop-place-smaller c = absurd (not_past c)

pub returns-in_err-push-clause-memory : goal.returns-in_err-push-clause-memory
returns-in_err-push-clause-memory c =
    on_err_anyway c.from_residual-in_err-push.result
    _ (one_held c.args.self.now c.alloc.ensures c.args.nodes.now c.loop-place.waiting c.loop-place.found.items
    c.loop-place.invariant.0 c.loop-place.invariant.1
    c.in-Some.place c.pop_first.new.self c.in-Some.ensures)

pub children-requires : goal.children-requires
children-requires c =
    taken_within c.args.self.now c.alloc.ensures c.args.nodes.now c.loop-place.waiting c.loop-place.found.items
    c.loop-place.invariant.0 c.loop-place.invariant.1
    c.in-Some.place c.pop_first.new.self c.in-Some.ensures

pub loop-place-smaller-in-Continue-branch-4 : goal.loop-place-smaller-in-Continue-branch-4
loop-place-smaller-in-Continue-branch-4 c =
    let less = found_less c.args.self.now c.alloc.ensures c.args.nodes.now c.loop-place.waiting
    c.loop-place.found.items c.loop-place.invariant.0 c.loop-place.invariant.1
    c.in-Some.place c.pop_first.new.self c.in-Some.ensures in
    let more : length c.push.new.self.items ≡ length (c.loop-place.found.items ++ c.in-Some-node_at.node ∷ []) =
    ap length c.in_ok-push.ensures.items in
    omega (arith, less, more, length-append c.loop-place.found.items (c.in-Some-node_at.node ∷ []))

pub loop-place-preserved-in-Continue-branch-4 : goal.loop-place-preserved-in-Continue-branch-4
loop-place-preserved-in-Continue-branch-4 c =
    let next = c.insert_each.new.self in
    let adds = widens-same _ (λ k. IsParentPlace c.args.self.now k c.in-Some.place) c.pop_first.new.self next
    (λ k. let x = c.children.ensures.exact k in (x.1, x.0)) c.in_ok-insert_each.ensures in
    let step = IsWalked-step c.args.self.now c.alloc.ensures c.args.nodes.now c.loop-place.waiting
    c.loop-place.found.items c.loop-place.invariant.0 c.loop-place.invariant.1
    c.in-Some.place c.pop_first.new.self c.in-Some.ensures
    c.in-Some-node_at.node (sym c.node_at.ensures ∙ c.in-Some-node_at.is) next adds in (
      c.in-Some.place + 1,
      subst (λ found. IsWalked c.args.self.now c.args.nodes.now next found (c.in-Some.place + 1))
          (sym c.in_ok-push.ensures.items) step,
    )

pub returns-in_err-insert_each-clause-memory : goal.returns-in_err-insert_each-clause-memory
returns-in_err-insert_each-clause-memory c =
    on_err_anyway c.from_residual-in_err-insert_each.result
    _ (one_held c.args.self.now c.alloc.ensures c.args.nodes.now c.loop-place.waiting c.loop-place.found.items
    c.loop-place.invariant.0 c.loop-place.invariant.1
    c.in-Some.place c.pop_first.new.self c.in-Some.ensures)

pub returns-clause-answer : goal.returns-clause-answer
returns-clause-answer c =
    IsWalked-end c.args.self.now c.alloc.ensures c.args.nodes.now c.loop-place.waiting c.loop-place.found.items
    c.loop-place.invariant.0 c.loop-place.invariant.1
    c.in_default.ensures

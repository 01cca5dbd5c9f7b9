use Rattle.std.proofs.Common.{◌≡◌, ◌<◌, length, arith, sym, subst, eqb-true, eq-eqb, true≢false, ◌∙◌}
use Rattle.hg_graph.specs.Places.{IsAncestorPlace}
use Rattle.hg_graph.specs.Waiting.{Waits, TakesLast}
use Rattle.hg_graph.proofs.PlaceLemmas.{ancestor_first, ancestor_itself}
use Rattle.hg_graph.proofs.WalkLemmas.{contains_none, emptied}
use Rattle.hg_graph.proofs.AscentLemmas.{IsClimbed, IsClimbed-start, IsClimbed-step, IsClimbed-end, IsClimbed-found}
use Rattle.hg_graph.proofs.AscentLemmas.{childless}
use Rattle.hg_graph.proofs.graph.Graph.is_ancestor_place.Goals as goal
use Rattle.hg_graph.proofs.graph.Graph.is_ancestor_place.Goals.{then-high-low-via-then-high-low}
use Rattle.hg_graph.proofs.graph.Graph.is_ancestor_place.Goals.{then-high-low-via-else-high-low+then-is_empty}

pub loop-place-init : goal.loop-place-init
loop-place-init c = IsClimbed-start c.args.self.now c.requires.graph c.args.low c.args.high c.new-waiting.result
    c.new-waiting.ensures c.requires.high

pub returns-then-high-low-clause-answer : goal.returns-then-high-low-clause-answer
returns-then-high-low-clause-answer c = (
  λ t. subst (IsAncestorPlace c.args.self.now c.args.low) (eqb-true c.args.low c.args.high t)
      (ancestor_itself c.args.self.now c.requires.graph c.args.low c.requires.low),
  λ h. eq-eqb c.args.low c.args.high (same h),
)
  where
    same : IsAncestorPlace c.args.self.now c.args.low c.args.high → c.args.low ≡ c.args.high
    same h =
        let first = ancestor_first c.args.self.now c.requires.graph c.args.low c.args.high h in
        elim c.then-high-low.branch [
          | then-high-low-via-then-high-low w ↦ omega (arith, first, w.if-high-low.true)
          | then-high-low-via-else-high-low+then-is_empty w ↦
              absurd (childless c.args.self.now c.requires.graph c.args.low c.args.high
              (omega (arith, w.if-high-low.false))
              (λ k parent. contains_none w.children.result.now k
              (emptied w.children.result.now
              (λ l. omega (
                arith,
                l,
                eqb-true (length w.children.result.now) 0
                    (sym w.is_empty.ensures ∙ w.if-is_empty.true),
              ))) ((w.children.ensures.exact k).1 parent)) h)
        ]

climbed : (c : goal.In-Some) → IsClimbed c.args.self.now c.args.low c.args.high c.next_place.new.waiting
    c.in-Some.next × (c.in-Some.next < c.loop-place.place)
climbed c =
    IsClimbed-step c.args.self.now c.requires.graph c.args.low c.args.high c.loop-place.waiting c.loop-place.place
    c.loop-place.invariant c.loop-place-test.true c.next_place.new.waiting c.in-Some.next
    (subst (TakesLast (Waits c.args.self.now c.loop-place.place c.loop-place.waiting) c.next_place.new.waiting)
    c.in-Some.is c.in_ok-next.ensures)

pub loop-place-preserved : goal.loop-place-preserved
loop-place-preserved c = (climbed c).0

pub loop-place-smaller : goal.loop-place-smaller
loop-place-smaller c = (climbed c).1

pub returns-in-None-clause-answer : goal.returns-in-None-clause-answer
returns-in-None-clause-answer c = (
  λ t. absurd (true≢false (sym t)),
  λ h. absurd (IsClimbed-end c.args.self.now c.requires.graph c.args.low c.args.high c.loop-place.waiting
      c.loop-place.place c.loop-place.invariant c.loop-place-test.true c.next_place.new.waiting
      (subst (TakesLast (Waits c.args.self.now c.loop-place.place c.loop-place.waiting) c.next_place.new.waiting)
      c.in-None.is c.in_ok-next.ensures) h),
)

pub returns-clause-answer : goal.returns-clause-answer
returns-clause-answer c =
    let found = IsClimbed-found c.args.self.now c.requires.graph c.args.low c.args.high c.loop-place.waiting
    c.loop-place.place c.loop-place.invariant c.loop-place-test.false in (
      λ t. found.0 (eqb-true c.args.low c.loop-place.place t),
      λ h. eq-eqb c.args.low c.loop-place.place (found.1 h),
    )

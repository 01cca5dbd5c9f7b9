use Rattle.std.proofs.Common.{ℕ, true≢false, sym, arith, ◌∙◌}
use Rattle.hg_graph.specs.Marks.{IsMarked}
use Rattle.hg_graph.proofs.MarkLemmas.{IsMarked-within}
use Rattle.hg_obsstore.proofs.PlaceLemmas.{one_more, no_more, all_listed}
use Rattle.hg_message.proofs.marks.marked_but.Goals as goal
use Rattle.hg_message.proofs.marks.marked_but.Goals.{then-is_marked_but+in_ok-push, else-is_marked_but}

pub loop-place-preserved : goal.loop-place-preserved
loop-place-preserved c =
    let Q : ℕ → Type 0 = λ k. IsMarked 0 c.args.marks.now k × ¬ (IsMarked 0 c.args.but.now k) in
    let found = c.loop-place.found.items in
    let place = c.loop-place.place in
    elim c.if-is_marked_but.branch [
      | then-is_marked_but+in_ok-push w ↦ rw (w.found-is, w.in_ok-push.ensures.items)
          (one_more Q found place c.loop-place.invariant (c.is_marked_but.ensures.0 w.if-is_marked_but.true))
      | else-is_marked_but w ↦ rw w.found-is (no_more Q found place c.loop-place.invariant
          (λ q. true≢false (sym (c.is_marked_but.ensures.1 q) ∙ w.if-is_marked_but.false)))
    ]

pub returns : goal.returns
returns c =
    let Q : ℕ → Type 0 = λ k. IsMarked 0 c.args.marks.now k × ¬ (IsMarked 0 c.args.but.now k) in
    all_listed Q c.loop-place.found.items c.loop-place.place c.loop-place.invariant
    (λ k q. omega (arith, IsMarked-within 0 c.args.marks.now k q.0, c.loop-place-test.false))

use Rattle.std.proofs.Common.{[], ◌∷◌, ◌++◌, take, sym, ap, ◌∙◌, arith}
use Rattle.std.proofs.lemmas.List.{take_more}
use Rattle.hg_world.specs.Runs.{snapshot}
use Rattle.hg_world.proofs.Longer.{run_last}
use Rattle.hg_world.proofs.Least.{valid_after}
use Rattle.hg_world.proofs.steps.run_all.Goals as goal

pub loop-event-preserved : goal.loop-event-preserved
loop-event-preserved g c =
    let i = c.loop-event.event-index in
    let before = c.loop-event.invariant in
    let happened = c.happen-answer.ensures.happens in
    let pushed = rw c.unwrap.ensures at c.push.ensures.items in
    let len = rw c.unwrap.ensures at c.push.ensures.len in
    let one_more = take_more _ _ _ c.loop-event-test.true
    ∙ ap (λ x. take i c.args.events.now ++ x ∷ []) (sym c.event-item.is) in
    let ran = run_last _ g.S.Actor _ _ _ _ _ _ _ _ _ before.ran.1 happened.1 in
    let laws = g.met.S.JoinState in
    record {
      counted = omega (arith, len, before.counted);
      room = omega (arith, c.push.ensures.capacity, before.room);
      left = omega (arith, before.left, c.happen-answer.ensures.len, c.happen-answer.ensures.capacity);
      valid =
          valid_after g.S.JoinState g.S.Actor laws.ordered laws.stays_covered laws.absorbed
          g.met.S.Actor.marked_says_the_same (snapshot c.loop-event.nodes c.loop-event.messages.items)
          (snapshot c.happen-answer.new.nodes c.happen-answer.new.messages.items) c.event-item.result
          _ happened.0 before.valid happened.1;
      ran = (before.ran.0 ++ happened.0 ∷ [], rw (one_more, pushed) ran);
    }

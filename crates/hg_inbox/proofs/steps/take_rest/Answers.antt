use Rattle.std.proofs.Common.{◌∙◌, ℕ, ◌++◌, ◌∷◌, [], List, length, ap, sym, arith, length-append, subst}
use Rattle.crossbeam_queue.specs.Passes.{view}
use Rattle.hg_inbox.specs.declared.rule.Log.{Log}
use Rattle.hg_inbox.specs.Rule.{IsWhole}
use Rattle.hg_inbox.proofs.RestLemmas.{Took, took_count, took_more, none_left, bytes, length-bytes, bytes-append}
use Rattle.hg_inbox.proofs.steps.take_rest.Goals as goal

pub take_left-message-requires : goal.take_left-message-requires
take_left-message-requires g c =
    let i = c.loop.invariant in
    let counted = i.counted in
    let all = c.count-left.ensures.count.1 in
    let more = c.loop-test.true in (
      i.pass,
      ap (λ (h : Log). h.parts) i.taken ∙ c.requires.pass.1,
      omega (
        arith,
        took_count (view c.args.pass.now) (view c.loop.pass) (bytes c.loop.rest.items) i.taken,
        length-bytes c.loop.rest.items,
        ap (λ (h : Log). length h.puts) i.taken,
      ),
    )

pub loop-preserved : goal.loop-preserved
loop-preserved g c =
    let i = c.loop.invariant in
    let same = c.take_left-message.ensures.same in
    let counted = i.counted in
    let room = i.room in
    let roomy = c.push_reserved.ensures.capacity in
    record {
      pass = (same.0 ∙ i.pass.0, same.2 ∙ i.pass.1);
      taken = subst (λ (ms : List (List ℕ)). Took (view c.args.pass.now) ms (view c.take_left-message.new.pass))
          (ap (λ (m : List ℕ). bytes c.loop.rest.items ++ m ∷ []) (sym c.message.view_is)
          ∙ (sym (bytes-append c.loop.rest.items c.message.inside.bytes)
          ∙ ap bytes (sym c.push_reserved.ensures.items)))
          (took_more (view c.args.pass.now) (view c.loop.pass) (view c.take_left-message.new.pass)
          (bytes c.loop.rest.items) c.take_left-message.result i.taken c.take_left-message.ensures.next);
      counted = omega (
        arith,
        ap length c.push_reserved.ensures.items,
        length-append c.loop.rest.items
            (c.message.inside.bytes ∷ []),
      );
      room = omega arith;
    }

pub returns-clause-rest : goal.returns-clause-rest
returns-clause-rest g c =
    let i = c.loop.invariant in
    let same = c.learn.ensures.same.1 in
    let counted = i.counted in
    let all = c.count-left.ensures.count.1 in
    let end = c.loop.auto.counter-end in
    let stop = c.loop-test.false in
    let goes : Took (view c.args.pass.now) (bytes c.loop.rest.items) (view c.learn.new.pass) = same ∙ i.taken in
    let whole = c.learn.ensures.whole in (
      goes,
      subst (λ (v : Log). IsWhole v []) (sym same)
          (none_left (view c.args.pass.now) (view c.loop.pass) (bytes c.loop.rest.items) whole.0 i.taken
          (omega (arith, length-bytes c.loop.rest.items)) whole.1),
    )

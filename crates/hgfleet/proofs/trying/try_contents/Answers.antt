use Rattle.std.proofs.Common.{◌∙◌, ap, length, subst, sym, true≢false}
use Rattle.hgfleet.specs.Trying.{AreMessagesTaken}
use Rattle.hgfleet.proofs.TryingLemmas.{trial_told, unwritten_ends_trial}
use Rattle.hgfleet.proofs.trying.try_contents.Goals as goal

pub returns-then-are_taken-clause-done : goal.returns-then-are_taken-clause-done
returns-then-are_taken-clause-done g c = (
  c.in_ok-tried.tried.answers.items,
  trial_told c.args.wanted.now c.in_ok-messages.messages.items c.deref-2.result.now c.in_ok-tried.tried.answers.items
      c.in_ok-tried.tried.trial _ _ (c.in_ok-messages.ensures ∙ ap length c.deref.ensures.value) c.deref-2.ensures.value
      c.in_ok-tried.ensures.answers c.in_ok-tried.ensures.least c.in_ok-tried.ensures.written,
  subst AreMessagesTaken c.deref-3.ensures.value (c.are_taken.ensures.0 c.if-are_taken.true),
)

pub returns-clause-failed : goal.returns-clause-failed
returns-clause-failed g c = (
  c.in_ok-tried.tried.answers.items,
  trial_told c.args.wanted.now c.in_ok-messages.messages.items c.deref-2.result.now c.in_ok-tried.tried.answers.items
      c.in_ok-tried.tried.trial _ _ (c.in_ok-messages.ensures ∙ ap length c.deref.ensures.value) c.deref-2.ensures.value
      c.in_ok-tried.ensures.answers c.in_ok-tried.ensures.least c.in_ok-tried.ensures.written,
  λ taken. true≢false
      (sym (c.are_taken.ensures.1 (subst AreMessagesTaken (sym c.deref-3.ensures.value) taken)) ∙ c.if-are_taken.false),
)

pub returns-in-Err-clause-failed : goal.returns-in-Err-clause-failed
returns-in-Err-clause-failed g c =
    let count = c.in_ok-messages.ensures ∙ ap length c.deref.ensures.value in
    unwritten_ends_trial c.args.wanted.now _ _ c.in-Err.failure c.in-Err.ensures (
      c.in_ok-tried.tried.answers.items,
      trial_told c.args.wanted.now c.in_ok-messages.messages.items c.deref-2.result.now
          c.in_ok-tried.tried.answers.items c.in_ok-tried.tried.trial _ _ count c.deref-2.ensures.value
          c.in_ok-tried.ensures.answers c.in_ok-tried.ensures.least c.in_ok-tried.ensures.written,
    )

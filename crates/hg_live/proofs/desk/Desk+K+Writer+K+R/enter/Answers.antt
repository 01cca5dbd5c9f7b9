use Rattle.std.proofs.Common.{◌∙◌, ap, arith}
use Rattle.hg_live.specs.NodeViews.{PublishedView}
use Rattle.hg_live.proofs.AfterLemmas.{after_grown, counted_grown}
use Rattle.hg_live.proofs.WaitLemmas.{waits_behind, rest_behind, none_behind}
use Rattle.hg_live.proofs.desk.Desk+K+Writer+K+R.enter.Goals as goal

pub invariant_of-self-in-Some : goal.invariant_of-self-in-Some
invariant_of-self-in-Some g c =
    let i = c.self.inside in
    let v = c.self.invariant in
    let grown = c.noted-step.ensures.journal in
    record {
      after = after_grown g.K.NodeName.opening i.working c.accept.new.peer i.journal _ c.args.entry v.after
          c.in-Ok.ensures.ok grown;
      rest = none_behind (λ step. step.entry) _ _ _ _
          (c.in-Some.ensures.shown ∙ c.again-after.ensures ∙ c.noted-step.ensures.step.1) c.in-Some.ensures.rest;
      counted = counted_grown i.book.total c.count.new.book.total i.journal _ c.args.entry c.count.ensures.total
          v.counted grown;
      unasked = v.unasked;
      start = v.start;
      room = omega arith;
      parts = v.parts;
    }

pub invariant_of-self-2 : goal.invariant_of-self-2
invariant_of-self-2 g c =
    let i = c.self.inside in
    let v = c.self.invariant in
    let grown = c.noted-step.ensures.journal in
    let told = c.in-None.ensures in
    record {
      after = after_grown g.K.NodeName.opening i.working c.accept.new.peer i.journal _ c.args.entry v.after
          c.in-Ok.ensures.ok grown;
      rest = rest_behind (λ step. step.entry) _ _ _ _ _ _ _ _ told.rest c.push_back_reserved.ensures.items
          c.reserve.ensures.items c.noted-step.ensures.step.0 _ _ _ _ v.rest grown
          (ap (λ (p : PublishedView). p.entries) told.shown);
      counted = counted_grown i.book.total c.count.new.book.total i.journal _ c.args.entry c.count.ensures.total
          v.counted grown;
      unasked = v.unasked;
      start = v.start;
      room = omega arith;
      parts = v.parts;
    }

pub returns-clause-noted : goal.returns-clause-noted
returns-clause-noted g c =
    let told = c.in-None.ensures in
    rw (← c.self.view_is) record {
      journal = c.noted-step.ensures.journal;
      working = c.in-Ok.ensures.ok;
      published = ap (λ (p : PublishedView). p.entries) told.shown;
      waiting = waits_behind (λ step. step.entry) _ _ _ _ _ _ _ _ told.rest c.push_back_reserved.ensures.items
          c.reserve.ensures.items c.noted-step.ensures.step.0;
    }

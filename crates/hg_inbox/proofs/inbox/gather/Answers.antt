use Rattle.std.proofs.Common.{◌≡◌, ◌∙◌, ◌+◌, ◌++◌, List, length, All, ap, refl, sym, subst, arith, append_assoc}
use Rattle.crossbeam_queue.specs.Passes.{view}
use Rattle.hg_inbox.specs.declared.rule.Log.{Log}
use Rattle.hg_inbox.specs.Views.{SeatLog, all_puts, all_takes, EachAscends}
use Rattle.hg_inbox.specs.Rule.{Ascends}
use Rattle.std.proofs.lemmas.List.Elements.{All-tail, All-cons}
use Rattle.hg_inbox.proofs.inbox.gather.Goals as goal

pub loop-seat-preserved : goal.loop-seat-preserved
loop-seat-preserved c =
    let i = c.loop-seat.invariant in
    let is = c.in-Some.ensures.steps.0 in
    let same = c.give_back.ensures.same in
    let both = c.give_back.ensures.both in
    let v = view c.loop-seat.origin in
    let u = view c.seat.inside.pass in
    let rest = c.next.new.self.rest.items in
    let P : SeatLog → Type 0 = λ seat. seat.inbox ≡ c.args.queue.now.table.shared.table_id in
    record {
      same = (same.0 ∙ i.same.0, same.1 ∙ i.same.1, same.2 ∙ i.same.2);
      seats = All-tail P c.in-Some.seat rest (subst (λ (xs : List SeatLog). All P xs) is i.seats);
      parts = (let one = c.seat.invariant.1 in let p = i.parts in
          omega (arith, ap (λ (h : Log). h.parts) both, ap length is));
      puts = ap (λ (h : Log). h.puts ++ all_puts rest) both
          ∙ (append_assoc v.puts u.puts (all_puts rest)
          ∙ (ap (λ (s : SeatLog). v.puts ++ (s.puts ++ all_puts rest)) c.seat.view_is
          ∙ (ap (λ (xs : List SeatLog). v.puts ++ all_puts xs) (sym is) ∙ i.puts)));
      numbers = λ others.
          i.numbers (subst EachAscends (sym is)
          (All-cons (λ (s : SeatLog). Ascends s.puts × Ascends s.takes) c.in-Some.seat rest
          (subst (λ (s : SeatLog). Ascends s.puts × Ascends s.takes) c.seat.view_is
          (c.seat.invariant.2, c.seat.invariant.3)) others));
      takes = ap (λ (h : Log). h.takes ++ all_takes rest) both
          ∙ (append_assoc v.takes u.takes (all_takes rest)
          ∙ (ap (λ (s : SeatLog). v.takes ++ (s.takes ++ all_takes rest)) c.seat.view_is
          ∙ (ap (λ (xs : List SeatLog). v.takes ++ all_takes xs) (sym is) ∙ i.takes)));
    }

pub loop-seat-init : goal.loop-seat-init
loop-seat-init c =
    let e = c.into_iter-seat-iterator.ensures.into_iter_gives.0 in
    let o = view c.args.origin.now in
    let P : SeatLog → Type 0 = λ seat. seat.inbox ≡ c.args.queue.now.table.shared.table_id in
    record {
      same = (refl, refl, refl);
      seats = subst (λ (xs : List SeatLog). All P xs) (sym e) c.requires.1;
      parts = ap (λ (xs : List SeatLog). o.parts + length xs) e;
      puts = ap (λ (xs : List SeatLog). o.puts ++ all_puts xs) e;
      numbers = λ a. subst EachAscends e a;
      takes = ap (λ (xs : List SeatLog). o.takes ++ all_takes xs) e;
    }

pub returns-clause-numbers : goal.returns-clause-numbers
returns-clause-numbers c =
    let ok = c.loop-seat.seat-iterator.rest.ok in
    let none = c.in-None.ensures.steps.0 in
    c.loop-seat.invariant.numbers (λ k d below. absurd (omega arith))

use Rattle.std.proofs.Common.{◌≡◌, ◌≤◌, ◌+◌, ◌-◌, [], ◌∷◌, ◌++◌, length, replicate, false, sym, ap, subst, arith}
use Rattle.std.proofs.Common.{append-nil}
use Rattle.std.proofs.lemmas.List.{length-append}
use Rattle.hg_phases.proofs.SeatLemmas.{begins-itself, begins-push, begins-taken, begins-same, seated-push}
use Rattle.hg_phases.proofs.SeatLemmas.{flags-push}
use Rattle.hg_phases.specs.Seats.{flags_of}
use Rattle.hg_phases.proofs.place_set.seat_places.Goals as goal

pub loop-place-init : goal.loop-place-init
loop-place-init c = record {
  seated = c.requires.seated;
  at = omega (arith, c.len-place.ensures, c.args.order.now.ok.0);
  within = omega (arith, c.len-place.ensures, c.args.order.now.ok.0, c.requires.within);
  places = begins-itself c.args.order.now.items;
  numbers = begins-itself c.args.seats.now.items;
  flags = λ count le.
      let flags = flags_of c.args.seats.now.items count in
      let none : 0 ≡ c.len-place.result - length c.args.seats.now.items =
      omega (arith, c.len-place.ensures, c.requires.seated.len) in
      subst (λ n. flags ≡ flags ++ replicate n false) none (sym (append-nil flags));
}

pub loop-place-preserved : goal.loop-place-preserved
loop-place-preserved c =
    let i = c.loop-place.invariant in
    let order_is = c.in_ok-push.ensures.items in
    let seats_is = c.in_ok-push-2.ensures.items in
    let long = ap length order_is in
    record {
      seated =
          let seated = seated-push _ _ i.seated _ (sym i.at) in
          rw (← order_is, ← seats_is) at seated;
      at = omega (arith, long, length-append c.loop-place.order.items (c.loop-place.place ∷ []), i.at);
      within = omega (arith, c.loop-place-test.true);
      places = begins-push _ _ _ _
          order_is i.places;
      numbers = begins-push _ _ _
          _ seats_is i.numbers;
      flags = λ count le.
          let place = c.loop-place.place in
          let firsts = c.args.seats.now.items in
          let before = length firsts in
          let first : before ≤ place =
          omega (arith, ap length i.numbers.1, length-append firsts i.numbers.0, i.seated.len, i.at) in
          let more : (place - before) + 1 ≡ (place + 1) - before = omega (arith, first) in
          subst (λ xs. flags_of xs count ≡ flags_of firsts count ++ replicate ((place + 1) - before) false)
          (sym seats_is) (subst (λ n. flags_of (c.loop-place.seats.items ++ place ∷ []) count
          ≡ flags_of firsts count ++ replicate n false) more (flags-push _ _ _ _ _
          (omega (arith, le, first)) (i.flags count le)));
    }

pub returns-in_err-push-clause-order : goal.returns-in_err-push-clause-order
returns-in_err-push-clause-order c =
    begins-taken _ _ (begins-same _ _ _ c.in_err-push.ensures.items c.loop-place.invariant.places)

pub returns-in_err-push-clause-seats : goal.returns-in_err-push-clause-seats
returns-in_err-push-clause-seats c =
    begins-taken c.args.seats.now.items c.loop-place.seats.items c.loop-place.invariant.numbers

pub returns-in_err-push-2-clause-order : goal.returns-in_err-push-2-clause-order
returns-in_err-push-2-clause-order c =
    begins-taken _ _ (begins-push _ _ _ _ c.in_ok-push.ensures.items c.loop-place.invariant.places)

pub returns-in_err-push-2-clause-seats : goal.returns-in_err-push-2-clause-seats
returns-in_err-push-2-clause-seats c =
    begins-taken _ _ (begins-same _ _ _ c.in_err-push-2.ensures.items c.loop-place.invariant.numbers)

pub returns-clause-order : goal.returns-clause-order
returns-clause-order c =
    begins-taken c.args.order.now.items c.loop-place.order.items c.loop-place.invariant.places

pub returns-clause-seats : goal.returns-clause-seats
returns-clause-seats c =
    begins-taken c.args.seats.now.items c.loop-place.seats.items c.loop-place.invariant.numbers

pub returns-clause-flags : goal.returns-clause-flags
returns-clause-flags c count le =
    let firsts = c.args.seats.now.items in
    let end : c.loop-place.place ≡ c.args.bound =
    omega (arith, c.loop-place.invariant.within, c.loop-place-test.false) in
    subst (λ n. flags_of c.loop-place.seats.items count
    ≡ flags_of firsts count ++ replicate (n - length firsts) false) end (c.loop-place.invariant.flags count le)

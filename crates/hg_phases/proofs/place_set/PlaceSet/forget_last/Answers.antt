use Rattle.std.proofs.Common.{◌≡◌, ◌-◌, ◌<◌, ◌≤◌, ℕ, suc, false, take, slice_get, Some, length, ap, ◌∙◌, arith}
use Rattle.std.proofs.lemmas.List.{length-set, take-set, length-take-le}
use Rattle.std.proofs.lemmas.Option.{slice_get_within}
use Rattle.hg_graph.proofs.MarkLemmas.{get-set_same}
use Rattle.hg_phases.specs.Seats.{flags_of}
use Rattle.hg_phases.proofs.SeatLemmas.{place-within, seat-read, length-swapped, length-flags, seated-forget, seat-out}
use Rattle.hg_phases.proofs.SeatLemmas.{flags-taken, flags-behind, last-seat}
use Rattle.hg_phases.proofs.place_set.PlaceSet.forget_last.Goals as goal
use Rattle.hg_phases.proofs.place_set.PlaceSet.forget_last.Goals.{After-index-seat}

-- the place that goes
abbrev last : After-index-seat → ℕ
last c = c.len-last.result - 1

long : (c : After-index-seat) → length c.args.self.now ≡ suc (last c)
long c = omega (
  arith,
  c.len-last.ensures,
  c.self.inside.order.ok.0,
  c.self.invariant.0.len,
  ap length c.self.view_is,
  length-flags c.self.inside.seats.items c.self.inside.count,
  c.requires,
)

down : (c : After-index-seat) → slice_get c.remove.new.self (last c) ≡ Some false
down c = ap (λ fs. slice_get fs (last c)) c.remove.ensures
    ∙ get-set_same c.args.self.now (last c) false (omega (arith, long c))

at : (c : After-index-seat) → slice_get c.self-2.inside.seats.items (last c) ≡ Some c.index-seat.result.now
at c = seat-read c.self-2.inside.seats.items c.self-2.inside.count c.remove.new.self (last c) c.index-seat.result.now
    c.self-2.view_is (slice_get_within c.remove.new.self (last c) false (down c)) c.index-seat.ensures

within : (c : After-index-seat) → c.index-seat.result.now < length c.self-2.inside.order.items
within c = place-within c.self-2.inside.order.items c.self-2.inside.seats.items c.self-2.invariant.0 (last c)
    c.index-seat.result.now (at c)

border : (c : After-index-seat) → c.self-2.inside.count ≤ c.index-seat.result.now
border c = seat-out c.self-2.inside.seats.items c.self-2.inside.count c.remove.new.self (last c)
    c.index-seat.result.now c.self-2.view_is (down c) (at c)

order-long : (c : After-index-seat) → length c.self-2.inside.order.items ≡ suc (last c)
order-long c = omega (
  arith,
  long c,
  c.self-2.invariant.0.len,
  ap length c.self-2.view_is,
  length-flags c.self-2.inside.seats.items c.self-2.inside.count,
  ap length c.remove.ensures,
  length-set c.args.self.now (last c) false,
)

pub swap_seats-requires-clause-one : goal.swap_seats-requires-clause-one
swap_seats-requires-clause-one c = within (goal.at.swap_seats-requires-clause-one c).After-index-seat

pub invariant_of-self : goal.invariant_of-self
invariant_of-self c =
    let h = (goal.at.invariant_of-self c).After-index-seat in
    let seats = c.self-2.inside.seats.items in
    let seat = c.index-seat.result.now in
    let after = c.swap_seats.new.order.items in
    let others = c.swap_seats.new.seats.items in
    let seated = c.swap_seats.ensures.seated in
    let same : length after ≡ suc (last h) = length-swapped c.self-2.inside.order.items seats after others seat (last h)
    c.self-2.invariant.0 seated c.swap_seats.ensures.seats ∙ order-long h in
    let forgot = seated-forget after others seated (last h) same
    (last-seat seats others seat (last h) (last h) c.swap_seats.ensures.seats (at h)) in (
      rw (← c.truncate.ensures.items, ← c.truncate-2.ensures.items) at forgot,
      omega (
        arith,
        ap length c.truncate.ensures.items,
        length-take-le (last h) after (omega (arith, same)),
        border h,
        within h,
        order-long h,
      ),
    )

pub returns : goal.returns
returns c =
    let h = (goal.at.returns c).After-index-seat in
    let seats = c.self-2.inside.seats.items in
    let count = c.self-2.inside.count in
    let n : last h ≡ length c.args.self.now - 1 = omega (arith, long h) in
    ap (λ xs. flags_of xs count) c.truncate-2.ensures.items
    ∙ flags-taken c.swap_seats.new.seats.items count (last h)
    ∙ ap (λ xs. take (last h) (flags_of xs count)) c.swap_seats.ensures.seats
    ∙ ap (take (last h)) (flags-behind c.self-2.inside.order.items seats count c.self-2.invariant.0
    c.index-seat.result.now (last h) (border h) (omega (arith, border h, within h, order-long h)))
    ∙ ap (take (last h)) (c.self-2.view_is ∙ c.remove.ensures) ∙ take-set c.args.self.now (last h) false
    ∙ ap (λ m. take m c.args.self.now) n

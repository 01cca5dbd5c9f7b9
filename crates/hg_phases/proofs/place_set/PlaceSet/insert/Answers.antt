use Rattle.std.proofs.Common.{◌≡◌, ◌<◌, ◌+◌, true, slice_get, slice_set, Some, length, sym, ap, ◌∙◌, arith}
use Rattle.hg_phases.specs.Seats.{flags_of}
use Rattle.hg_phases.proofs.SeatLemmas.{place-within, inserted, kept-in, seat-read, length-swapped}
use Rattle.hg_phases.proofs.place_set.PlaceSet.insert.Goals as goal
use Rattle.hg_phases.proofs.place_set.PlaceSet.insert.Goals.{After-index-seat}

at : (c : After-index-seat) → slice_get c.self.inside.seats.items c.args.place ≡ Some c.index-seat.result.now
at c = seat-read c.self.inside.seats.items c.self.inside.count c.args.self.now c.args.place c.index-seat.result.now
    c.self.view_is c.requires c.index-seat.ensures

within : (c : After-index-seat) → c.index-seat.result.now < length c.self.inside.order.items
within c = place-within c.self.inside.order.items c.self.inside.seats.items c.self.invariant.0 c.args.place
    c.index-seat.result.now (at c)

pub swap_seats-requires-clause-one : goal.swap_seats-requires-clause-one
swap_seats-requires-clause-one c = within (goal.at.swap_seats-requires-clause-one c).After-index-seat

pub swap_seats-requires-clause-other : goal.swap_seats-requires-clause-other
swap_seats-requires-clause-other c =
    omega (arith, within (goal.at.swap_seats-requires-clause-other c).After-index-seat, c.if-self-seat.true)

pub invariant_of-self : goal.invariant_of-self
invariant_of-self c =
    let l = within (goal.at.invariant_of-self c).After-index-seat in
    let long = length-swapped c.self.inside.order.items c.self.inside.seats.items c.swap_seats.new.order.items
    c.swap_seats.new.seats.items c.index-seat.result.now c.self.inside.count c.self.invariant.0
    c.swap_seats.ensures.seated c.swap_seats.ensures.seats in
    (c.swap_seats.ensures.seated, omega (arith, l, c.if-self-seat.true, long))

pub returns-then-self-seat : goal.returns-then-self-seat
returns-then-self-seat c =
    ap (λ xs. flags_of xs (c.self.inside.count + 1)) c.swap_seats.ensures.seats
    ∙ inserted c.self.inside.order.items c.self.inside.seats.items c.self.inside.count c.self.invariant.0 c.args.place
    c.index-seat.result.now (at (goal.at.returns-then-self-seat c).After-index-seat) c.if-self-seat.true
    ∙ ap (λ flags. slice_set flags c.args.place true) c.self.view_is

pub returns-else-self-seat : goal.returns-else-self-seat
returns-else-self-seat c =
    sym c.self.view_is
    ∙ kept-in c.self.inside.order.items c.self.inside.seats.items c.self.inside.count c.self.invariant.0 c.args.place
    c.index-seat.result.now (at (goal.at.returns-else-self-seat c).After-index-seat)
    (omega (arith, c.if-self-seat.false)) ∙ ap (λ flags. slice_set flags c.args.place true) c.self.view_is

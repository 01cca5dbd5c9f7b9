use Rattle.std.proofs.Common.{◌≡◌, ◌-◌, false, slice_get, slice_set, Some, sym, ap, ◌∙◌, arith}
use Rattle.hg_phases.specs.Seats.{flags_of}
use Rattle.hg_phases.proofs.SeatLemmas.{removed, kept-out, seat-read}
use Rattle.hg_phases.proofs.place_set.PlaceSet.remove.Goals as goal
use Rattle.hg_phases.proofs.place_set.PlaceSet.remove.Goals.{After-index-seat}

at : (c : After-index-seat) → slice_get c.self.inside.seats.items c.args.place ≡ Some c.index-seat.result.now
at c = seat-read c.self.inside.seats.items c.self.inside.count c.args.self.now c.args.place c.index-seat.result.now
    c.self.view_is c.requires c.index-seat.ensures

pub returns-then-seat-self : goal.returns-then-seat-self
returns-then-seat-self c =
    ap (λ xs. flags_of xs (c.self.inside.count - 1)) c.swap_seats.ensures.seats
    ∙ removed c.self.inside.order.items c.self.inside.seats.items c.self.inside.count c.self.invariant.0 c.args.place
    c.index-seat.result.now (at (goal.at.returns-then-seat-self c).After-index-seat) c.if-seat-self.true
    ∙ ap (λ flags. slice_set flags c.args.place false) c.self.view_is

pub returns-else-seat-self : goal.returns-else-seat-self
returns-else-seat-self c =
    sym c.self.view_is
    ∙ kept-out c.self.inside.order.items c.self.inside.seats.items c.self.inside.count c.self.invariant.0 c.args.place
    c.index-seat.result.now (at (goal.at.returns-else-seat-self c).After-index-seat)
    (omega (arith, c.if-seat-self.false)) ∙ ap (λ flags. slice_set flags c.args.place false) c.self.view_is

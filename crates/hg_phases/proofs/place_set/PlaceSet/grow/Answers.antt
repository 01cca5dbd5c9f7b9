use Rattle.std.proofs.Common.{◌≡◌, ◌-◌, ◌++◌, false, length, replicate, sym, ap, arith, ◌∙◌}
use Rattle.hg_phases.specs.Seats.{flags_of}
use Rattle.hg_phases.proofs.SeatLemmas.{length-flags}
use Rattle.hg_phases.proofs.place_set.PlaceSet.grow.Goals as goal

pub returns-in-Ok-clause-grown : goal.returns-in-Ok-clause-grown
returns-in-Ok-clause-grown c =
    let seats = c.self.inside.seats.items in
    let count = c.self.inside.count in
    let n : length seats ≡ length c.args.self.now = sym (length-flags seats count) ∙ ap length c.self.view_is in
    c.in-Ok.ensures.flags count (omega (arith, c.self.invariant.0.len, c.self.invariant.1))
    ∙ ap (λ m. flags_of seats count ++ replicate (c.args.bound - m) false) n
    ∙ ap (λ flags. flags ++ replicate (c.args.bound - length c.args.self.now) false) c.self.view_is

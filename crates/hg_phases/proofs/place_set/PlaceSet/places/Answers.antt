use Rattle.std.proofs.Common.{ℕ, Contains, take, ◌↔◌, ◌≡◌, Some, true, slice_get, sym, subst}
use Rattle.hg_phases.proofs.SeatLemmas.{listed-first}
use Rattle.hg_phases.proofs.place_set.PlaceSet.places.Goals as goal

pub returns : goal.returns
returns c =
    let count = c.self.inside.count in
    subst (λ xs. (p : ℕ) → Contains (take count xs) p ↔ (slice_get c.args.self.now p ≡ Some true))
    (sym c.deref.ensures.value)
    (subst (λ flags. (p : ℕ) → Contains (take count c.self.inside.order.items) p ↔ (slice_get flags p ≡ Some true))
    c.self.view_is
    (listed-first c.self.inside.order.items c.self.inside.seats.items count c.self.invariant.0))

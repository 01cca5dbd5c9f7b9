use Rattle.std.proofs.Common.{◌≡◌, ◌≤◌, ◌-◌, ◌++◌, ℕ, List, length, replicate, false}
use Rattle.hg_phases.specs.Seats.{AreSeated, flags_of}
use Rattle.hg_phases.proofs.SeatLemmas.{Begins}
use Rattle.hg_phases.proofs.place_set.seat_places.Given as goal

pub record IsSeatedTo (order seats : List ℕ) (place bound : ℕ) (first firsts : List ℕ) : Type 0 where
  pub seated : AreSeated order seats
  pub at : length order ≡ place
  pub within : place ≤ bound
  pub places : Begins first order
  pub numbers : Begins firsts seats
  pub flags : (count : ℕ) → count ≤ length firsts
      → flags_of seats count ≡ flags_of firsts count ++ replicate (place - length firsts) false

abbrev pub invariant-loop-place : goal.invariant-loop-place
invariant-loop-place l = IsSeatedTo l.order.items l.seats.items l.place l.bound l.fn.order.items l.fn.seats.items

-- Places in an order, and the seat of each.
use Rattle.std.specs.Prelude.{◌≡◌, ℕ, List, Bool, Some, length, map, slice_get, nat_eq, nat_lt, if◌then◌else◌, ◌↔◌}

-- each place has the seat where it stands in the order
pub record AreSeated (order seats : List ℕ) : Type 0 where
  pub len : length seats ≡ length order
  pub seated : (p s : ℕ) → (slice_get seats p ≡ Some s) ↔ (slice_get order s ≡ Some p)

-- whether each place has one of the first seats
abbrev pub flags_of : List ℕ → ℕ → List Bool
flags_of seats count = map (λ seat. nat_lt seat count) seats

-- the seat of what stood there, since two seats were changed
abbrev pub swapped : ℕ → ℕ → ℕ → ℕ
swapped one other seat = if nat_eq seat one then other else (if nat_eq seat other then one else seat)

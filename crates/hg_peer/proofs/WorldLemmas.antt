-- Lists of which something holds of each, looked at by place.
use Rattle.std.proofs.Common.{◌≡◌, ℕ, List, All, Some, slice_get, subst}
use Rattle.std.proofs.lemmas.Option.{get_or_from_slice_get, slice_get_within}

-- what holds of each holds of the one at a place
pub all_at : {A : Type 0} (P : A → Type 0) (xs : List A) → All P xs → (place : ℕ) (x : A) →
    slice_get xs place ≡ Some x → P x
all_at P xs all place x at =
    subst P (get_or_from_slice_get xs place x x at) (all place x (slice_get_within xs place x at))

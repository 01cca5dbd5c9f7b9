-- What a reader had, from what was read of it.
use Rattle.std.proofs.Common.{◌≡◌, ◌<◌, ◌+◌, ℕ, List, length, drop, Option, Some, None, IfSome}
use Rattle.std.proofs.Common.{ap, ◌∙◌}
use Rattle.std.proofs.Common.{arith, length-append}
use Rattle.std.specs.Io.{StartsWith}
use Rattle.std.specs.Io.KnownBytes.{Keeps}
use Rattle.std.proofs.KnownBytes.{starts_with_rest}
use Rattle.hg_show.specs.Answers.{IsMoreLeft}

-- what was looked at is left
pub shown_is_left : (known left : Option (List ℕ)) (shown : List ℕ) → Keeps known left
    → IfSome known (λ xs. StartsWith xs shown) → 0 < length shown → IsMoreLeft known left
shown_is_left None left shown kept front some = tt
shown_is_left (Some xs) None shown kept front some = absurd kept
shown_is_left (Some xs) (Some ys) shown kept front some =
    let len : length xs ≡ length shown + length (drop (length shown) xs) =
    ap length (starts_with_rest xs shown front) ∙ length-append shown (drop (length shown) xs) in
    omega (arith, len, ap length kept, some)

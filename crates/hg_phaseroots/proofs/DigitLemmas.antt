-- The number of the digits so far.
use Rattle.std.proofs.Common.{◌≡◌, ℕ, ◌+◌, ◌-◌, ◌*◌, ◌^◌, ◌<◌, ◌≤◌, true, List, [], ◌∷◌, ◌++◌, length, refl, ◌∙◌, arith}
use Rattle.std.proofs.Common.{lit<}
use Rattle.std.specs.List.{list_all}
use Rattle.std.specs.Char.{digit_value}
use Rattle.std.specs.Str.Parse.{digits_value, AllDigits}
use Rattle.std.proofs.lemmas.Bool.{lt-ltb, le-ltb, le-leb}
use Rattle.std.proofs.lemmas.List.Folds.{list_all-append}
use Rattle.std.proofs.lemmas.Int.Digits.{digits_value-lt, digits_value_push, digits_push}
use Rattle.std.proofs.Math.Nat.{pow-le-pow_right}
use Rattle.hg_phaseroots.specs.Reading.{is_decimal}

pub record IsNumberSoFar (cs : List ℕ) (n : ℕ) : Type 0 where
  pub digits : AllDigits 10 cs
  pub decimal : list_all is_decimal cs ≡ true
  pub number : n ≡ digits_value 10 cs

decimal_value : (c : ℕ) → 48 ≤ c → c ≤ 57 → digit_value c ≡ c - 48
decimal_value c low high = rw (le-ltb c 48 low, lt-ltb c 58 (omega arith)) refl

pub one_more : (digits : List ℕ) (c n : ℕ) → 48 ≤ c → c ≤ 57 → IsNumberSoFar digits n
    → IsNumberSoFar (digits ++ c ∷ []) (n * 10 + (c - 48))
one_more digits c n low high h =
    let v = decimal_value c low high in
    let below : digit_value c < 10 = rw v (omega arith) in
    record {
      digits = digits_push 10 digits c h.digits below;
      decimal = list_all-append is_decimal digits (c ∷ []) ∙ rw (h.decimal, le-leb 48 c low, le-leb c 57 high) refl;
      number = rw (digits_value_push, v, ← h.number) refl;
    }

pub small : (digits : List ℕ) (n : ℕ) → length digits < 9 → IsNumberSoFar digits n → n < 100000000
small digits n lt h =
    let a : n < 10 ^ length digits = rw h.number (digits_value-lt 10 digits h.digits) in
    let b : 10 ^ length digits ≤ 10 ^ 8 = pow-le-pow_right {n = 10} (lit< tt) {i = length digits}
    {j = 8} (omega arith) in
    omega (arith, a, b)

-- The numbers that are given for a race's options.
use Rattle.std.proofs.Common.{◌≡◌, ◌∙◌, ◌<◌, ◌≤◌, ◌^◌, ℕ, Bool, true, false, cond, refl, sym, ap, subst, arith}
use Rattle.std.proofs.Common.{List, codes, Option, Some, None, Result, true≢false}
use Rattle.std.specs.Prelude.{is_some, option_and_then, unwrap_or}
use Rattle.std.specs.Str.{bytes_eq}
use Rattle.std.specs.Str.Parse.{ExplainsUnsignedError, HasUnsignedDigitsIfOk, ParsesUnsigned, digits_value}
use Rattle.std.specs.Str.Parse.{without_leading_plus}
use Rattle.std.specs.declared.num.ParseIntError.{ParseIntError}
use Rattle.clap.specs.Words.{IsUnsignedIn, ReadsOne, Row, Text, found_of}
use Rattle.clap.specs.Words.{one_of, one_text, rows_of}
use Rattle.clap.specs.ValueTests.{is_unsigned_in}
use Rattle.clap.specs.declared.builder.value_parser.ValueParser.TheVariants.{Unsigned}
use Rattle.clap.specs.declared.parser.matches.ArgMatches.{ArgMatches}
use Rattle.clap.proofs.ValueTestLemmas.{Accepts-accepts, accepts-Accepts}
use Rattle.clap.proofs.WalkLemmas.{one_text-rows}
use Rattle.hg_race.specs.Limits.{least_nodes, most_nodes, most_rounds}
use Rattle.hgfleet.specs.Arguments.{IsRaceSize, both_numbers, number_given, number_within, numbers_given}
use Rattle.hgfleet.specs.Arguments.{race_met}

-- what is given is something
some_is_given : {X : Type 0} (x : X) → None ≡ Some x → ⊥
some_is_given x e = true≢false (sym (ap is_some e))

-- a numeral between the bounds writes its number
within : (low high : ℕ) (t : Text) → IsUnsignedIn low high t
    → Some (digits_value 10 (without_leading_plus t)) ≡ number_within low high t
within low high t h = rw (Accepts-accepts false (Unsigned low high) t h) refl

-- and any other text none
without : (low high : ℕ) (t : Text) → (IsUnsignedIn low high t → ⊥) → None ≡ number_within low high t
without low high t h = go (is_unsigned_in low high t) refl
  where
    go : (b : Bool) → is_unsigned_in low high t ≡ b → None ≡ number_within low high t
    go true e = absurd (h (accepts-Accepts false (Unsigned low high) t e))
    go false e = rw e refl

-- ---- what a getter gives, where the text is read as an unsigned number of 32 bits

abbrev Reads : List ℕ → Result ℕ ParseIntError → Type 0
Reads bs r = ParsesUnsigned 32 10 bs r × ExplainsUnsignedError 10 bs r × HasUnsignedDigitsIfOk bs r

module _ (low high : ℕ) (fits : high < 2 ^ 32) (m : ArgMatches) (id : Text) (r : Option ℕ)
    (none : one_text (found_of m) id ≡ None → r ≡ None)
    (value : (t : Text) → one_text (found_of m) id ≡ Some t → ReadsOne Reads t r) where
  by_rows : {o : Option ℕ} → o ≡ option_and_then (number_within low high) (one_text (found_of m) id)
      → o ≡ number_given id low high (rows_of (found_of m))
  by_rows h = h ∙ ap (option_and_then (number_within low high)) (one_text-rows (found_of m) id)

  -- a number between the bounds
  pub given_inside : (n : ℕ) → r ≡ Some n → low ≤ n → n ≤ high
      → Some n ≡ number_given id low high (rows_of (found_of m))
  given_inside n is above below = by_rows (go (one_text (found_of m) id) refl)
    where
      go : (o : Option Text) → one_text (found_of m) id ≡ o → Some n ≡ option_and_then (number_within low high) o
      go None e = absurd (some_is_given n (sym (none e) ∙ is))
      go (Some t) e =
          let h = (subst (ReadsOne Reads t) is (value t e)).0 in
          ap Some h.1 ∙ within low high t (h.0.0, omega (arith, h.1), omega (arith, h.1), omega (arith, h.1))

  -- a number out of the bounds
  pub given_outside : (n : ℕ) → r ≡ Some n → (low ≤ n → n ≤ high → ⊥)
      → None ≡ number_given id low high (rows_of (found_of m))
  given_outside n is out = by_rows (go (one_text (found_of m) id) refl)
    where
      go : (o : Option Text) → one_text (found_of m) id ≡ o → None ≡ option_and_then (number_within low high) o
      go None e = refl
      go (Some t) e =
          let h = (subst (ReadsOne Reads t) is (value t e)).0 in
          without low high t (λ u. out (omega (arith, h.1, u.2)) (omega (arith, h.1, u.3)))

  -- no number
  pub given_none : r ≡ None → None ≡ number_given id low high (rows_of (found_of m))
  given_none is = by_rows (go (one_text (found_of m) id) refl)
    where
      go : (o : Option Text) → one_text (found_of m) id ≡ o → None ≡ option_and_then (number_within low high) o
      go None e = refl
      go (Some t) e =
          let h = subst (ReadsOne Reads t) is (value t e) in
          without low high t (λ u. h.1.0 (u.0, omega (arith, u.3, fits)))

-- ---- the numbers of the words

-- a number that is given lies between the bounds
given_bounds : (low high : ℕ) (text : Option Text) (n : ℕ) → option_and_then (number_within low high) text ≡ Some n
    → (low ≤ n) × (n ≤ high)
given_bounds low high None n h = absurd (some_is_given n h)
given_bounds low high (Some t) n h = go (is_unsigned_in low high t) refl h
  where
    go : (b : Bool) → is_unsigned_in low high t ≡ b
        → cond b (Some (digits_value 10 (without_leading_plus t))) None ≡ Some n → (low ≤ n) × (n ≤ high)
    go false e is = absurd (some_is_given n is)
    go true e is =
        let u = accepts-Accepts false (Unsigned low high) t e in
        let same : digits_value 10 (without_leading_plus t) ≡ n = ap (λ o. unwrap_or o 0) is in
        (omega (arith, same, u.2), omega (arith, same, u.3))

-- both numbers are given
both_given : (a b : Option ℕ) (n r : ℕ) → both_numbers a b ≡ Some (n, r) → (a ≡ Some n) × (b ≡ Some r)
both_given None b n r h = absurd (some_is_given (n, r) h)
both_given (Some x) None n r h = absurd (some_is_given (n, r) h)
both_given (Some x) (Some y) n r h =
    let same : ◌≡◌ {A = ℕ × ℕ} (x, y) (n, r) = ap (λ o. unwrap_or o (x, y)) h in
    (ap (λ (p : ℕ × ℕ). Some p.0) same, ap (λ (p : ℕ × ℕ). Some p.1) same)

-- numbers that are given for a race, by its rows and by the command that was met, are those of a race
size_given : (rows : List Row) (n r : ℕ) → numbers_given rows ≡ Some (n, r) → IsRaceSize n r
size_given rows n r h =
    let both = both_given (number_given (codes "nodes") least_nodes most_nodes rows)
    (number_given (codes "rounds") 1 most_rounds rows) n r h in
    let nodes = given_bounds least_nodes most_nodes (one_of (codes "nodes") rows) n both.0 in
    let rounds = given_bounds 1 most_rounds (one_of (codes "rounds") rows) r both.1 in
    (nodes.0, nodes.1, rounds.0, rounds.1)

pub size_met : (met : Option (Text × List Row)) (n r : ℕ) → race_met met ≡ Some (n, r) → IsRaceSize n r
size_met None n r h = absurd (some_is_given (n, r) h)
size_met (Some met) n r h = go (bytes_eq met.0 (codes "race")) h
  where
    go : (b : Bool) → cond b (numbers_given met.1) None ≡ Some (n, r) → IsRaceSize n r
    go true e = size_given met.1 n r e
    go false e = absurd (some_is_given (n, r) e)

-- Loops over so many parts, with what was read so far in front.
use Rattle.std.proofs.Common.{◌≡◌, ℕ, suc, ◌-◌, ◌+◌, ◌≤◌, ◌<◌, List, [], ◌∷◌, ◌++◌, Result, Ok, Err, refl, sym, ap}
use Rattle.std.proofs.Common.{subst, ◌∙◌, append_assoc, arith}
use Rattle.std.proofs.lemmas.List.{append-nil}
use Rattle.hg_marker.specs.Reading.{Reader, and_then, says, IsRead}
use Rattle.hg_message.specs.Counted.{counted}

-- these, and then what was read
abbrev pub with_front : {F A : Type 0} → List A → Result (List A × List ℕ) F → Result (List A × List ℕ) F
with_front front (Ok x) = Ok (front ++ x.0, x.1)
with_front front (Err fault) = Err fault

with_none : {F A : Type 0} (r : Result (List A × List ℕ) F) → with_front [] r ≡ r
with_none (Ok x) = refl
with_none (Err fault) = refl

regroup : {F A : Type 0} (front : List A) (x : A) (r : Result (List A × List ℕ) F)
    → with_front front (and_then r (λ others. says (x ∷ others))) ≡ with_front (front ++ x ∷ []) r
regroup front x (Ok y) = ap (λ (all : List _). Ok (all, y.1)) (sym (append_assoc front (x ∷ []) y.0))
regroup front x (Err fault) = refl

module _ {F A : Type 0} (part : ℕ → Reader F A) (count index : ℕ) (front : List A) (rest : List ℕ)
    (all : Result (List A × List ℕ) F) where
  -- what was read, with what is left to read, is all that there is
  abbrev SoFar : Type 0
  SoFar = with_front front (counted part index (count - index) rest) ≡ all

  pub goes_on : (x : A) (after : List ℕ) → index < count → part index rest ≡ Ok (x, after) → SoFar
      → with_front (front ++ x ∷ []) (counted part (index + 1) (count - (index + 1)) after) ≡ all
  unfolding counted
  goes_on x after lt e so_far =
      let k : count - index ≡ suc (count - (index + 1)) = omega arith in
      let n : index + 1 ≡ suc index = omega arith in
      let one : with_front front (counted part index (count - index) rest) ≡ with_front (front ++ x ∷ [])
      (counted part (suc index) (count - (index + 1)) after) =
      rw (k, e) (regroup front x (counted part (suc index) (count - (index + 1)) after)) in
      ap (λ (i : ℕ). with_front (front ++ x ∷ []) (counted part i (count - (index + 1)) after)) n ∙ sym one ∙ so_far

  pub breaks_off : (f : F) → index < count → part index rest ≡ Err f → SoFar → all ≡ Err f
  unfolding counted
  breaks_off f lt e so_far =
      let k : count - index ≡ suc (count - (index + 1)) = omega arith in
      let one : with_front front (counted part index (count - index) rest) ≡ Err f = rw (k, e) refl in
      sym so_far ∙ one

  pub is_done : count ≤ index → SoFar → all ≡ Ok (front, rest)
  unfolding counted
  is_done le so_far =
      let k : count - index ≡ 0 = omega arith in
      let one : with_front front (counted part index (count - index) rest) ≡ Ok (front, rest) =
      rw k (ap (λ (xs : List A). Ok (xs, rest)) (append-nil front)) in
      sym so_far ∙ one

  pub next_is_read : index < count → IsRead all → SoFar → IsRead (part index rest)
  next_is_read lt read so_far = by_part (part index rest) refl
    where
      by_part : (r : Result (A × List ℕ) F) → part index rest ≡ r → IsRead r
      by_part (Ok x) e = tt
      by_part (Err f) e = subst (λ (r : Result (List A × List ℕ) F). IsRead r) (breaks_off f lt e so_far) read

-- before anything was read
pub starts : {F A : Type 0} (part : ℕ → Reader F A) (count : ℕ) (bytes : List ℕ) (front : List A) → front ≡ []
    → with_front front (counted part 0 (count - 0) bytes) ≡ counted part 0 count bytes
starts part count bytes front none =
    let all : count - 0 ≡ count = omega arith in
    ap (λ (xs : List _). with_front xs (counted part 0 (count - 0) bytes)) none
    ∙ ap (λ (n : ℕ). with_front [] (counted part 0 n bytes)) all ∙ with_none (counted part 0 count bytes)

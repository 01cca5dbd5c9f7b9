-- Quotes, one after the other.
use Rattle.std.proofs.Common.{◌≡◌, ◌≢◌, ℕ, ◌<◌, ◌≤◌, ◌+◌, ◌-◌, ◌%◌, Option, Some, None, List, [], ◌∷◌, ◌++◌, length}
use Rattle.std.proofs.Common.{take, drop, get_or, refl, sym, ap, ◌∙◌, append_assoc, append-nil, length-append, arith}
use Rattle.std.proofs.lemmas.List.{take_all, take_more}
use Rattle.hg_join_tests.specs.QuoteLaws.{length_bytes}
use Rattle.hg_join_tests.specs.Quotes.{quote_of, quotes_of, bytes_of}

pub bytes_of-append : (p q : List (ℕ × ℕ)) → bytes_of (p ++ q) ≡ bytes_of p ++ bytes_of q
bytes_of-append [] q = refl
bytes_of-append (x ∷ p) q = ap (λ (zs : List ℕ). x.0 ∷ x.1 ∷ zs) (bytes_of-append p q)

pub quotes_of-append : (price : ℕ → Option ℕ) (xs ys : List ℕ) → quotes_of price (xs ++ ys) ≡ quotes_of price xs
    ++ quotes_of price ys
quotes_of-append price [] ys = refl
quotes_of-append price (x ∷ xs) ys =
    ap (λ (zs : List (ℕ × ℕ)). quote_of x (price x) ++ zs) (quotes_of-append price xs ys)
    ∙ sym (append_assoc (quote_of x (price x)) (quotes_of price xs) (quotes_of price ys))

-- the bytes of the quotes of some items and one more
pub bytes-one_more : (price : ℕ → Option ℕ) (xs : List ℕ) (x : ℕ) →
    bytes_of (quotes_of price (xs ++ x ∷ [])) ≡ bytes_of (quotes_of price xs) ++ bytes_of (quote_of x (price x))
bytes-one_more price xs x =
    ap bytes_of (quotes_of-append price xs (x ∷ []) ∙ ap (λ (zs : List (ℕ × ℕ)). quotes_of price xs ++ zs)
    (append-nil (quote_of x (price x)))) ∙ bytes_of-append (quotes_of price xs) (quote_of x (price x))

-- one byte after whole quotes makes an odd number of bytes
pub one_is_odd : (bytes left : List ℕ) (p : List (ℕ × ℕ)) → bytes ≡ bytes_of p ++ left → length left < 2 →
    length left ≢ 0 → length bytes % 2 ≡ 1
one_is_odd bytes left p e short some =
    omega (arith, ap length e, length-append (bytes_of p) left, length_bytes p, short, some)

-- the first two of the bytes that are left are one more quote
pub bytes-two_more : (bytes left : List ℕ) (p q : List (ℕ × ℕ)) → bytes ≡ bytes_of p ++ left → 2 ≤ length left →
    q ≡ p ++ (get_or left 0 0, get_or left 1 0) ∷ [] → bytes ≡ bytes_of q ++ take (length left - 2) (drop 2 left)
bytes-two_more bytes [] p q e long h = absurd (omega arith)
bytes-two_more bytes (x ∷ []) p q e long h = absurd (omega arith)
bytes-two_more bytes (x ∷ y ∷ rest) p q e long h =
    let n : length (x ∷ y ∷ rest) - 2 ≡ length rest = omega arith in
    let all : take (length (x ∷ y ∷ rest) - 2) rest ≡ rest = take_all (length (x ∷ y ∷ rest) - 2) rest (omega arith) in
    let split : bytes_of q ≡ bytes_of p ++ x ∷ y ∷ [] = ap bytes_of h ∙ bytes_of-append p ((x, y) ∷ []) in
    e ∙ sym (ap (λ (zs : List ℕ). zs ++ take (length (x ∷ y ∷ rest) - 2) rest) split
    ∙ append_assoc (bytes_of p) (x ∷ y ∷ []) (take (length (x ∷ y ∷ rest) - 2) rest)
    ∙ ap (λ (zs : List ℕ). bytes_of p ++ x ∷ y ∷ zs) all)

module _ (price : ℕ → Option ℕ) (xs : List ℕ) (i : ℕ) (old : List ℕ) (within : i < length xs)
    (so_far : old ≡ bytes_of (quotes_of price (take i xs))) where
  next : (p : Option ℕ) → price (get_or xs i 0) ≡ p → bytes_of (quotes_of price (take (i + 1) xs)) ≡ old
      ++ bytes_of (quote_of (get_or xs i 0) p)
  next p e =
      ap (λ (ys : List ℕ). bytes_of (quotes_of price ys)) (take_more xs i 0 within)
      ∙ bytes-one_more price (take i xs) (get_or xs i 0)
      ∙ ap (λ (zs : List ℕ). zs ++ bytes_of (quote_of (get_or xs i 0) (price (get_or xs i 0)))) (sym so_far)
      ∙ ap (λ (o : Option ℕ). old ++ bytes_of (quote_of (get_or xs i 0) o)) e

  -- an item that has a price is one more quote
  pub bytes-next_priced : (low : ℕ) (mid new : List ℕ) → price (get_or xs i 0) ≡ Some low →
      mid ≡ old ++ get_or xs i 0 ∷ [] → new ≡ mid ++ low ∷ [] → new ≡ bytes_of (quotes_of price (take (i + 1) xs))
  bytes-next_priced low mid new e h k =
      k ∙ ap (λ (zs : List ℕ). zs ++ low ∷ []) h ∙ append_assoc old (get_or xs i 0 ∷ []) (low ∷ [])
      ∙ sym (next (Some low) e)

  -- an item without a price is left out
  pub bytes-next_unpriced : price (get_or xs i 0) ≡ None → old ≡ bytes_of (quotes_of price (take (i + 1) xs))
  bytes-next_unpriced e = sym (next None e ∙ append-nil old)

-- The laws of what prices decide, offer and read.
use Rattle.std.specs.Prelude.{◌≡◌, ℕ, ◌%◌, ◌*◌, Bool, true, false, cond, Option, Some, None, List, [], ◌∷◌, ◌++◌}
use Rattle.std.specs.Prelude.{length, ⊤, refl}
use Rattle.std.specs.Ordering.{nat_cmp, is_eq}
use Rattle.std.specs.FinMap.{nat_cmp-IsAntisymmetric}
use Rattle.std.proofs.Common.{arith, sym, ◌∙◌, ap, subst}
use Rattle.std.proofs.lemmas.Map.Views.{tells_apart}
use Rattle.hg_join.specs.Order.{SaySame, IsDue}
use Rattle.hg_join.specs.Lows.{IsAsLow, given, lowest_given, lows_of, LowsCover}
use Rattle.hg_join.specs.LowLaws.{as_low_same, as_low_along, lower_least}
use Rattle.hg_join_tests.specs.Quotes.{PricesValue, Lowers, IsAgainstQuote, quote_of, quotes_of, bytes_of, AreBytesOf}
use Rattle.hg_join_tests.specs.Quotes.{is_kept_back, told, IsAgainstBytesOf, IsNoMemory, KeepsBack, HasNoPrice}
use Rattle.hg_join_tests.specs.declared.prices.PriceRefusal.{PriceRefusal}
use Rattle.hg_join_tests.specs.declared.prices.PriceRefusal.TheVariants.{NotLower, OddBytes, NoPrice}

-- ---- quoting

pub quote_is_due : (prices : List (ℕ × ℕ)) (quote : ℕ × ℕ) → IsDue (Lowers prices quote) (IsAgainstQuote prices quote)
quote_is_due prices quote f g = f (quote ∷ []) ((λ known. g NotLower (known, refl)), refl)

pub memory_is_not_known : (prices : List (ℕ × ℕ)) (quote : ℕ × ℕ) (refusal : PriceRefusal) → IsNoMemory refusal →
    IsAgainstQuote prices quote refusal → ⊥
memory_is_not_known prices quote refusal h k = let e : refusal ≡ NotLower = k.1 in cc

-- ---- bytes

pub bytes_tell : (p q : List (ℕ × ℕ)) → bytes_of p ≡ bytes_of q → p ≡ q
bytes_tell [] [] e = refl
bytes_tell [] (y ∷ q) e = absurd cc
bytes_tell (x ∷ p) [] e = absurd cc
bytes_tell (x ∷ p) (y ∷ q) e =
    let item : x.0 ≡ y.0 = cc in
    let price : x.1 ≡ y.1 = cc in
    let rest : bytes_of p ≡ bytes_of q = cc in
    let quote : x ≡ y = (λ i. (item i, price i)) in
    let more = bytes_tell p q rest in
    cc

pub spelled_tell : (bytes : List ℕ) (p q : List (ℕ × ℕ)) → AreBytesOf bytes p → AreBytesOf bytes q → p ≡ q
spelled_tell bytes p q h k = bytes_tell p q (sym h ∙ k)

pub length_bytes : (p : List (ℕ × ℕ)) → length (bytes_of p) ≡ 2 * length p
length_bytes [] = refl
length_bytes (x ∷ p) = omega (arith, length_bytes p)

pub spelled_is_even : (bytes : List ℕ) (p : List (ℕ × ℕ)) (refusal : PriceRefusal) → AreBytesOf bytes p →
    IsAgainstBytesOf bytes refusal → ⊥
spelled_is_even bytes p refusal h k =
    let odd : length bytes % 2 ≡ 1 = k.0 in omega (arith, ap length h, length_bytes p, odd)

pub bytes_are_due : (bytes : List ℕ) → IsDue (AreBytesOf bytes) (IsAgainstBytesOf bytes)
bytes_are_due [] f g = f [] refl
bytes_are_due (x ∷ []) f g = g OddBytes (refl, refl)
bytes_are_due (x ∷ y ∷ rest) f g =
    bytes_are_due rest (λ p h. f ((x, y) ∷ p) (ap (λ (zs : List ℕ). x ∷ y ∷ zs) h))
    (λ refusal h. let odd : length rest % 2 ≡ 1 = h.0 in g refusal (omega arith, h.1))

pub memory_is_not_odd : (bytes : List ℕ) (refusal : PriceRefusal) → IsNoMemory refusal →
    IsAgainstBytesOf bytes refusal → ⊥
memory_is_not_odd bytes refusal h k = let e : refusal ≡ OddBytes = k.1 in cc

-- ---- offers

-- what one quote gives to a key is as low as its price there
given_as_low : (b : Bool) (price : ℕ) (there : Option ℕ) → (b ≡ true → there ≡ Some price) →
    IsAsLow (cond b (Some price) None) there
given_as_low true price there h = subst (IsAsLow (Some price)) (sym (h refl)) (as_low_same (Some price))
given_as_low false price there h = tt

told_if : (b : Bool) (price : Option ℕ) → IsAsLow (cond b None price) price
told_if true price = tt
told_if false price = as_low_same price

module _ (price : ℕ → Option ℕ) where
  quote_as_low : (item k : ℕ) (p : Option ℕ) (quotes : List (ℕ × ℕ)) → price item ≡ p →
      IsAsLow (lowest_given nat_cmp quotes k) (price k) →
      IsAsLow (lowest_given nat_cmp (quote_of item p ++ quotes) k) (price k)
  quote_as_low item k None quotes e h = h
  quote_as_low item k (Some low) quotes e h =
      lower_least (given nat_cmp (item, low) k) (lowest_given nat_cmp quotes k) (price k)
      (given_as_low (is_eq (nat_cmp k item)) low (price k)
      (λ same. ap price (tells_apart nat_cmp-IsAntisymmetric k item same) ∙ e)) h

  quotes_as_low : (items : List ℕ) (k : ℕ) → IsAsLow (lowest_given nat_cmp (quotes_of price items) k) (price k)
  quotes_as_low [] k = tt
  quotes_as_low (item ∷ items) k = quote_as_low item k (price item) (quotes_of price items) refl (quotes_as_low items k)

-- what others are told of an item is as low as its price
told_as_low : (prices : PricesValue) (k : ℕ) → IsAsLow (told prices k) (lows_of nat_cmp prices.lows k)
told_as_low prices k = told_if (is_kept_back prices.kept_back k) (lows_of nat_cmp prices.lows k)

-- the quotes of prices say no more than the prices
pub quotes_are_covered : (prices : PricesValue) (items bytes : List ℕ) (p : List (ℕ × ℕ)) →
    AreBytesOf bytes (quotes_of (told prices) items) → AreBytesOf bytes p →
    LowsCover nat_cmp (lows_of nat_cmp prices.lows) p
quotes_are_covered prices items bytes p h k =
    subst (LowsCover nat_cmp (lows_of nat_cmp prices.lows))
    (spelled_tell bytes (quotes_of (told prices) items) p h k)
    (λ key. as_low_along (lowest_given nat_cmp (quotes_of (told prices) items) key) (told prices key)
    (lows_of nat_cmp prices.lows key) (quotes_as_low (told prices) items key) (told_as_low prices key))

-- equal prices that keep the same item back are quoted alike
pub quotes_say_same : (s t : PricesValue) (items bytes others : List ℕ) (p q : List (ℕ × ℕ)) →
    lows_of nat_cmp s.lows ≡ lows_of nat_cmp t.lows → s.kept_back ≡ t.kept_back →
    AreBytesOf bytes (quotes_of (told s) items) → AreBytesOf others (quotes_of (told t) items) → AreBytesOf bytes p →
    AreBytesOf others q →
    SaySame (λ _. ⊤) (LowsCover nat_cmp) p q
quotes_say_same s t items bytes others p q e kept h k x y =
    let alike : told s ≡ told t =
    (λ i item. cond (is_kept_back (kept i) item) None (e i item)) in
    let same : p ≡ q =
    sym (spelled_tell bytes (quotes_of (told s) items) p h x)
    ∙ ap (λ (price : ℕ → Option ℕ). quotes_of price items) alike
    ∙ spelled_tell others (quotes_of (told t) items) q k y in
    λ c v. (λ covers. subst (LowsCover nat_cmp c) same covers, λ covers. subst (LowsCover nat_cmp c) (sym same) covers)

-- ---- what is kept back

pub keeping_back_is_due : (s : PricesValue) (item : ℕ) → IsDue (KeepsBack s item) (HasNoPrice s item)
keeping_back_is_due s item f g =
    let next : PricesValue = record { lows = s.lows; kept_back = Some item } in
    f next ((λ none. g NoPrice (none, refl)), refl, refl)

pub memory_is_not_priceless : (s : PricesValue) (item : ℕ) (refusal : PriceRefusal) → IsNoMemory refusal →
    HasNoPrice s item refusal → ⊥
memory_is_not_priceless s item refusal h k = let e : refusal ≡ NoPrice = k.1 in cc

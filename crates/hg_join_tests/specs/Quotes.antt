-- What prices decide, offer and read: the definitions that an `Actor` takes.
use Rattle.std.specs.Prelude.{◌≡◌, ◌≢◌, ℕ, ◌==◌, ◌%◌, Bool, false, Option, Some, None, List, [], ◌∷◌, ◌++◌, length}
use Rattle.std.specs.Prelude.{if◌then◌else◌}
use Rattle.std.specs.Ordering.{nat_cmp}
use Rattle.std.specs.declared.vec.Vec.{Vec}
use Rattle.std.specs.declared.alloc.Global.{Global}
use Rattle.hg_join.specs.Lows.{IsAsLow, lows_of}
use Rattle.hg_join_tests.specs.declared.prices.PriceRefusal.{PriceRefusal}
use Rattle.hg_join_tests.specs.declared.prices.PriceRefusal.TheVariants.{NotLower, OddBytes, NoPrice, NoMemory}

-- the prices as they came, and the item that is kept back from others, if one is
pub record PricesValue : Type 0 where
  pub lows : List (ℕ × ℕ)
  pub kept_back : Option ℕ

-- the item has a price as low already
abbrev pub IsKnown : List (ℕ × ℕ) → ℕ × ℕ → Type 0
IsKnown prices quote = IsAsLow (Some quote.1) (lows_of nat_cmp prices quote.0)

-- the part is the one quote, which is lower than what was heard of
abbrev pub Lowers : List (ℕ × ℕ) → ℕ × ℕ → List (ℕ × ℕ) → Type 0
Lowers prices quote part = ¬ (IsKnown prices quote) × (part ≡ quote ∷ [])

-- the quote is refused since it lowers nothing
abbrev pub IsAgainstQuote : List (ℕ × ℕ) → ℕ × ℕ → PriceRefusal → Type 0
IsAgainstQuote prices quote refusal = IsKnown prices quote × (refusal ≡ NotLower)

-- the quote of an item, if it has a price
abbrev pub quote_of : ℕ → Option ℕ → List (ℕ × ℕ)
quote_of item None = []
quote_of item (Some price) = (item, price) ∷ []

-- the quotes of those of the items that have a price
abbrev pub quotes_of : (ℕ → Option ℕ) → List ℕ → List (ℕ × ℕ)
quotes_of price [] = []
quotes_of price (item ∷ items) = quote_of item (price item) ++ quotes_of price items

-- each item, and its price after it
abbrev pub bytes_of : List (ℕ × ℕ) → List ℕ
bytes_of [] = []
bytes_of (quote ∷ quotes) = quote.0 ∷ quote.1 ∷ bytes_of quotes

-- whether the item is the one that is kept back
abbrev pub is_kept_back : Option ℕ → ℕ → Bool
is_kept_back None item = false
is_kept_back (Some kept) item = kept == item

-- what others are told of an item: its price, if it has one and isn't kept back
abbrev pub told : PricesValue → ℕ → Option ℕ
told prices item = if is_kept_back prices.kept_back item then None else lows_of nat_cmp prices.lows item

-- the bytes are those of the quotes of what is asked for
abbrev pub Quotes : PricesValue → Vec ℕ Global → List ℕ → Type 0
Quotes prices items bytes = bytes ≡ bytes_of (quotes_of (told prices) items.items)

-- the bytes are those of the part
abbrev pub AreBytesOf : List ℕ → List (ℕ × ℕ) → Type 0
AreBytesOf bytes part = bytes ≡ bytes_of part

-- the bytes are refused since the last item has no price
abbrev pub IsAgainstBytesOf : List ℕ → PriceRefusal → Type 0
IsAgainstBytesOf bytes refusal = (length bytes % 2 ≡ 1) × (refusal ≡ OddBytes)

-- the item has a price and is kept back from then on, and the prices stay
abbrev pub KeepsBack : PricesValue → ℕ → PricesValue → Type 0
KeepsBack old item new =
    (lows_of nat_cmp old.lows item ≢ None) × (new.kept_back ≡ Some item)
    × (lows_of nat_cmp new.lows ≡ lows_of nat_cmp old.lows)

-- the item is not kept back since it has no price
abbrev pub HasNoPrice : PricesValue → ℕ → PriceRefusal → Type 0
HasNoPrice prices item refusal = (lows_of nat_cmp prices.lows item ≡ None) × (refusal ≡ NoPrice)

-- the refusal is want of memory
abbrev pub IsNoMemory : PriceRefusal → Type 0
IsNoMemory refusal = refusal ≡ NoMemory

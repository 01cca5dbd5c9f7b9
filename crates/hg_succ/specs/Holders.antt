-- Which of some sets have what, sixty-four sets in a number.
use Rattle.std.specs.Prelude.{◌≡◌, ◌≢◌, ◌↔◌, ◌⊎◌, ◌<◌, ◌≤◌, ◌+◌, ◌*◌, ℕ, List, [], get_or, length, Contains}
use Rattle.std.specs.Int.{bit_at}
use Rattle.hg_changeset.specs.declared.node.Node.{Node}
use Rattle.hg_succ.specs.declared.holders.Holders.{Holders}
use Rattle.hg_succ.specs.Rows.{At, rows_of}
use Rattle.hg_succ.specs.Numbered.{AreOnce}

-- the row has exactly the numbers of the set's members
pub record IsNumbering (members set : List Node) (row : List ℕ) : Type 0 where
  pub listed : (m : ℕ) → Contains row m → (y : Node) × Contains set y × At members m y
  pub each : (y : Node) → Contains set y → (m : ℕ) × Contains row m × At members m y

-- the members of the sets with numbers, and a row for each set
pub record AreNumberings (sets : List (List Node)) (members : List Node) (rows : List (List ℕ)) : Type 0 where
  pub all : length rows ≡ length sets
  pub exact : (p : ℕ) (set : List Node) (row : List ℕ) → At sets p set → At rows p row → IsNumbering members set row

-- what stands at a place; nothing where there is no row
abbrev pub row_in : List (List ℕ) → ℕ → List ℕ
row_in rows p = get_or rows p []

-- the words of the sixty-four sets from a place on: each has a bit for each of them that has the member
abbrev pub IsBlock : List (List ℕ) → ℕ → List ℕ → Type 0
IsBlock rows first words = (m j : ℕ) → j < 64 → (bit_at (get_or words m 0) j ≡ 1) ↔ Contains (row_in rows (first + j)) m

-- words for all rows
pub record AreBlocks (rows blocks : List (List ℕ)) : Type 0 where
  pub all : length rows ≤ length blocks * 64
  pub exact : (b : ℕ) (words : List ℕ) → At blocks b words → IsBlock rows (b * 64) words

-- the bit is set in the words of these members
pub record Notes (bit : ℕ) (row old new : List ℕ) : Type 0 where
  pub long : length new ≡ length old
  pub each : (m j : ℕ) → j < 64 → (bit_at (get_or new m 0) j ≡ 1)
      ↔ ((bit_at (get_or old m 0) j ≡ 1) ⊎ ((j ≡ bit) × Contains row m))

-- the bits that the words of all members of a row have in common
pub record IsCommon (words row : List ℕ) (common : ℕ) : Type 0 where
  pub each : (j : ℕ) → j < 64 → (bit_at common j ≡ 1) ↔ ((m : ℕ) → Contains row m → bit_at (get_or words m 0) j ≡ 1)
  pub none : (j : ℕ) → 64 ≤ j → bit_at common j ≡ 0

-- the bit of a place among the sixty-four from another on, if it is one of them
pub record IsOwnBit (first place own : ℕ) : Type 0 where
  pub each : (j : ℕ) → j < 64 → (bit_at own j ≡ 1) ↔ (first + j ≡ place)
  pub none : (j : ℕ) → 64 ≤ j → bit_at own j ≡ 0

-- each of the numbers is below
abbrev pub AreBelow : List (List ℕ) → ℕ → Type 0
AreBelow rows count = (row : List ℕ) (m : ℕ) → Contains rows row → Contains row m → m < count

-- each of the numbers is that of a word
abbrev pub HaveWords : List (List ℕ) → List (List ℕ) → Type 0
HaveWords rows blocks = (row words : List ℕ) (m : ℕ) → Contains rows row → Contains blocks words → Contains row m
    → m < length words

-- no other row has all that the one at the place has
abbrev pub IsWithinNone : List (List ℕ) → ℕ → Type 0
IsWithinNone rows place = (q : ℕ) → q < length rows → q ≢ place
    → ((m : ℕ) → Contains (row_in rows place) m → Contains (row_in rows q) m) → ⊥

-- the sets are told by words
pub record Indexes (sets : List (List Node)) (holders : Holders) : Type 0 where
  pub members : List Node
  pub once : AreOnce members
  pub numbered : AreNumberings sets members (rows_of holders.rows.items)
  pub blocks : AreBlocks (rows_of holders.rows.items) (rows_of holders.blocks.items)
  pub words : HaveWords (rows_of holders.rows.items) (rows_of holders.blocks.items)

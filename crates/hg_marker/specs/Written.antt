-- The one written spelling, as the form in which texts are kept.
use Rattle.std.specs.Prelude.{◌≡◌, ℕ, ◌==◌, List, [], ◌∷◌, ◌++◌, length, Bool, true, ◌&&◌}
use Rattle.std.specs.Prelude.{if◌then◌else◌, Option, Some, None}
use Rattle.std.specs.Ordering.{is_lt}
use Rattle.hg_marker.specs.Texts.{bytes_cmp}
use Rattle.hg_marker.specs.Metadata.{piece, pieces, texts, written}
use Rattle.hg_marker.specs.Making.{is_writable}

-- the bytes are the one written spelling of the texts that they spell
pub record IsWritten (bytes : List ℕ) : Type 0 where
  pub writable : is_writable (texts (pieces bytes)) ≡ true
  pub same : bytes ≡ written (texts (pieces bytes))

-- the key stands behind the last one
abbrev pub is_behind : Option (List ℕ) → List ℕ → Bool
is_behind None key = true
is_behind (Some last) key = is_lt (bytes_cmp last key)

-- the bytes with a further piece, behind a NUL
abbrev pub with_piece : List ℕ → List ℕ × List ℕ → List ℕ
with_piece bytes e = if length bytes == 0 then piece e else bytes ++ 0 ∷ piece e

-- the bytes with these pieces behind them
abbrev pub with_pieces : List ℕ → List (List ℕ × List ℕ) → List ℕ
with_pieces bytes [] = bytes
with_pieces bytes (e ∷ es) = with_pieces (with_piece bytes e) es

-- each key stands behind the one before it
abbrev pub ascends : Option (List ℕ) → List (List ℕ × List ℕ) → Bool
ascends last [] = true
ascends last (e ∷ es) = is_behind last e.0 && ascends (Some e.0) es

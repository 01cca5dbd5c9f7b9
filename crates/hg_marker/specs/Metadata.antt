-- How metadata is spelled, and what a spelling says.
use Rattle.std.specs.Prelude.{◌≡◌, ℕ, ◌==◌, List, ◌∷◌, ◌++◌, length, map, filter, reverse, Bool, true, false, not}
use Rattle.std.specs.Prelude.{if◌then◌else◌, Result, Ok, Err}
use Rattle.std.specs.List.{All, slice_split, join_with_byte, before_first, after_first, list_any, list_all}
use Rattle.std.specs.FinMap.{entries, from_entries}
use Rattle.hg_marker.specs.Texts.{Texts}
use Rattle.hg_marker.specs.declared.error.MarkerFault.{MarkerFault}
use Rattle.hg_marker.specs.declared.error.MarkerFault.TheVariants.{BadMetadata}

-- NUL stands between pieces
abbrev pub is_nul : ℕ → Bool
is_nul b = b == 0

-- a colon ends a key
abbrev pub is_colon : ℕ → Bool
is_colon b = b == 58

-- a key and its value, with a colon between them
abbrev pub piece : List ℕ × List ℕ → List ℕ
piece e = e.0 ++ 58 ∷ e.1

-- the one written spelling: the pieces, ascending by key, joined by NUL
unfoldable pub written : Texts → List ℕ
written m = join_with_byte 0 (map piece (entries m))

-- the pieces that aren't empty
abbrev pub nonempty : List (List ℕ) → List (List ℕ)
nonempty ps = filter (λ p. not (length p == 0)) ps

-- what stands between the NULs, without the empty pieces
abbrev pub pieces : List ℕ → List (List ℕ)
pieces bytes = nonempty (slice_split is_nul bytes)

-- somewhere in the piece
abbrev pub has_colon : List ℕ → Bool
has_colon p = list_any is_colon p

-- a piece is split at its first colon
abbrev pub entry : List ℕ → List ℕ × List ℕ
entry p = (before_first is_colon p, after_first is_colon p)

-- the metadata that the pieces say: of equal keys the later piece wins
abbrev pub texts : List (List ℕ) → Texts
texts ps = from_entries (reverse (map entry ps))

-- the bytes spell the metadata: each piece has a colon
pub record IsMetadata (m : Texts) (bytes : List ℕ) : Type 0 where
  pub colons : list_all has_colon (pieces bytes) ≡ true
  pub texts : m ≡ texts (pieces bytes)

-- the metadata that the bytes spell, or that a piece has no colon
unfoldable pub metadata_at : List ℕ → Result Texts MarkerFault
metadata_at bytes = if list_all has_colon (pieces bytes) then Ok (texts (pieces bytes)) else Err BadMetadata

-- a key and a value that can be spelled: no NUL in either, and no colon in the key
pub record IsClean (e : List ℕ × List ℕ) : Type 0 where
  pub key_nul : All (λ b. is_nul b ≡ false) e.0
  pub key_colon : All (λ b. is_colon b ≡ false) e.0
  pub text_nul : All (λ b. is_nul b ≡ false) e.1

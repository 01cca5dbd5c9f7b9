-- How a store is spelled: the grammar of stores, apart from any reader or writer.
use Rattle.std.specs.Prelude.{◌≡◌, ◌<◌, ◌-◌, ◌^◌, ℕ, List, [], ◌∷◌, ◌++◌, Option, None, Some}
use Rattle.std.specs.List.{flat_map}
use Rattle.hg_marker.specs.Fields.{Fields}
use Rattle.hg_marker.specs.Grammar.{IsSpelling, spelling}

-- the bytes spell these markers, one after the other
abbrev pub AreSpelled : List Fields → List ℕ → Type 0
AreSpelled [] bytes = bytes ≡ []
AreSpelled (m ∷ ms) bytes = (front : List ℕ) × (rest : List ℕ) × IsSpelling m front × (bytes ≡ front ++ rest)
    × AreSpelled ms rest

-- a version byte 0, and then the markers; no bytes at all spell no markers
abbrev pub IsStoreSpelling : List Fields → List ℕ → Type 0
IsStoreSpelling markers [] = markers ≡ []
IsStoreSpelling markers (version ∷ bytes) = (version ≡ 0) × AreSpelled markers bytes

-- the one spelling that is written
abbrev pub store_spelling : List Fields → List ℕ
store_spelling markers = 0 ∷ flat_map spelling markers

-- so many, or more than a `usize` can tell
abbrev pub IsLength : Option ℕ → ℕ → Type 0
IsLength (Some len) n = len ≡ n
IsLength None n = 2 ^ 64 - 1 < n

-- Extras, as they are written in the text of an entry.
use Rattle.std.specs.Prelude.{ℕ, ◌==◌, List, [], ◌∷◌, ◌++◌, map, if◌then◌else◌, codes, Bool, ◌&&◌, not, nat_lt}
use Rattle.std.specs.Ordering.{nat_cmp}
use Rattle.std.specs.Cmp.Lexicographic.{slice_cmp}
use Rattle.std.specs.List.{join_with_byte, flat_map}
use Rattle.std.specs.List.Sorted.{IsStrictlySortedBy}
use Rattle.hg_changeset.specs.Bytes.{nul, line_feed, carriage_return, space, colon, backslash}

-- what a byte is written as: a backslash, LF, CR and NUL as two characters, any other as it is
abbrev pub escape : ℕ → List ℕ
escape b =
    if b == backslash then codes "\\\\"
    else if b == line_feed then codes "\\n"
    else if b == carriage_return then codes "\\r"
    else if b == nul then codes "\\0"
    else b ∷ []

-- above NUL, LF and CR, and no backslash: such a byte is written as it is
abbrev pub is_plain : ℕ → Bool
is_plain b = nat_lt carriage_return b && not (b == backslash)

-- an extra, written as `key:value` with both escaped
abbrev pub item : List ℕ × List ℕ → List ℕ
item x = flat_map escape (x.0 ++ colon ∷ x.1)

-- a space and the extras, joined by NUL; nothing where there are none
abbrev pub extras_text : List (List ℕ × List ℕ) → List ℕ
extras_text [] = []
extras_text (x ∷ xs) = space ∷ join_with_byte nul (map item (x ∷ xs))

-- the extras stand in ascending order of their keys, as byte strings
abbrev pub AscendByKey : List (List ℕ × List ℕ) → Type 0
AscendByKey extra = IsStrictlySortedBy (slice_cmp nat_cmp) (map (λ x. x.0) extra)

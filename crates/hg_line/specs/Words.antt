-- The words of a line, and which of them are names.
use Rattle.std.specs.Prelude.{ℕ, ◌==◌, List, [], ◌∷◌, length, filter, Bool, false, not, ◌||◌, ◌&&◌, nat_le}
use Rattle.std.specs.Prelude.{if◌then◌else◌, Option, codes}
use Rattle.std.specs.List.{list_all, slice_split, find}
use Rattle.std.specs.Option.{option_map_or}
use Rattle.std.specs.Str.{bytes_eq}
use Rattle.std.specs.Char.{is_ascii_alphanumeric}
use Rattle.hg_line.specs.Limits.{name_limit}

-- what stands between spaces
abbrev pub spaced : List ℕ → List (List ℕ)
spaced line = filter (λ word. not (length word == 0)) (slice_split (λ b. b == 32) line)

-- the words of a line; a comment, whose first byte is a number sign, has none
abbrev pub words_of : List ℕ → List (List ℕ)
words_of [] = []
words_of (b ∷ rest) = if b == 35 then [] else spaced (b ∷ rest)

-- so many words of a line stand in place, and only more of them want memory
abbrev pub words_in_place : ℕ
words_in_place = 8

-- the first of what stands between spaces
abbrev pub first_word : List ℕ → Option (List ℕ)
first_word line = find (λ word. not (length word == 0)) (slice_split (λ b. b == 32) line)

-- the line's first word is `node`
abbrev pub has_node : List ℕ → Bool
has_node line = option_map_or (λ word. bytes_eq word (codes "node")) (first_word line) false

-- the line begins as one whose first word is `node` does: with its first letter, or with a space
abbrev pub may_have_node : List ℕ → Bool
may_have_node [] = false
may_have_node (b ∷ rest) = b == 110 || b == 32

-- letters, digits, low line, full stop and hyphen
abbrev pub is_name_byte : ℕ → Bool
is_name_byte b = is_ascii_alphanumeric b || b == 95 || b == 46 || b == 45

-- 1 to 32 bytes of a name
abbrev pub is_name : List ℕ → Bool
is_name word = not (length word == 0) && nat_le (length word) name_limit && list_all is_name_byte word

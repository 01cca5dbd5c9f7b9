-- White space, and texts without some bytes at their ends.
use Rattle.std.specs.Prelude.{ℕ, ◌-◌, ◌==◌, List, [], ◌∷◌, length, take, drop, Bool}
use Rattle.std.specs.List.{prefix_len, suffix_len, list_any}
use Rattle.hg_changeset.specs.declared.white_space.Cut.{Cut}
use Rattle.hg_changeset.specs.declared.white_space.Cut.TheVariants.{WhiteSpace, LineFeed}
use Rattle.hg_changeset.specs.Bytes.{space, tab, line_feed, vertical_tab, form_feed, carriage_return}

-- the six bytes of white space
abbrev pub white_space : List ℕ
white_space = space ∷ tab ∷ line_feed ∷ vertical_tab ∷ form_feed ∷ carriage_return ∷ []

-- the bytes that are cut off
abbrev pub cut_bytes : Cut → List ℕ
cut_bytes WhiteSpace = white_space
cut_bytes LineFeed = line_feed ∷ []

-- the byte is among them
abbrev pub is_one_of : List ℕ → ℕ → Bool
is_one_of bytes b = list_any (λ x. x == b) bytes

-- the text without the bytes of `cut` at its end
abbrev pub trimmed_end : List ℕ → List ℕ → List ℕ
trimmed_end cut s = take (length s - suffix_len (is_one_of cut) s) s

-- the text without the bytes of `cut` at its front
abbrev pub trimmed_front : List ℕ → List ℕ → List ℕ
trimmed_front cut s = drop (prefix_len (is_one_of cut) s) s

-- the text without the bytes of `cut` at either end
abbrev pub trimmed : List ℕ → List ℕ → List ℕ
trimmed cut s = trimmed_end cut (trimmed_front cut s)

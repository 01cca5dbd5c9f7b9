-- How many bytes texts have, told before they are written.
use Rattle.std.specs.Prelude.{◌≡◌, ℕ, ◌+◌, ◌-◌, ◌^◌, min, List, [], ◌∷◌, length, Bool, false, if◌then◌else◌, nat_eq}
use Rattle.std.specs.Prelude.{Option, Some, None}
use Rattle.std.specs.Borrow.{Bor}
use lib.Pointwise.{pointwise}
use Rattle.hg_changeset.specs.declared.description.JoinedLen.{JoinedLen}
use Rattle.hg_changeset.specs.Bytes.{line_feed}
use Rattle.hg_changeset.specs.WhiteSpace.{trimmed_front, trimmed}
use Rattle.hg_changeset.specs.Extras.{item}
use Rattle.hg_changeset.specs.Description.{description_text}
use Rattle.hg_changeset.specs.EntryText.{date_text, trimmed_user}
use Rattle.hg_changeset.specs.EntryValue.{EntryValue}

-- the key is the one that is left out
abbrev pub is_left_out : Option (Bor (List ℕ)) → List ℕ → Bool
is_left_out None key = false
is_left_out (Some other) key = pointwise nat_eq other.now key

-- the extras as they are written, each with the byte before it, but for the one that is left out
abbrev pub len_without : Option (Bor (List ℕ)) → List (List ℕ × List ℕ) → ℕ
len_without left_out [] = 0
len_without left_out (x ∷ xs) =
    (if is_left_out left_out x.0 then 0 else 1 + length (item x)) + len_without left_out xs

-- the two numbers tell how long a text is without LF at its front, and without LF at either end, as far as they reach
abbrev pub Measures : JoinedLen → List ℕ → Type 0
Measures joined text = (joined.without_front ≡ min (length (trimmed_front (line_feed ∷ []) text)) (2 ^ 64 - 1))
    × (joined.without_ends ≡ min (length (trimmed (line_feed ∷ []) text)) (2 ^ 64 - 1))

-- the text of an entry whose extras take so many bytes: 40 digits and 4 LF, the user, the date, the extras and the
-- description
abbrev pub text_len : EntryValue → ℕ → ℕ
text_len e extras = 44 + length (trimmed_user e.user) + length (date_text e.secs e.offset) + extras
    + length (description_text e.desc)

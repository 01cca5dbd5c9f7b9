-- What changesets are called.
use Rattle.std.specs.Prelude.{ℕ, ◌==◌, ◌&&◌, ◌∷◌, [], Bool, Option, None, Some, if◌then◌else◌, length, nat_lt}
use Rattle.std.specs.Prelude.{option_map, slice_index, take, unwrap_or}
use Rattle.std.specs.Char.{is_ascii_hexdigit}
use Rattle.std.specs.Char.Escape.{escape_ascii}
use Rattle.std.specs.List.{before_first, flat_map, list_all}
use Rattle.hg_changeset.specs.Contents.{Contents}
use Rattle.hg_log.specs.Drawings.{Text}

abbrev pub is_line_feed : ℕ → Bool
is_line_feed b = b == 10

-- the text begins with the 40 digits of a manifest and a line's end
abbrev pub begins_with_manifest : Text → Bool
begins_with_manifest text =
    nat_lt 40 (length text) && (is_line_feed (slice_index text 40) && list_all is_ascii_hexdigit (take 40 text))

-- what stands behind the first empty line that isn't the first line of all
abbrev pub behind_empty_line : Text → Option Text
behind_empty_line [] = None
behind_empty_line (a ∷ []) = None
behind_empty_line (a ∷ b ∷ rest) =
    if is_line_feed a && is_line_feed b then Some rest else behind_empty_line (b ∷ rest)

-- the first line of the description, where the text is that of an entry
abbrev pub title : Text → Option Text
title text = if begins_with_manifest text then option_map (before_first is_line_feed) (behind_empty_line text) else None

-- what a changeset is called beside its id: its title, where it has one
abbrev pub label_of : Contents → Text
label_of c = unwrap_or (title c.text) []

-- a label as it is written: what isn't printed, quotes and backslashes are escaped
abbrev pub escaped : Text → Text
escaped label = flat_map escape_ascii label

-- What is printed.
use Rattle.std.specs.Prelude.{ℕ, List, [], ◌∷◌, ◌++◌, ◌≡◌, ◌==◌, ◌&&◌, ◌||◌, not, Bool, true, Option, Some, None}
use Rattle.std.specs.Prelude.{codes, decimal, length, Ok, if◌then◌else◌}
use Rattle.std.specs.Char.Escape.{escape_ascii}
use Rattle.std.specs.FinMap.{entries}
use Rattle.std.specs.Fmt.{radix_digits}
use Rattle.std.specs.List.{flat_map, list_any}
use Rattle.std.specs.Str.{bytes_eq}
use Rattle.hex.specs.Hex.{encode_lower}
use Rattle.hg_changeset.specs.declared.node.Node.{Node}
use Rattle.hg_marker.specs.declared.parents.Parents.{Parents}
use Rattle.hg_marker.specs.declared.parents.Parents.TheVariants.{Unrecorded, Empty, One, Two}
use Rattle.hg_marker.specs.Fields.{Fields}
use Rattle.hg_marker.specs.Parents.{parents_of}
use Rattle.hg_changeset.specs.Contents.{Contents}
use Rattle.hg_changeset.specs.Changeset.{node_of}
use Rattle.hg_phases.specs.declared.phase.Phase.{Phase}
use Rattle.hg_phases.specs.Words.{phase_word}
use Rattle.hg_phaseroots.specs.Reading.{Root, roots_of}
use Rattle.hg_obsstore.specs.Faults.{store_at}
use Rattle.hg_message.specs.declared.scope.Scope.{Scope}
use Rattle.hg_message.specs.declared.scope.Scope.TheVariants.{Served, Whole}
use Rattle.hg_message.specs.Message.{message_at}
use Rattle.hg_message.specs.Value.{MessageValue}
use Rattle.hg_show.specs.declared.form.Form.{Form}
use Rattle.hg_show.specs.declared.form.Form.TheVariants.{Store as store, Roots as roots, Message as message}

abbrev pub Text : Type 0
Text = List ℕ

-- the text and an LF
abbrev pub line_of : Text → Text
line_of text = text ++ 10 ∷ []

-- ---- ids

-- an id behind a separator
abbrev pub id_behind : Text → Node → Text
id_behind separator node = separator ++ encode_lower node.0

-- ids with a comma and a space between them
abbrev pub listed_ids : List Node → Text
listed_ids [] = []
listed_ids (first ∷ others) = encode_lower first.0 ++ flat_map (id_behind (codes ", ")) others

abbrev pub braced_ids : List Node → Text
braced_ids nodes = codes "{" ++ listed_ids nodes ++ codes "}"

-- ---- bytes in quotes

abbrev pub single_quote : ℕ
single_quote = 39

abbrev pub double_quote : ℕ
double_quote = 34

-- the byte is a quote, and not the one that is used
abbrev pub is_other_quote : Option ℕ → ℕ → Bool
is_other_quote None byte = byte == single_quote || byte == double_quote
is_other_quote (Some quote) byte = (byte == single_quote || byte == double_quote) && not (byte == quote)

-- a quote that isn't used stands for itself
abbrev pub escaped_byte : Option ℕ → ℕ → Text
escaped_byte quote byte = if is_other_quote quote byte then byte ∷ [] else escape_ascii byte

abbrev pub escaped : Option ℕ → Text → Text
escaped quote bytes = flat_map (escaped_byte quote) bytes

-- single quotes, or double ones where single ones but no double ones are inside
abbrev pub quote_for : Text → ℕ
quote_for bytes =
    if list_any (λ b. b == single_quote) bytes && not (list_any (λ b. b == double_quote) bytes) then double_quote
    else single_quote

abbrev pub quoted : Text → Text
quoted bytes = (quote_for bytes ∷ escaped (Some (quote_for bytes)) bytes) ++ quote_for bytes ∷ []

-- ---- markers

-- what has a place of its own in a marker's line: the date and the parents
abbrev pub is_told_apart : Text → Bool
is_told_apart key = bytes_eq key (codes "date") || bytes_eq key (codes "p1") || bytes_eq key (codes "p2")

abbrev pub entry_text : Text × Text → Text
entry_text e = quoted e.0 ++ codes ": " ++ quoted e.1

-- entries that aren't told apart: this separator comes before the first, a comma and a space before each other one
abbrev pub separated : Text → List (Text × Text) → Text
separated separator [] = []
separated separator (e ∷ es) =
    if is_told_apart e.0 then separated separator es else (separator ++ entry_text e) ++ separated (codes ", ") es

abbrev pub metadata_text : List (Text × Text) → Text
metadata_text es = codes "{" ++ separated [] es ++ codes "}"

-- parents where they are recorded, with a space behind them
abbrev pub parents_text : Parents → Text
parents_text Unrecorded = []
parents_text Empty = codes "{} "
parents_text (One p) = braced_ids (p ∷ []) ++ codes " "
parents_text (Two p q) = braced_ids (p ∷ q ∷ []) ++ codes " "

-- the flags in hexadecimal digits, with a space at either side
abbrev pub flags_text : ℕ → Text
flags_text flags = codes " " ++ radix_digits 16 true flags ++ codes " "

-- the line of a marker, but for its end, where its date is this text
abbrev pub marker_text : Text → Fields → Text
marker_text date m =
    encode_lower m.predecessor.0 ++ flat_map (id_behind (codes " ")) m.successors ++ flags_text m.flags
    ++ parents_text (parents_of m.metadata) ++ (codes "(" ++ date ++ codes ") ") ++ metadata_text (entries m.metadata)

-- the same with some date
abbrev pub IsMarkerText : Fields → Text → Type 0
IsMarkerText m text = (date : Text) × (text ≡ marker_text date m)

-- ---- roots and bounds

abbrev pub root_text : Root → Text
root_text root = phase_word root.0 ++ codes " " ++ encode_lower root.1.0

abbrev pub IsRootText : Root → Text → Type 0
IsRootText root text = text ≡ root_text root

abbrev pub IsBoundText : Node × Phase → Text → Type 0
IsBoundText bound text = text ≡ codes "bound " ++ root_text (bound.1, bound.0)

-- ---- changesets

-- the id of the changeset comes first, then its parents, its size, and the first line of its description
abbrev pub IsChangesetText : Contents → Text → Type 0
IsChangesetText c text = (rest : Text) × (text ≡ codes "changeset " ++ encode_lower (node_of c).0 ++ rest)

-- ---- all of it

-- a line for each, in their order
abbrev pub AreLines : {X : Type 0} → (X → Text → Type 0) → List X → Text → Type 0
AreLines IsText [] text = text ≡ []
AreLines IsText (x ∷ xs) text =
    (first : Text) × (others : Text) × IsText x first × AreLines IsText xs others × (text ≡ line_of first ++ others)

abbrev pub scope_word : Scope → Text
scope_word Served = codes "served"
scope_word Whole = codes "whole"

-- the scope of the message, and how much it holds
abbrev pub heading_text : MessageValue → Text
heading_text m =
    scope_word m.scope ++ (codes ": " ++ (decimal (length m.changesets) ++ (codes " changesets "
    ++ (decimal (length m.bounds) ++ (codes " bounds " ++ (decimal (length m.markers) ++ codes " markers"))))))

-- the heading, and then a line for each changeset, each bound and each marker
pub record IsMessageText (m : MessageValue) (text : Text) : Type 0 where
  pub changesets : Text
  pub bounds : Text
  pub markers : Text
  pub of_changesets : AreLines IsChangesetText m.changesets changesets
  pub of_bounds : AreLines IsBoundText m.bounds bounds
  pub of_markers : AreLines IsMarkerText m.markers markers
  pub all : text ≡ line_of (heading_text m) ++ (changesets ++ (bounds ++ markers))

-- what is printed of the bytes of a store, which are read without a fault: a line for each marker, with its repeats
abbrev pub IsStoreShown : List ℕ → Text → Type 0
IsStoreShown bytes text = (ms : List Fields) × (store_at bytes ≡ Ok ms) × AreLines IsMarkerText ms text

-- of a text of roots: a line for each that it lists
abbrev pub AreRootsShown : List ℕ → Text → Type 0
AreRootsShown bytes text = (rs : List Root) × (roots_of bytes ≡ Ok rs) × AreLines IsRootText rs text

-- of the bytes of a message
abbrev pub IsMessageShown : List ℕ → Text → Type 0
IsMessageShown bytes text = (m : MessageValue) × (message_at bytes ≡ Ok m) × IsMessageText m text

-- of bytes of each form
abbrev pub AreBytesShown : Form → List ℕ → Text → Type 0
AreBytesShown store bytes text = IsStoreShown bytes text
AreBytesShown roots bytes text = AreRootsShown bytes text
AreBytesShown message bytes text = IsMessageShown bytes text

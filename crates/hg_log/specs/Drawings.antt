-- What is drawn of a history.
use Rattle.std.specs.Prelude.{ℕ, zero, suc, ◌≡◌, ◌⊎◌, ◌+◌, ◌++◌, ◌∷◌, [], List, Bool, true, false}
use Rattle.std.specs.Prelude.{Option, Some, length, slice_get, take}
use Rattle.std.specs.Io.KnownBytes.{Appends}
use Rattle.std.specs.Str.{IsTrimAsciiEnd}
use Rattle.hex.specs.Hex.{encode_lower}
use Rattle.hg_changeset.specs.declared.node.Node.{Node}
use Rattle.hg_graph.specs.Graph.{nodes}
use Rattle.hg_phases.specs.State.{changesets}
use Rattle.hg_replica.specs.Content.{content_of}
use Rattle.hg_view.specs.Kept.{KeptValue}
use Rattle.hg_view.specs.Pins.{IsVisibleUnder}

abbrev pub Text : Type 0
Text = List ℕ

-- ---- texts that grow

-- a line got longer at its end
abbrev pub Extends : Text → Text → Type 0
Extends line longer = (more : Text) × (longer ≡ line ++ more)

-- what the writer holds, where that is known, grew at its end
abbrev pub Grows : Option Text → Option Text → Type 0
Grows held holds = (text : Text) × Appends held holds text

-- ---- which changesets

-- what is held is drawn, or of it what is visible under the pins
abbrev pub IsToBeDrawn : KeptValue → Bool → Node → Type 0
IsToBeDrawn kept true n = Unit {0}
IsToBeDrawn kept false n = IsVisibleUnder (content_of kept.replica) kept.pins n

-- the changeset stands at the place
abbrev pub StandsAt : KeptValue → ℕ → Node → Type 0
StandsAt kept place n = slice_get (nodes (changesets kept.replica.history)) place ≡ Some n

-- what stands there is to be drawn
abbrev pub IsPlaceToBeDrawn : KeptValue → Bool → ℕ → Type 0
IsPlaceToBeDrawn kept shows_hidden place = (n : Node) × StandsAt kept place n × IsToBeDrawn kept shows_hidden n

-- ---- texts of changesets

-- the first 12 hexadecimal digits of an id
abbrev pub short_id : Node → Text
short_id n = take 12 (encode_lower n.0)

-- the short id of the changeset stands on the line
abbrev pub HasId : Node → Text → Type 0
HasId n line = (before : Text) × (behind : Text) × (line ≡ before ++ (short_id n ++ behind))

-- the line without the blanks at its end, and an LF
abbrev pub IsLine : Text → Text → Type 0
IsLine line text = (trimmed : Text) × IsTrimAsciiEnd line trimmed × (text ≡ trimmed ++ 10 ∷ [])

-- a line with the changeset's short id, and further lines
abbrev pub IsDrawnText : Node → Text → Type 0
IsDrawnText n text =
    (line : Text) × (first : Text) × (below : Text) × HasId n line × IsLine line first × (text ≡ first ++ below)

-- ---- all that is drawn

-- what the place gives: so much where what stands there is to be drawn, and nothing where it isn't
abbrev pub IsPlaceGiven : {A : Type 0} → (ℕ → List A → Type 0) → KeptValue → Bool → ℕ → List A → Type 0
IsPlaceGiven Gives kept shows_hidden place items =
    (IsPlaceToBeDrawn kept shows_hidden place × Gives place items)
    ⊎ ((¬ (IsPlaceToBeDrawn kept shows_hidden place)) × (items ≡ []))

-- the same of so many places, from this one on, the last first
abbrev pub ArePlacesGiven : {A : Type 0} → (ℕ → List A → Type 0) → KeptValue → Bool → ℕ → ℕ → List A → Type 0
ArePlacesGiven Gives kept shows_hidden place zero items = items ≡ []
ArePlacesGiven {A = A} Gives kept shows_hidden place (suc count) items =
    (above : List A) × (here : List A) × ArePlacesGiven Gives kept shows_hidden (place + 1) count above
    × IsPlaceGiven Gives kept shows_hidden place here × (items ≡ above ++ here)

-- what each of these gives, one after the other
abbrev pub ArePieces : {A B : Type 0} → (A → List B → Type 0) → List A → List B → Type 0
ArePieces Gives [] items = items ≡ []
ArePieces {B = B} Gives (x ∷ xs) items =
    (first : List B) × (others : List B) × Gives x first × ArePieces Gives xs others × (items ≡ first ++ others)

-- what is drawn of a place: lines of the changeset there
abbrev pub IsDrawnAt : KeptValue → ℕ → Text → Type 0
IsDrawnAt kept place text = (n : Node) × StandsAt kept place n × IsDrawnText n text

-- what is drawn of all places: each changeset that is to be drawn comes before its parents
abbrev pub AreAllDrawn : KeptValue → Bool → Text → Type 0
AreAllDrawn kept shows_hidden text =
    ArePlacesGiven (IsDrawnAt kept) kept shows_hidden 0 (length (changesets kept.replica.history)) text

-- the changesets stand between other lines
abbrev pub IsGraph : KeptValue → Bool → Text → Type 0
IsGraph kept shows_hidden text =
    (before : Text) × (boxes : Text) × (after : Text) × AreAllDrawn kept shows_hidden boxes
    × (text ≡ before ++ (boxes ++ after))

-- Pieces of JSON.
use Rattle.std.specs.Prelude.{ℕ, ◌≡◌, ◌==◌, ◌||◌, ◌&&◌, nat_lt, not, Bool, true, false, List, [], ◌∷◌, ◌++◌, codes}
use Rattle.std.specs.Prelude.{if◌then◌else◌}
use Rattle.std.specs.List.{flat_map}
use Rattle.std.specs.Str.{is_utf8}
use Rattle.hex.specs.Hex.{encode_lower}
use Rattle.hg_changeset.specs.declared.node.Node.{Node}
use Rattle.hg_log.specs.Drawings.{Text}

-- ---- strings

-- a byte in a string: a quote or a backslash has a backslash before it; a control character is escaped by its number,
-- and so is a byte above 127 where the whole isn't UTF-8, as the surrogate with its bits
abbrev pub byte_text : Bool → ℕ → Text
byte_text is_text b =
    if (b == 34) || (b == 92) then 92 ∷ b ∷ []
    else if (nat_lt b 32) || (b == 127) then codes "\\u00" ++ encode_lower (b ∷ [])
    else if (nat_lt 127 b) && not is_text then codes "\\udc" ++ encode_lower (b ∷ [])
    else b ∷ []

-- bytes between quotes
abbrev pub string_text : Text → Text
string_text bytes = 34 ∷ flat_map (byte_text (is_utf8 bytes)) bytes ++ 34 ∷ []

-- a line got longer by this text
pub record IsAppended (line text longer : Text) : Type 0 where
  pub is : longer ≡ line ++ text

-- ---- lists

-- the texts of items, with a divider before each but the first; before that one too, where something stands before
abbrev pub divided : {A : Type 0} → Bool → Text → (A → Text) → List A → Text
divided is_behind divider text [] = []
divided is_behind divider text (x ∷ xs) =
    (if is_behind then divider else []) ++ (text x ++ divided true divider text xs)

-- something stands before what follows the items
abbrev pub behind : {A : Type 0} → Bool → List A → Bool
behind is_behind [] = is_behind
behind is_behind (x ∷ xs) = true

-- a line got longer by these items, and whether something stands before what follows
pub record AreDivided {A : Type 0} (b : Bool) (d : Text) (f : A → Text) (xs : List A) (line longer : Text)
    (is_behind : Bool) : Type 0 where
  pub text : longer ≡ line ++ divided b d f xs
  pub behind : is_behind ≡ behind b xs

-- a list between brackets
abbrev pub list_text : {A : Type 0} → (A → Text) → List A → Text
list_text text xs = codes "[" ++ divided false (codes ", ") text xs ++ codes "]"

-- ---- values

abbrev pub truth_text : Bool → Text
truth_text is_so = if is_so then codes "true" else codes "false"

-- the 40 digits of an id between quotes
abbrev pub id_text : Node → Text
id_text n = 34 ∷ encode_lower n.0 ++ 34 ∷ []

abbrev pub ids_text : List Node → Text
ids_text = list_text id_text

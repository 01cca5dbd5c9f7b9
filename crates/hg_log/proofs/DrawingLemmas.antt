-- Texts that grow, and places that are drawn one after the other.
use Rattle.std.proofs.Common.{◌≡◌, ◌+◌, ◌-◌, ◌<◌, ℕ, suc, ◌++◌, ◌∷◌, [], Bool, true, false, Option, refl, ap, ◌∙◌, sym}
use Rattle.std.proofs.Common.{arith, append_assoc, append-nil, inl, inr, length, subst, List}
use Rattle.std.specs.Io.KnownBytes.{Appends}
use Rattle.std.proofs.KnownBytes.{Appends-trans, Appends-nil}
use Rattle.hg_changeset.specs.declared.node.Node.{Node}
use Rattle.hg_phases.specs.State.{changesets}
use Rattle.hg_view.specs.Kept.{KeptValue}
use Rattle.hg_log.specs.declared.colour.Colour.TheVariants.{Yellow}
use Rattle.hg_log.specs.Colours.{end_of_colour, in_colour, start_of}
use Rattle.hg_log.specs.Drawings.{ArePieces, ArePlacesGiven, Extends, Grows, HasId, IsDrawnAt, IsDrawnText, IsLine}
use Rattle.hg_log.specs.Drawings.{IsPlaceGiven, IsPlaceToBeDrawn, StandsAt, Text, short_id}

-- ---- texts that grow

pub Extends-trans : (a b c : Text) → Extends a b → Extends b c → Extends a c
Extends-trans a b c first second =
    (first.0 ++ second.0, second.1 ∙ ap (λ (l : Text). l ++ second.0) first.1 ∙ append_assoc a first.0 second.0)

pub Grows-trans : (a b c : Option Text) → Grows a b → Grows b c → Grows a c
Grows-trans a b c first second =
    (first.0 ++ second.0, Appends-trans a b c first.0 second.0 first.1 second.1)

-- ---- texts of changesets

-- the id that was pushed is still there after more was
pub HasId-extended : (n : Node) (a b c : Text) → b ≡ a ++ short_id n → Extends b c → HasId n c
HasId-extended n a b c id more =
    (a, more.0, more.1 ∙ ap (λ (l : Text). l ++ more.0) id ∙ append_assoc a (short_id n) more.0)

-- the id that was pushed is there, in a colour too
pub HasId-coloured : (n : Node) (is_coloured : Bool) (a b : Text) → b ≡ a ++ in_colour Yellow is_coloured (short_id n)
    → HasId n b
HasId-coloured n false a b id = (a, [], id ∙ ap (λ (l : Text). a ++ l) (sym (append-nil (short_id n))))
HasId-coloured n true a b id =
    let start : Text = start_of Yellow in
    (a ++ start, end_of_colour, id ∙ sym (append_assoc a start (short_id n ++ end_of_colour)))

pub HasId-more : (n : Node) (a b : Text) → HasId n a → Extends a b → HasId n b
HasId-more n a b has more =
    let front = more.1 ∙ ap (λ (l : Text). l ++ more.0) has.2 ∙ append_assoc has.0 (short_id n ++ has.1) more.0 in
    (has.0, has.1 ++ more.0, front ∙ ap (λ (l : Text). has.0 ++ l) (append_assoc (short_id n) has.1 more.0))

-- a line with the id, and what is written below it
pub drawn_text : (n : Node) (line : Text) (a b c : Option Text) → HasId n line
    → ((text : Text) × IsLine line text × Appends a b text) → Grows b c
    → (text : Text) × IsDrawnText n text × Appends a c text
drawn_text n line a b c has written below = (
  written.0 ++ below.0,
  (line, written.0, below.0, has, written.1, refl),
  Appends-trans a b c written.0 below.0 written.2 below.1,
)

-- ---- pieces

-- one more of these
pub pieces_more : {A B : Type 0} (Gives : A → List B → Type 0) (xs : List A) (x : A) (items others : List B)
    → ArePieces Gives xs items → Gives x others → ArePieces Gives (xs ++ x ∷ []) (items ++ others)
pieces_more {B = B} Gives [] x items others none next =
    (others, [], next, refl, ap (λ (l : List B). l ++ others) none ∙ sym (append-nil others))
pieces_more {B = B} Gives (y ∷ xs) x items others (first, rest, is, are, same) next = (
  first,
  rest ++ others,
  is,
  pieces_more Gives xs x rest others are next,
  ap (λ (l : List B). l ++ others) same ∙ append_assoc first rest others,
)

-- ---- places

-- the places from this one on gave so much
abbrev pub AreGivenFrom : {A : Type 0} → (ℕ → List A → Type 0) → KeptValue → Bool → ℕ → List A → Type 0
AreGivenFrom Gives kept shows_hidden place items =
    (count : ℕ) × (place + count ≡ length (changesets kept.replica.history))
    × ArePlacesGiven Gives kept shows_hidden place count items

-- no place gave nothing
pub none_given : {A : Type 0} (Gives : ℕ → List A → Type 0) (kept : KeptValue) (shows_hidden : Bool) (place : ℕ)
    → place ≡ length (changesets kept.replica.history) → AreGivenFrom {A = A} Gives kept shows_hidden place []
none_given Gives kept shows_hidden place end = (0, omega (arith, end), refl)

-- the place below those that gave so much
pub next_given : {A : Type 0} (Gives : ℕ → List A → Type 0) (kept : KeptValue) (shows_hidden : Bool) (place : ℕ)
    (items here : List A) → 0 < place → AreGivenFrom Gives kept shows_hidden place items
    → IsPlaceGiven Gives kept shows_hidden (place - 1) here
    → AreGivenFrom Gives kept shows_hidden (place - 1) (items ++ here)
next_given Gives kept shows_hidden place items here within given next =
    let same : place ≡ (place - 1) + 1 = omega arith in
    let count : (place - 1) + suc given.0 ≡ length (changesets kept.replica.history) = omega (arith, given.1) in
    let P : ℕ → Type 0 = λ k. ArePlacesGiven Gives kept shows_hidden k given.0 items in (
      suc given.0,
      count,
      (items, here, subst P same given.2, next, refl),
    )

-- the places from this one on are drawn
abbrev pub AreDrawnFrom : KeptValue → Bool → ℕ → Option Text → Option Text → Type 0
AreDrawnFrom kept shows_hidden place held holds =
    (text : Text) × AreGivenFrom (IsDrawnAt kept) kept shows_hidden place text × Appends held holds text

pub none_drawn : (kept : KeptValue) (shows_hidden : Bool) (place : ℕ) (held : Option Text)
    → place ≡ length (changesets kept.replica.history) → AreDrawnFrom kept shows_hidden place held held
none_drawn kept shows_hidden place held end =
    ([], none_given (IsDrawnAt kept) kept shows_hidden place end, Appends-nil held)

pub shown_place : (kept : KeptValue) (shows_hidden : Bool) (place : ℕ) (a b : Option Text)
    → IsPlaceToBeDrawn kept shows_hidden place
    → ((n : Node) × (text : Text) × StandsAt kept place n × IsDrawnText n text × Appends a b text)
    → (here : Text) × IsPlaceGiven (IsDrawnAt kept) kept shows_hidden place here × Appends a b here
shown_place kept shows_hidden place a b shown drawn = (drawn.1, inl (shown, (drawn.0, drawn.2, drawn.3)), drawn.4)

pub hidden_place : (kept : KeptValue) (shows_hidden : Bool) (place : ℕ) (a : Option Text)
    → ¬ (IsPlaceToBeDrawn kept shows_hidden place)
    → (here : Text) × IsPlaceGiven (IsDrawnAt kept) kept shows_hidden place here × Appends a a here
hidden_place kept shows_hidden place a hidden = ([], inr (hidden, refl), Appends-nil a)

-- the place below those that are drawn
pub next_place : (kept : KeptValue) (shows_hidden : Bool) (place : ℕ) (a b c : Option Text) → 0 < place
    → AreDrawnFrom kept shows_hidden place a b
    → ((here : Text) × IsPlaceGiven (IsDrawnAt kept) kept shows_hidden (place - 1) here × Appends b c here)
    → AreDrawnFrom kept shows_hidden (place - 1) a c
next_place kept shows_hidden place a b c within drawn next = (
  drawn.0 ++ next.0,
  next_given (IsDrawnAt kept) kept shows_hidden place drawn.0 next.0 within drawn.1 next.1,
  Appends-trans a b c drawn.0 next.0 drawn.2 next.2,
)

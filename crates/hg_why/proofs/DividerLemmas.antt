-- Items that are appended one by one, with a divider in hand for the next.
use Rattle.std.proofs.Common.{◌≡◌, ◌+◌, ◌<◌, ◌++◌, ◌∷◌, [], ℕ, Bool, true, false, List, refl, ap, ◌∙◌, sym}
use Rattle.std.proofs.Common.{append-nil, get_or, length, map, take}
use Rattle.std.specs.Prelude.{if◌then◌else◌}
use Rattle.hg_log.specs.Drawings.{Text}
use Rattle.hg_log.specs.Json.{AreDivided, behind, divided}
use Rattle.hg_log.proofs.JsonLemmas.{divided_next}

-- a line got longer by these items, and this comes before the next
abbrev pub AreAppended : {A : Type 0} → Text → (A → Text) → List A → Text → Text → Text → Type 0
AreAppended divider text xs line longer before =
    (longer ≡ line ++ divided false divider text xs) × (before ≡ (if behind false xs then divider else []))

pub none_appended : {A : Type 0} (divider : Text) (text : A → Text) (line : Text)
    → AreAppended {A = A} divider text [] line line []
none_appended divider text line = (sym (append-nil line), refl)

-- the item at the place behind those that were taken
pub next_appended : {A : Type 0} (divider : Text) (text : A → Text) (xs : List A) (i : ℕ) (x : A)
    (line a m c before : Text) → i < length xs → AreAppended divider text (take i xs) line a before → m ≡ a ++ before
    → c ≡ m ++ text (get_or xs i x) → AreAppended divider text (take (i + 1) xs) line c divider
next_appended {A = A} divider text xs i x line a m c before within so middle end =
    let is_behind : Bool = behind false (take i xs) in
    let are : AreDivided false divider text (take i xs) line a is_behind = record { text = so.0; behind = refl } in
    let next : AreDivided false divider text (take (i + 1) xs) line c true = divided_next false divider text xs i x
    line a m c is_behind true within are (middle ∙ ap (λ (t : Text). a ++ t) so.1) end refl in
    (next.text, ap (λ (b : Bool). if b then divider else []) next.behind)

-- items that are made of others
pub divided-map : {A B : Type 0} (b : Bool) (divider : Text) (made : A → B) (text : B → Text) (xs : List A)
    → divided b divider text (map made xs) ≡ divided b divider (λ x. text (made x)) xs
divided-map b divider made text [] = refl
divided-map b divider made text (x ∷ xs) =
    let front : Text = if b then divider else [] in
    ap (λ (t : Text). front ++ (text (made x) ++ t)) (divided-map true divider made text xs)

-- Texts of items with dividers.
use Rattle.std.proofs.Common.{◌≡◌, ◌+◌, ◌<◌, ◌++◌, ◌∷◌, [], ℕ, Bool, true, List, refl, ap, ◌∙◌, sym, subst}
use Rattle.std.proofs.Common.{append_assoc}
use Rattle.std.proofs.Common.{append-nil, get_or, length, take}
use Rattle.std.specs.Prelude.{if◌then◌else◌}
use Rattle.std.proofs.lemmas.List.{take_more}
use Rattle.std.proofs.Common.{Result, Ok, Err, false}
use Rattle.std.specs.Prelude.{MatchResult, is_ok}
use Rattle.std.specs.Str.{IsUtf8, is_utf8}
use Rattle.std.proofs.lemmas.Str.{IsUtf8-from_is_utf8, is_utf8-from_IsUtf8}
use Rattle.hg_log.specs.Drawings.{Text}
use Rattle.hg_log.specs.Json.{AreDivided, IsAppended, behind, divided}

-- a text behind another
pub then_appended : {a b c t u : Text} → IsAppended a t b → IsAppended b u c → IsAppended a (t ++ u) c
then_appended {a = a} {t = t} {u = u} first second = record {
  is = second.is ∙ ap (λ (l : Text). l ++ u) first.is ∙ append_assoc a t u;
}

-- what stands behind something stays so
pub always_behind : {A : Type 0} (xs : List A) → behind true xs ≡ true
always_behind [] = refl
always_behind (x ∷ xs) = refl

-- items behind others
pub divided-append : {A : Type 0} (b : Bool) (d : Text) (f : A → Text) (xs ys : List A)
    → divided b d f (xs ++ ys) ≡ divided b d f xs ++ divided (behind b xs) d f ys
divided-append b d f [] ys = refl
divided-append b d f (x ∷ xs) ys =
    let front : Text = if b then d else [] in
    let here : Text = divided true d f xs in
    let later : Text = divided (behind true xs) d f ys in
    let rest : f x ++ divided true d f (xs ++ ys) ≡ (f x ++ here) ++ later =
    ap (λ (t : Text). f x ++ t) (divided-append true d f xs ys) ∙ sym (append_assoc (f x) here later) in
    let same : behind true xs ≡ true = always_behind xs in
    let whole : front ++ (f x ++ divided true d f (xs ++ ys)) ≡ (front ++ (f x ++ here)) ++ later =
    ap (λ (t : Text). front ++ t) rest ∙ sym (append_assoc front (f x ++ here) later) in
    subst (λ (s : Bool). front ++ (f x ++ divided true d f (xs ++ ys)) ≡ (front ++ (f x ++ here)) ++ divided s d f ys)
    same whole

pub behind-append : {A : Type 0} (b : Bool) (xs ys : List A) → behind b (xs ++ ys) ≡ behind (behind b xs) ys
behind-append b [] ys = refl
behind-append b (x ∷ xs) [] = refl
behind-append b (x ∷ xs) (y ∷ ys) = refl

-- one more item
pub divided_more : {A : Type 0} (b : Bool) (d : Text) (f : A → Text) (xs : List A) (x : A) (line a m c : Text)
    (before after : Bool) → AreDivided b d f xs line a before → m ≡ a ++ (if before then d else []) → c ≡ m ++ f x
    → after ≡ true → AreDivided b d f (xs ++ x ∷ []) line c after
divided_more b d f xs x line a m c before after so middle end is_so =
    let front : Text = if behind b xs then d else [] in
    let step : c ≡ (a ++ front) ++ f x = end ∙ ap (λ (t : Text). t ++ f x)
    (subst (λ (s : Bool). m ≡ a ++ (if s then d else [])) so.behind middle) in
    let items : Text = divided b d f xs in
    let piece : f x ≡ f x ++ [] = sym (append-nil (f x)) in
    let whole : c ≡ line ++ (items ++ (front ++ (f x ++ []))) =
    step ∙ append_assoc a front (f x) ∙ ap (λ (t : Text). t ++ (front ++ f x)) so.text
    ∙ append_assoc line items (front ++ f x) ∙ ap (λ (t : Text). line ++ (items ++ (front ++ t))) piece in
    record {
      text = whole ∙ ap (λ (t : Text). line ++ t) (sym (divided-append b d f xs (x ∷ [])));
      behind = is_so ∙ sym (behind-append b xs (x ∷ []));
    }

-- the item at the place behind those that were taken
pub divided_next : {A : Type 0} (b : Bool) (d : Text) (f : A → Text) (xs : List A) (i : ℕ) (e : A)
    (line a m c : Text) (before after : Bool) → i < length xs → AreDivided b d f (take i xs) line a before
    → m ≡ a ++ (if before then d else []) → c ≡ m ++ f (get_or xs i e) → after ≡ true
    → AreDivided b d f (take (i + 1) xs) line c after
divided_next {A = A} b d f xs i e line a m c before after within so middle end is_so =
    subst (λ (ys : List A). AreDivided b d f ys line c after) (sym (take_more xs i e within))
    (divided_more b d f (take i xs) (get_or xs i e) line a m c before after so middle end is_so)

not_told : (bytes : Text) (b : Bool) → is_utf8 bytes ≡ b → ¬ (IsUtf8 bytes) → is_utf8 bytes ≡ false
not_told bytes false e so = e
not_told bytes true e so = absurd (so (IsUtf8-from_is_utf8 bytes e))

-- bytes that are UTF-8 pass the test, and others don't
pub utf8_told : {A E : Type 0} (P : A → Type 0) (Q : E → Type 0) (bytes : Text) (r : Result A E) (b : Bool)
    → MatchResult r (λ s. P s × IsUtf8 bytes) (λ e. ¬ (IsUtf8 bytes) × Q e) → b ≡ is_ok r → b ≡ is_utf8 bytes
utf8_told P Q bytes (Ok s) b so e = e ∙ sym (is_utf8-from_IsUtf8 bytes so.1)
utf8_told P Q bytes (Err f) b so e = e ∙ sym (not_told bytes (is_utf8 bytes) refl so.0)

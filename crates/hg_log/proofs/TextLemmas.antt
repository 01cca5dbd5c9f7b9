-- Texts that calls append to a line, of which the last one's answer is that of all.
use Rattle.std.proofs.Common.{◌≡◌, ◌+◌, ◌<◌, ◌++◌, ℕ, List, Option, Result, Ok, Err, OnOk, ap, ◌∙◌, sym, subst}
use Rattle.std.proofs.Common.{append_assoc, get_or, length, take, true≢false}
use Rattle.std.specs.Prelude.{IsOk}
use Rattle.std.specs.Io.KnownBytes.{Appends}
use Rattle.std.specs.List.{flat_map}
use Rattle.std.proofs.lemmas.List.{flat_map_more, take_more}
use Rattle.std.proofs.lemmas.Result.{on_ok_weaker}
use Rattle.hg_changeset.specs.declared.node.Node.{Node}
use Rattle.hg_view.specs.Kept.{KeptValue}
use Rattle.hg_log.specs.Drawings.{Extends, Grows, HasId, IsDrawnText, IsLine, StandsAt, Text}
use Rattle.hg_log.specs.Json.{IsAppended}
use Rattle.hg_log.proofs.DrawingLemmas.{Extends-trans, Grows-trans, HasId-more, drawn_text}
use Rattle.hg_log.proofs.JsonLemmas.{then_appended}

-- what is so of an answer that is no error
pub at_ok : {X E P : Type 0} (r : Result X E) → IsOk r → OnOk r P → P
at_ok (Ok x) is so = so
at_ok (Err e) is so = absurd (true≢false (sym is))

-- ---- exact texts

pub then_pushed : (a b c t u : Text) → b ≡ a ++ t → c ≡ b ++ u → c ≡ a ++ (t ++ u)
then_pushed a b c t u first second = second ∙ ap (λ (l : Text). l ++ u) first ∙ append_assoc a t u

pub last_pushed : {X E : Type 0} (r : Result X E) (a b c t u : Text) → b ≡ a ++ t → OnOk r (c ≡ b ++ u)
    → OnOk r (c ≡ a ++ (t ++ u))
last_pushed r a b c t u first second = on_ok_weaker r (then_pushed a b c t u first) second

pub third_pushed : {X E : Type 0} (r : Result X E) (a b c d t u v : Text) → b ≡ a ++ t → c ≡ b ++ u
    → OnOk r (d ≡ c ++ v) → OnOk r (d ≡ a ++ (t ++ (u ++ v)))
third_pushed r a b c d t u v first second third =
    last_pushed r a b d t (u ++ v) first (last_pushed r b c d u v second third)

pub appended_by : {X E : Type 0} (r : Result X E) (a b t : Text) → OnOk r (b ≡ a ++ t) → OnOk r (IsAppended a t b)
appended_by r a b t pushed =
    let same : b ≡ a ++ t → IsAppended a t b = λ (is : b ≡ a ++ t). record { is = is } in
    on_ok_weaker r same pushed

pub last_then : {X E : Type 0} (r : Result X E) (a b c t u : Text) → IsAppended a t b → OnOk r (IsAppended b u c)
    → OnOk r (IsAppended a (t ++ u) c)
last_then r a b c t u first second = on_ok_weaker r (then_appended first) second

pub last_appended : {X E : Type 0} (r : Result X E) (a b c t u : Text) → b ≡ a ++ t → OnOk r (c ≡ b ++ u)
    → OnOk r (IsAppended a (t ++ u) c)
last_appended r a b c t u first second = last_then r a b c t u (record { is = first }) (appended_by r b c u second)

-- what one more item gives
pub next_pushed : {X : Type 0} (f : X → Text) (xs : List X) (i : ℕ) (e : X) (line a c : Text) → i < length xs
    → a ≡ line ++ flat_map f (take i xs) → c ≡ a ++ f (get_or xs i e) → c ≡ line ++ flat_map f (take (i + 1) xs)
next_pushed {X = X} f xs i e line a c within so next =
    let x : X = get_or xs i e in
    subst (λ (ys : List X). c ≡ line ++ flat_map f ys) (sym (take_more xs i e within))
    (next ∙ ap (λ (l : Text). l ++ f x) so ∙ flat_map_more f line (take i xs) x)

-- ---- longer texts

pub last_extends : {X E : Type 0} (r : Result X E) (a b c : Text) → Extends a b → OnOk r (Extends b c)
    → OnOk r (Extends a c)
last_extends r a b c first second = on_ok_weaker r (Extends-trans a b c first) second

pub extends_by : {X E : Type 0} (r : Result X E) (a b t : Text) → OnOk r (b ≡ a ++ t) → OnOk r (Extends a b)
extends_by r a b t pushed =
    let longer : b ≡ a ++ t → Extends a b = λ (is : b ≡ a ++ t). (t, is) in
    on_ok_weaker r longer pushed

pub last_has_id : {X E : Type 0} (r : Result X E) (n : Node) (a b : Text) → HasId n a → OnOk r (Extends a b)
    → OnOk r (HasId n b)
last_has_id r n a b has more = on_ok_weaker r (HasId-more n a b has) more

-- ---- what is written

pub last_grows : {X E : Type 0} (r : Result X E) (a b c : Option Text) → Grows a b → OnOk r (Grows b c)
    → OnOk r (Grows a c)
last_grows r a b c first second = on_ok_weaker r (Grows-trans a b c first) second

pub grows_by_line : {X E : Type 0} (P : Type 0) (r : Result X E) (line : Text) (a b : Option Text)
    → OnOk r (P × ((text : Text) × IsLine line text × Appends a b text)) → OnOk r (Grows a b)
grows_by_line P r line a b written =
    let grown : P × ((text : Text) × IsLine line text × Appends a b text) → Grows a b =
    λ (w : P × ((text : Text) × IsLine line text × Appends a b text)). (w.1.0, w.1.2) in
    on_ok_weaker r grown written

-- a line with the id, and what is written below it
pub last_drawn : {X E : Type 0} (r : Result X E) (kept : KeptValue) (place : ℕ) (n : Node) (line : Text)
    (a b c : Option Text) → StandsAt kept place n → HasId n line
    → ((text : Text) × IsLine line text × Appends a b text) → OnOk r (Grows b c)
    → OnOk r ((m : Node) × (text : Text) × StandsAt kept place m × IsDrawnText m text × Appends a c text)
last_drawn r kept place n line a b c at has written below =
    let whole : Grows b c
    → (m : Node) × (text : Text) × StandsAt kept place m × IsDrawnText m text × Appends a c text =
    λ (rest : Grows b c).
    let drawn = drawn_text n line a b c has written rest in
    (n, drawn.0, at, drawn.1, drawn.2) in
    on_ok_weaker r whole below

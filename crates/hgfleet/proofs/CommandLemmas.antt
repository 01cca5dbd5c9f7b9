-- Drawings one after the other, and of what.
use Rattle.std.proofs.Common.{◌≡◌, ◌==◌, ◌+◌, ◌<◌, ◌≤◌, ℕ, List, [], ◌∷◌, ◌++◌, String, false, true≢false}
use Rattle.std.proofs.Common.{◌∙◌, ap, length, get_or, drop, map, refl, sym, subst}
use Rattle.std.specs.Borrow.{Bor}
use Rattle.std.specs.declared.alloc.Global.{Global}
use Rattle.std.proofs.lemmas.List.{append-nil, append_assoc, drop_more, drop_all}
use Rattle.hg_log.specs.Drawings.{ArePieces, Text}
use Rattle.hg_log.specs.Objects.{NodeState}
use Rattle.hg_line.specs.declared.fleet.Fleet.{Fleet}
use Rattle.hgfleet.specs.Arguments.{texts_of}
use Rattle.hgfleet.specs.declared.drawing.Drawing.{Drawing}
use Rattle.hgfleet.specs.Commands.{AreDrawnBehind, IsDrawn, drawn_names, node_state_of, node_states_of}
use Rattle.hgfleet.specs.Drawings.{gap_behind}

-- what the next of these gives, by its text, and what the ones after it give
pub next_piece : {X : Type 0} (text_of : X → Text) (Gives : Text → Text → Type 0) (xs : List X) (i : ℕ) (d : X)
    (first rest : Text) → i < length xs → Gives (text_of (get_or xs i d)) first
    → ArePieces Gives (map text_of (drop (i + 1) xs)) rest → ArePieces Gives (map text_of (drop i xs)) (first ++ rest)
next_piece {X = X} text_of Gives xs i d first rest within gives later =
    let P : List X → Type 0 = λ ys. ArePieces Gives (map text_of ys) (first ++ rest) in
    subst P (sym (drop_more xs i d within)) (first, rest, gives, later, refl)

pub no_piece : {X : Type 0} (text_of : X → Text) (Gives : Text → Text → Type 0) (xs : List X) (i : ℕ)
    → length xs ≤ i → ArePieces Gives (map text_of (drop i xs)) []
no_piece {X = X} text_of Gives xs i end =
    let P : List X → Type 0 = λ ys. ArePieces Gives (map text_of ys) [] in
    subst P (sym (drop_all i xs end)) refl

-- the next drawing, with the gap before it, and those behind it
pub next_drawn : (fleet : Fleet) (drawing : Drawing) (before first rest : Text) (names : List (Bor Text)) (i : ℕ)
    (d : Bor Text) → i < length names → IsDrawn fleet drawing (get_or names i d).now first
    → AreDrawnBehind fleet drawing first (map (λ name. name.now) (drop (i + 1) names)) rest
    → AreDrawnBehind fleet drawing before (map (λ name. name.now) (drop i names))
    (gap_behind drawing before ++ (first ++ rest))
next_drawn fleet drawing before first rest names i d within is later =
    let P : List (Bor Text) → Type 0 = λ ns.
    AreDrawnBehind fleet drawing before (map (λ name. name.now) ns) (gap_behind drawing before ++ (first ++ rest)) in
    subst P (sym (drop_more names i d within)) (first, rest, is, later, refl)

-- and no more of them
pub none_drawn : (fleet : Fleet) (drawing : Drawing) (before : Text) (names : List (Bor Text)) (i : ℕ)
    → length names ≤ i → AreDrawnBehind fleet drawing before (map (λ name. name.now) (drop i names)) []
none_drawn fleet drawing before names i end =
    let P : List (Bor Text) → Type 0 = λ ns. AreDrawnBehind fleet drawing before (map (λ name. name.now) ns) [] in
    subst P (sym (drop_all i names end)) refl

-- where names are given, those are drawn
pub given_drawn : (fleet : Fleet) (nodes : List (String Global)) → (length nodes == 0) ≡ false
    → texts_of nodes ≡ drawn_names fleet (texts_of nodes)
given_drawn fleet [] e = absurd (true≢false e)
given_drawn fleet (node ∷ nodes) e = refl

-- the nodes of the names that are left, after the next one was added
pub next_state : (fleet : Fleet) (names : List (Bor Text)) (i : ℕ) (d : Bor Text) (before after all : List NodeState)
    → i < length names → after ≡ before ++ node_state_of fleet (get_or names i d).now
    → before ++ node_states_of fleet (map (λ name. name.now) (drop i names)) ≡ all
    → after ++ node_states_of fleet (map (λ name. name.now) (drop (i + 1) names)) ≡ all
next_state fleet names i d before after all within grew held =
    let P : List (Bor Text) → Type 0 = λ ns. before ++ node_states_of fleet (map (λ name. name.now) ns) ≡ all in
    let rest = node_states_of fleet (map (λ name. name.now) (drop (i + 1) names)) in
    ap (λ (states : List NodeState). states ++ rest) grew
    ∙ append_assoc before (node_state_of fleet (get_or names i d).now) rest ∙ subst P (drop_more names i d within) held

pub no_state : (fleet : Fleet) (names : List (Bor Text)) (i : ℕ) (states all : List NodeState) → length names ≤ i
    → states ++ node_states_of fleet (map (λ name. name.now) (drop i names)) ≡ all → states ≡ all
no_state fleet names i states all end held =
    let P : List (Bor Text) → Type 0 = λ ns. states ++ node_states_of fleet (map (λ name. name.now) ns) ≡ all in
    sym (append-nil states) ∙ subst P (drop_all i names end) held

-- The line of a marker from its pieces, and lines one after the other.
use Rattle.std.proofs.Common.{◌≡◌, ◌+◌, ◌<◌, ◌≤◌, ℕ, List, [], ◌++◌, length, get_or, drop, codes, refl, sym}
use Rattle.std.proofs.Common.{subst, ap, ◌∙◌, append_assoc, Option}
use Rattle.std.specs.FinMap.{entries}
use Rattle.std.specs.Io.KnownBytes.{Appends}
use Rattle.std.specs.List.{flat_map}
use Rattle.std.proofs.lemmas.List.{drop_more, drop_all}
use Rattle.hex.specs.Hex.{encode_lower}
use Rattle.hg_changeset.specs.declared.node.Node.{Node}
use Rattle.hg_marker.specs.declared.parents.Parents.{Parents}
use Rattle.hg_marker.specs.Fields.{Fields}
use Rattle.hg_marker.specs.Parents.{parents_of}
use Rattle.hg_marker.specs.Texts.{Texts}
use Rattle.hg_show.specs.Printing.{AreLines, Text, flags_text, id_behind, line_of, marker_text}
use Rattle.hg_show.specs.Printing.{metadata_text, parents_text}

-- ---- the line of a marker

-- six pieces, one after the other
six_pieces : (t0 t1 t2 t3 t4 t5 t6 a b c d e f : Text) → t1 ≡ t0 ++ a → t2 ≡ t1 ++ b → t3 ≡ t2 ++ c → t4 ≡ t3 ++ d
    → t5 ≡ t4 ++ e → t6 ≡ t5 ++ f → t6 ≡ t0 ++ (a ++ b ++ c ++ d ++ e ++ f)
six_pieces t0 t1 t2 t3 t4 t5 t6 a b c d e f h1 h2 h3 h4 h5 h6 =
    let all : t6 ≡ t0 ++ a ++ b ++ c ++ d ++ e ++ f =
    h6 ∙ ap (λ t. t ++ f) (h5 ∙ ap (λ t. t ++ e) (h4 ∙ ap (λ t. t ++ d) (h3 ∙ ap (λ t. t ++ c)
    (h2 ∙ ap (λ t. t ++ b) h1)))) in
    all ∙ simp append_assoc

pub marker_from_pieces : (m : Fields) (date : Text) (node : Node) (ns : List Node) (flags : ℕ) (parents : Parents)
    (texts : Texts) (t0 t1 t2 t3 t4 t5 t6 : Text)
    → node ≡ m.predecessor → ns ≡ m.successors → flags ≡ m.flags → parents ≡ parents_of m.metadata
    → texts ≡ m.metadata
    → t1 ≡ t0 ++ encode_lower node.0 → t2 ≡ t1 ++ flat_map (id_behind (codes " ")) ns → t3 ≡ t2 ++ flags_text flags
    → t4 ≡ t3 ++ parents_text parents → t5 ≡ t4 ++ (codes "(" ++ date ++ codes ") ")
    → t6 ≡ t5 ++ metadata_text (entries texts) → t6 ≡ t0 ++ marker_text date m
marker_from_pieces m date node ns flags parents texts t0 t1 t2 t3 t4 t5 t6 pn ps pf pp pt h1 h2 h3 h4 h5 h6 =
    six_pieces t0 t1 t2 t3 t4 t5 t6 _ _ _ _ _ _
    (h1 ∙ ap (λ (n : Node). t0 ++ encode_lower n.0) pn)
    (h2 ∙ ap (λ (l : List Node). t1 ++ flat_map (id_behind (codes " ")) l) ps)
    (h3 ∙ ap (λ (k : ℕ). t2 ++ flags_text k) pf)
    (h4 ∙ ap (λ (q : Parents). t3 ++ parents_text q) pp)
    h5
    (h6 ∙ ap (λ (t : Texts). t5 ++ metadata_text (entries t)) pt)

-- ---- lines

-- what was pushed onto an empty line, and then printed
pub printed_line : (a b : Option Text) (line pushed text : Text) → pushed ≡ line ++ text → line ≡ []
    → Appends a b (line_of pushed) → Appends a b (line_of text)
printed_line a b line pushed text is empty grew =
    let same : pushed ≡ text = is ∙ ap (λ l. l ++ text) empty in
    subst (λ (t : Text). Appends a b (line_of t)) same grew

-- the line of the next one, and those of the ones after it
pub next_lines : {X : Type 0} (IsText : X → Text → Type 0) (xs : List X) (i : ℕ) (d : X) (first rest : Text)
    → i < length xs → IsText (get_or xs i d) first → AreLines IsText (drop (i + 1) xs) rest
    → AreLines IsText (drop i xs) (line_of first ++ rest)
next_lines {X} IsText xs i d first rest within line later =
    subst (λ (ys : List X). AreLines IsText ys (line_of first ++ rest)) (sym (drop_more xs i d within))
    (first, rest, line, later, refl)

pub no_lines : {X : Type 0} (IsText : X → Text → Type 0) (xs : List X) (i : ℕ) → length xs ≤ i
    → AreLines IsText (drop i xs) []
no_lines {X} IsText xs i past = subst (λ (ys : List X). AreLines IsText ys []) (sym (drop_all i xs past)) refl

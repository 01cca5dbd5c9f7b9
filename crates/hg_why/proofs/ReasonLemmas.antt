-- Lines of reasons, and blocks of them.
use Rattle.std.proofs.Common.{◌≡◌, ◌+◌, ◌<◌, ◌++◌, ℕ, List, [], Option, Result, OnOk, refl, sym, ap, subst, ◌∙◌}
use Rattle.std.proofs.Common.{append_assoc, get_or, inl, inr, length, take}
use Rattle.std.specs.Prelude.{IsOk}
use Rattle.std.specs.Io.KnownBytes.{Appends}
use Rattle.std.proofs.KnownBytes.{Appends-nil, Appends-trans}
use Rattle.std.proofs.lemmas.List.{take_more}
use Rattle.std.proofs.lemmas.Result.{on_ok_weaker}
use Rattle.hg_changeset.specs.declared.node.Node.{Node}
use Rattle.hg_log.specs.Drawings.{ArePieces, HasId, IsDrawnText, IsLine, Text}
use Rattle.hg_log.proofs.DrawingLemmas.{drawn_text, pieces_more}
use Rattle.hg_log.proofs.TextLemmas.{at_ok}
use Rattle.hg_why.specs.declared.reason.Reason.{Reason}
use Rattle.hg_why.specs.Blocks.{AreLinesOf, IsBlockOf, IsReasonText}

-- one line with the id
pub drawn_line : {X E Y F : Type 0} (r : Result X E) (w : Result Y F) (n : Node) (line : Text) (a b : Option Text)
    → OnOk r (HasId n line) → OnOk w (IsOk r × ((text : Text) × IsLine line text × Appends a b text))
    → OnOk w ((text : Text) × IsDrawnText n text × Appends a b text)
drawn_line r w n line a b has written =
    let drawn : IsOk r × ((text : Text) × IsLine line text × Appends a b text)
    → (text : Text) × IsDrawnText n text × Appends a b text =
    λ (h : IsOk r × ((text : Text) × IsLine line text × Appends a b text)).
    drawn_text n line a b b (at_ok r h.0 has) h.1 ([], Appends-nil b) in
    on_ok_weaker w drawn written

-- ---- lines, or nothing

pub no_lines : (n : Node) (a : Option Text) → (text : Text) × AreLinesOf n text × Appends a a text
no_lines n a = ([], inl refl, Appends-nil a)

pub drawn_lines : {Y F : Type 0} (w : Result Y F) (n : Node) (a b : Option Text)
    → OnOk w ((text : Text) × IsDrawnText n text × Appends a b text)
    → OnOk w ((text : Text) × AreLinesOf n text × Appends a b text)
drawn_lines w n a b drawn =
    let lines : ((text : Text) × IsDrawnText n text × Appends a b text)
    → (text : Text) × AreLinesOf n text × Appends a b text =
    λ (h : (text : Text) × IsDrawnText n text × Appends a b text). (h.0, inr h.1, h.2) in
    on_ok_weaker w lines drawn

joined : (n : Node) (s t : Text) → AreLinesOf n s → AreLinesOf n t → AreLinesOf n (s ++ t)
joined n s t (inl nothing) next = subst (λ (l : Text). AreLinesOf n (l ++ t)) (sym nothing) next
joined n s t (inr (line, top, below, has, is, same)) next =
    inr (line, top, below ++ t, has, is, ap (λ (l : Text). l ++ t) same ∙ append_assoc top below t)

pub lines_more : (n : Node) (a b c : Option Text) → ((text : Text) × AreLinesOf n text × Appends a b text)
    → ((text : Text) × AreLinesOf n text × Appends b c text) → (text : Text) × AreLinesOf n text × Appends a c text
lines_more n a b c so next =
    (so.0 ++ next.0, joined n so.0 next.0 so.1 next.1, Appends-trans a b c so.0 next.0 so.2 next.2)

-- ---- all reasons

pub reasons_more : (reasons : List Reason) (i : ℕ) (r : Reason) (a b c : Option Text) → i < length reasons
    → r ≡ get_or reasons i r → ((text : Text) × ArePieces IsReasonText (take i reasons) text × Appends a b text)
    → ((text : Text) × IsReasonText r text × Appends b c text)
    → (text : Text) × ArePieces IsReasonText (take (i + 1) reasons) text × Appends a c text
reasons_more reasons i r a b c within is so next =
    let text : Text = so.0 ++ next.0 in
    let P : List Reason → Type 0 = λ rs. ArePieces IsReasonText rs text in (
      text,
      subst P (sym (take_more reasons i r within))
          (pieces_more IsReasonText (take i reasons) (get_or reasons i r) so.0 next.0 so.1
          (subst (λ (x : Reason). IsReasonText x next.0) is next.1)),
      Appends-trans a b c so.0 next.0 so.2 next.2,
    )

-- the line of the changeset, and its reasons below
pub block_of : (n : Node) (reasons : List Reason) (line : Text) (a b c : Option Text) → HasId n line
    → ((text : Text) × IsLine line text × Appends a b text)
    → ((text : Text) × ArePieces IsReasonText reasons text × Appends b c text)
    → (text : Text) × IsBlockOf n reasons text × Appends a c text
block_of n reasons line a b c has written below = (
  written.0 ++ below.0,
  (line, written.0, below.0, has, written.1, below.1, refl),
  Appends-trans a b c written.0 below.0 written.2 below.2,
)

use Rattle.std.proofs.Common.{List, ℕ, [], ◌∷◌, ◌++◌, inr, ap, ◌∙◌, append_assoc}
use Rattle.hg_line.proofs.tracing.put_below.Goals as goal

pub returns : goal.returns
returns c =
    let text = c.args.text.now.items in
    let note = c.args.note.now in
    inr (
      note,
      c.is_in_line.ensures.0 c.if-not-is_in_line.false,
      c.in_ok-extend_from_slice-2.ensures.items
          ∙ ap (λ (t : List ℕ). t ++ 10 ∷ []) c.in_ok-extend_from_slice.ensures.items
          ∙ append_assoc text note (10 ∷ []),
    )

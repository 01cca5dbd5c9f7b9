use Rattle.std.proofs.Common.{sym, ◌∙◌, true≢false, rules}
use Rattle.hg_marker.proofs.OperationLemmas.{values, user_alone}
use Rattle.hg_marker.proofs.note.Note.has_bad_value.Goals as goal
use Rattle.hg_marker.proofs.note.Note.has_bad_value.Goals.{then-has_nul, else-has_nul}

pub returns-else-hold_nul : goal.returns-else-hold_nul
returns-else-hold_nul c = elim c.if-has_nul.branch [
  | then-has_nul w ↦ absurd (true≢false (sym w.if-has_nul.true ∙ (sym w.value-is ∙ c.if-hold_nul.false)))
  | else-has_nul w ↦ c.has_nul-else-hold_nul.ensures
      ∙ user_alone _ _ _ (sym c.has_nul.ensures ∙ w.if-has_nul.false)
      (sym w.hold_nul.ensures ∙ (sym w.value-is ∙ c.if-hold_nul.false))
      ∙ sym (values c.args.self (search rules) (search rules))
]

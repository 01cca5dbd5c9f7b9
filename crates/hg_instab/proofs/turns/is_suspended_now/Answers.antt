use Rattle.std.proofs.Common.{true≢false, not, ap, sym, ◌∙◌}
use Rattle.hg_instab.proofs.turns.is_suspended_now.Goals as goal

pub returns-then-not-has_now : goal.returns-then-not-has_now
returns-then-not-has_now c = (
  λ h. (
    c.is_obsolete.ensures.0 h,
    λ now. true≢false (sym (c.has_now.ensures.1 now) ∙ c.if-not-has_now.true),
  ),
  λ h. c.is_obsolete.ensures.1 h.0,
)

pub returns-else-not-has_now : goal.returns-else-not-has_now
returns-else-not-has_now c = (
  λ h. absurd (true≢false (sym h ∙ ap not c.if-not-has_now.false)),
  λ h. absurd (h.1 (c.has_now.ensures.0 c.if-not-has_now.false)),
)

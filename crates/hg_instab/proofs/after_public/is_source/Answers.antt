use Rattle.std.proofs.Common.{true≢false, inl, inr, sym, ◌∙◌}
use Rattle.hg_instab.proofs.after_public.is_source.Goals as goal

pub returns-then-has : goal.returns-then-has
returns-then-has c = (λ t. inr (c.has.ensures.0 c.if-has.true), λ h. c.if-has.true)

pub returns-else-has : goal.returns-else-has
returns-else-has c = (
  λ t. inl (c.has_phase.ensures.0 t),
  λ h. elim h [
    | inl public ↦ c.has_phase.ensures.1 public
    | inr known ↦ absurd (true≢false (sym (c.has.ensures.1 known) ∙ c.if-has.false))
  ],
)

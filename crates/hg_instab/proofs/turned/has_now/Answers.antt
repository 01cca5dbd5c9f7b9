use Rattle.std.proofs.Common.{true≢false, inl, inr, sym, ◌∙◌}
use Rattle.hg_instab.proofs.turned.has_now.Goals as goal

pub returns-then-has : goal.returns-then-has
returns-then-has c =
    let there = c.has.ensures.0 c.if-has.true in (
      λ t. inl (there, c.is_missing.ensures.0 t),
      λ h. elim h [ inl x ↦ c.is_missing.ensures.1 x.1 | inr x ↦ absurd (x.0 there) ],
    )

pub returns-else-has : goal.returns-else-has
returns-else-has c = (
  λ t. inr ((λ there. true≢false (sym (c.has.ensures.1 there) ∙ c.if-has.false)), c.has-else-has.ensures.0 t),
  λ h. elim h [
    | inl x ↦ absurd (true≢false (sym (c.has.ensures.1 x.0) ∙ c.if-has.false))
    | inr x ↦ c.has-else-has.ensures.1 x.1
  ],
)

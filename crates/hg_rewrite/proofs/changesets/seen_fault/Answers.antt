use Rattle.std.proofs.Common.{refl, sym, ◌∙◌}
use Rattle.hg_rewrite.proofs.changesets.seen_fault.Goals as goal

pub returns-then-is_given_twice : goal.returns-then-is_given_twice
returns-then-is_given_twice c = λ text long. rw (sym c.is_given_twice.ensures ∙ c.if-is_given_twice.true) refl

pub returns-then-is_too_long : goal.returns-then-is_too_long
returns-then-is_too_long c = λ text long.
    rw (sym c.is_given_twice.ensures ∙ c.if-is_given_twice.false, sym long ∙ c.if-is_too_long.true) refl

pub returns : goal.returns
returns c = λ text long.
    rw (sym c.is_given_twice.ensures ∙ c.if-is_given_twice.false, sym long ∙ c.if-is_too_long.false) refl

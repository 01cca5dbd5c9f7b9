use Rattle.std.proofs.Common.{rules}
use Rattle.hg_live.proofs.desk.Desk+K+Writer+K+R.closing.Goals as goal

pub returns-in-Ok-clause-all : goal.returns-in-Ok-clause-all
returns-in-Ok-clause-all g c =
    rw (← c.self.view_is, ← c.front-front.ensures)
    (search rules, c.are_within.ensures.0 c.if-not-are_within.false)

pub returns-then-not-are_within-clause-out : goal.returns-then-not-are_within-clause-out
returns-then-not-are_within-clause-out g c =
    rw (← c.self.view_is, ← c.front-front.ensures)
    (λ out all. absurd (cc (c.are_within.ensures.1 all.1, c.if-not-are_within.true)))

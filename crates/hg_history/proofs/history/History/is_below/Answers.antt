use Rattle.std.proofs.Common.{IsTrue, ◌↔◌, subst}
use Rattle.hg_phases.specs.State.{state_of}
use Rattle.hg_phases.specs.Order.{Below}
use Rattle.hg_history.proofs.history.History.is_below.Goals as goal

pub returns-clause-answer : goal.returns-clause-answer
returns-clause-answer c =
    subst (λ t. IsTrue c.is_below.result ↔ Below c.args.self.now t) c.other.view_is
    (subst (λ s. IsTrue c.is_below.result ↔ Below s (state_of c.other.inside.graph c.other.inside.kept.phases))
    c.self.view_is c.is_below.ensures)

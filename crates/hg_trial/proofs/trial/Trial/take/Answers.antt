use Rattle.std.proofs.Common.{subst, ◌∙◌}
use Rattle.hg_replica.specs.State.{IsValid}
use Rattle.hg_trial.proofs.TrialLemmas.{take_unchanged}
use Rattle.hg_trial.proofs.trial.Trial.take.Goals as goal

pub invariant_of-self : goal.invariant_of-self
invariant_of-self c = c.take_in.ensures.pins ∙ c.self.invariant

pub returns-clause-answer : goal.returns-clause-answer
returns-clause-answer c = rw (← c.self.view_is) c.take_in.ensures.answer

pub returns-clause-unchanged : goal.returns-clause-unchanged
returns-clause-unchanged c =
    rw (← c.self.view_is) (take_unchanged c.self.inside.kept.replica c.take_in.new.kept.replica c.args.bytes.now
    c.take_in.result c.take_in.ensures.answer)

pub returns-clause-valid : goal.returns-clause-valid
returns-clause-valid c = subst IsValid c.self.view_is c.take_in.ensures.valid

use Rattle.std.proofs.Common.{inl}
use Rattle.hg_succ.proofs.plan.Plan.new.Goals as goal

pub returns-in-Sets-clause-plan : goal.returns-in-Sets-clause-plan
returns-in-Sets-clause-plan c = record {
  closed = λ n y unites to. c.whole.ensures y;
  apart = λ n h off out. absurd (out (inl (c.whole.ensures n)));
}

use Rattle.std.proofs.Common.{IsOkAnd, MatchOption, subst}
use Rattle.hg_phases.specs.State.{Holds, IsPhaseOf}
use Rattle.hg_replica.proofs.replica.Replica.phase_of.Goals as goal

pub returns-clause-phase : goal.returns-clause-phase
returns-clause-phase c =
    subst (λ s. IsOkAnd c.phase_of.result
    (λ phase. MatchOption phase (¬ (Holds s.history c.args.node)) (IsPhaseOf s.history c.args.node))) c.self.view_is
    c.phase_of.ensures.phase

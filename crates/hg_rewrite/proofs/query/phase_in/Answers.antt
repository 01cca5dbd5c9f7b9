use Rattle.std.proofs.Common.{sym}
use Rattle.hg_phases.specs.State.{IsPhaseOf}
use Rattle.hg_rewrite.proofs.ReadingLemmas.{phase_in-held, phase_in-missing}
use Rattle.hg_rewrite.proofs.query.phase_in.Goals as goal

pub returns-in-Ok-Some : goal.returns-in-Ok-Some
returns-in-Ok-Some c =
    let is : IsPhaseOf c.args.replica.now.history c.args.node c.in-Ok-Some.phase =
    rw c.in-Ok-Some.field-0-is at c.in-Ok-Some.ensures.phase in
    sym (phase_in-held c.args.replica.now.history c.phase_of.ensures.valid c.args.node c.in-Ok-Some.phase is)

pub returns-in-Ok-None : goal.returns-in-Ok-None
returns-in-Ok-None c =
    sym (phase_in-missing c.args.replica.now.history c.args.node
    (rw c.in-Ok-None.field-0-is at c.in-Ok-None.ensures.phase))

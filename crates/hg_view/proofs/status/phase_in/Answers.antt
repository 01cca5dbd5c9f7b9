use Rattle.hg_instab.proofs.QueryLemmas.{told_phase}
use Rattle.hg_view.proofs.status.phase_in.Goals as goal

pub returns-in-Ok : goal.returns-in-Ok
returns-in-Ok c =
    told_phase c.args.replica.now c.in-Ok.ensures.valid c.args.node c.in-Ok.phase c.in-Ok.ensures.phase

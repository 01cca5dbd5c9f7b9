use Rattle.std.proofs.Common.{sym, subst}
use Rattle.hg_phases.specs.State.{state_of}
use Rattle.hg_phases.specs.Lowered.{ListsLowered}
use Rattle.hg_phases.specs.Log.{IsLog}
use Rattle.hg_phases.proofs.phase_roots.PhaseRoots.lower_and_update.Goals as goal

pub returns-clause-lowered : goal.returns-clause-lowered
returns-clause-lowered c =
    subst (λ ks. ListsLowered (state_of c.args.graph.now c.args.self.now.phases) (state_of c.args.graph.now ks)
    c.in_ok-lowered.lowered.nodes.items) (sym c.in_ok-update.ensures.same) c.in_ok-lowered.ensures.lowered

pub returns-clause-logged : goal.returns-clause-logged
returns-clause-logged c =
    subst (λ ks. IsLog c.args.phase c.args.self.now.phases ks c.lower_and_tell.new.log) (sym c.update.ensures.same)
    c.lower_and_tell.ensures.logged

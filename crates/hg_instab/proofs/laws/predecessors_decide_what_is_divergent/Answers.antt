use Rattle.hg_phases.specs.declared.phase.Phase.TheVariants.{Public}
use Rattle.hg_replica.specs.Evolution.{HasPhase, IsBumpedFix}
use Rattle.hg_succ.specs.Successors.{HasSeveral, IsAny}
use Rattle.hg_instab.proofs.PrecedeLemmas.{precedes-last}
use Rattle.hg_instab.proofs.laws.predecessors_decide_what_is_divergent.Goals as goal

pub returns-clause-phase_divergent : goal.returns-clause-phase_divergent
returns-clause-phase_divergent c f n =
    let last = precedes-last f (λ m. ¬ (IsBumpedFix m)) (λ p. HasPhase f p Public) n in
    (λ h. (h.0, last.0 h.1), λ h. (h.0, last.1 h.1))

pub returns-clause-content_divergent : goal.returns-clause-content_divergent
returns-clause-content_divergent c f n =
    let last = precedes-last f IsAny (HasSeveral f) n in (
      λ h. let m = last.0 h.1 in (h.0, (m.0, m.1, m.3, m.4)),
      λ h. (h.0, last.1 (h.1.0, h.1.1, tt, h.1.2, h.1.3)),
    )

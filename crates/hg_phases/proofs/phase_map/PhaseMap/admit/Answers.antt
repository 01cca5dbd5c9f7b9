use Rattle.std.proofs.Common.{[], ◌∷◌, ◌++◌, sym, ap, subst, ◌∙◌}
use Rattle.hg_phases.specs.declared.phase.Phase.TheVariants.{Secret}
use Rattle.hg_phases.specs.State.{state_of, IsValid}
use Rattle.hg_phases.proofs.AdmitLemmas.{admitted-valid}
use Rattle.hg_phases.proofs.phase_map.PhaseMap.admit.Goals as goal

pub returns-clause-valid : goal.returns-clause-valid
returns-clause-valid c graph valid =
    subst (λ ks. IsValid (state_of c.args.graph.now ks))
    (sym (c.in_ok-push.ensures.items ∙ ap (λ ks. ks ++ Secret ∷ []) c.self.view_is))
    (admitted-valid c.args.graph.now c.args.self.now graph c.requires.len valid)

use Rattle.std.proofs.Common.{inl, inr, sym, subst}
use Rattle.hg_phases.specs.Least.{IsAdmitted}
use Rattle.hg_history.specs.declared.fault.Fault.TheVariants.{NoMemory}
use Rattle.hg_history.specs.Answer.{IsGrowthBeforeFault}
use Rattle.hg_history.specs.Open.{changesets_alone}
use Rattle.hg_history.proofs.GrowthLemmas.{refused_along}
use Rattle.hg_history.proofs.OpenLemmas.{history-opened}
use Rattle.hg_history.proofs.history.History.open_with_keys.Goals as goal

pub invariant_of-history : goal.invariant_of-history
invariant_of-history c = (c.in_ok-history-inside.ensures.kept, c.in_ok-history-inside.ensures.valid)

pub returns-clause-answer : goal.returns-clause-answer
returns-clause-answer c =
    history-opened c.args.changesets.now c.args.roots.now c.in-Ok.field-0 c.with_keys-history.result c.absorb.new.self
    c.history.inside.graph c.history.inside.kept.phases c.in_ok-history-inside.field-0.phases
    c.with_keys-history.ensures c.in-Ok.ensures.answer (sym c.history.view_is) c.history.invariant.0.len
    c.in_ok-history-inside.ensures.opened

pub returns-clause-valid : goal.returns-clause-valid
returns-clause-valid c = c.in_ok-history-inside.ensures.valid

pub returns-in-Err-clause-memory : goal.returns-in-Err-clause-memory
returns-in-Err-clause-memory c is =
    inl (subst (λ s. IsGrowthBeforeFault s (changesets_alone c.args.changesets.now)) c.with_keys-history.ensures
    (c.in-Err.ensures.memory (refused_along c.in-Err.fault NoMemory is)))

pub returns-in_err-history-inside-clause-memory : goal.returns-in_err-history-inside-clause-memory
returns-in_err-history-inside-clause-memory c is =
    inr (subst (λ s. IsAdmitted s (changesets_alone c.args.changesets.now)) c.with_keys-history.ensures
    c.in-Ok.ensures.answer.admitted)

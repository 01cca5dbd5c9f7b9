use Rattle.std.proofs.Common.{◌↔◌, ◌≤◌, IsTrue, true≢false, refl, sym, ◌∙◌, arith}
use Rattle.std.specs.Ordering.{partial_le}
use Rattle.hg_phases.specs.declared.phase.Phase.{Phase}
use Rattle.hg_phases.specs.declared.phase.Phase.TheVariants.{Public, Draft, Secret}
use Rattle.hg_phases.specs.contracts.phase.PhasePartialOrd.TheImpl.{partial_cmp-value}
use Rattle.hg_phases.specs.State.{rank}
use Rattle.hg_history.proofs.JoinLemmas.{low-at, other-not-low, not-held-as-low}
use Rattle.hg_history.proofs.join.holds_as_low.Goals as goal

phase-le : (j k : Phase) → IsTrue (partial_le (partial_cmp-value).it j k) ↔ (rank j ≤ rank k)
phase-le Public Public = (λ h. omega arith, λ h. refl)
phase-le Public Draft = (λ h. omega arith, λ h. refl)
phase-le Public Secret = (λ h. omega arith, λ h. refl)
phase-le Draft Public = (λ h. absurd (true≢false (sym h)), λ h. absurd (omega arith))
phase-le Draft Draft = (λ h. omega arith, λ h. refl)
phase-le Draft Secret = (λ h. omega arith, λ h. refl)
phase-le Secret Public = (λ h. absurd (true≢false (sym h)), λ h. absurd (omega arith))
phase-le Secret Draft = (λ h. absurd (true≢false (sym h)), λ h. absurd (omega arith))
phase-le Secret Secret = (λ h. omega arith, λ h. refl)

pub returns-then-is_at : goal.returns-then-is_at
returns-then-is_at c =
    let at = c.is_at.ensures.0 c.if-is_at.true in
    let low = low-at _ _ _ _ _ c.node.ensures.id _ c.in-Some.ensures.place _ at c.at.ensures in
    let le = phase-le _ _ in
    (λ h. low.0 (le.0 (sym c.le.ensures ∙ h)), λ h. c.le.ensures ∙ le.1 (low.1 h))

pub returns-else-is_at : goal.returns-else-is_at
returns-else-is_at c = (
  λ h. absurd (true≢false (sym h ∙ c.if-is_at.false)),
  λ h. absurd (other-not-low _ _ _ _ _
      c.node.ensures.id _ c.in-Some.ensures.place (λ at. true≢false (sym (c.is_at.ensures.1 at) ∙ c.if-is_at.false)) h),
)

pub returns-in-None : goal.returns-in-None
returns-in-None c = (
  λ h. absurd (true≢false (sym h)),
  λ h. absurd (not-held-as-low c.args.graph.now c.args.phases.now c.args.changeset.now c.args.phase c.node.result
      c.node.ensures.id c.in-None.ensures.place h),
)

use Rattle.hg_replica.specs.Evolution.{IsObsolete, IsOrphan, IsSuspended, IsExtinct, IsPhaseDivergent}
use Rattle.hg_instab.specs.Instabilities.{IsContentDivergent}
use Rattle.hg_trial.proofs.MovedLemmas.{moved-kind}
use Rattle.hg_trial.proofs.turned.Turned.between.Goals as goal

pub returns : goal.returns
returns c = λ f g before after. record {
  obsolete = moved-kind (IsObsolete f) (IsObsolete g) c.args.before.now.obsolete c.args.after.now.obsolete _ _
      c.in_ok-between.field-0
      c.obsolete.ensures c.obsolete-2.ensures before.obsolete after.obsolete c.in_ok-between.ensures;
  orphan = moved-kind (IsOrphan f) (IsOrphan g) c.args.before.now.orphan c.args.after.now.orphan _ _
      c.in_ok-between-2.field-0
      c.orphan.ensures c.orphan-2.ensures before.orphan after.orphan c.in_ok-between-2.ensures;
  suspended = moved-kind (IsSuspended f) (IsSuspended g) c.args.before.now.suspended c.args.after.now.suspended _ _
      c.in_ok-between-3.field-0
      c.suspended.ensures c.suspended-2.ensures before.suspended after.suspended c.in_ok-between-3.ensures;
  extinct = moved-kind (IsExtinct f) (IsExtinct g) c.args.before.now.extinct c.args.after.now.extinct _ _
      c.in_ok-between-4.field-0
      c.extinct.ensures c.extinct-2.ensures before.extinct after.extinct c.in_ok-between-4.ensures;
  phase_divergent = moved-kind (IsPhaseDivergent f) (IsPhaseDivergent g) c.args.before.now.phase_divergent
      c.args.after.now.phase_divergent _ _ c.in_ok-between-5.field-0
      c.phase_divergent.ensures c.phase_divergent-2.ensures before.phase_divergent after.phase_divergent
      c.in_ok-between-5.ensures;
  content_divergent = moved-kind (IsContentDivergent f) (IsContentDivergent g) c.args.before.now.content_divergent
      c.args.after.now.content_divergent _ _ c.in_ok-between-6.field-0
      c.content_divergent.ensures c.content_divergent-2.ensures before.content_divergent after.content_divergent
      c.in_ok-between-6.ensures;
}

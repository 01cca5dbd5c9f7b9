use Rattle.std.proofs.Common.{MatchOption, subst}
use Rattle.hg_history.specs.Content.{IsHeld}
use Rattle.hg_replica.specs.State.{ReplicaState}
use Rattle.hg_replica.specs.Content.{content_of}
use Rattle.hg_replica.specs.Evolution.{HasPhase}
use Rattle.hg_view.proofs.StatusLemmas.{asked}
use Rattle.hg_view.proofs.kept.Kept.status.Goals as goal

pub returns : goal.returns
returns c =
    let n = c.args.node in
    let sets = c.instabilities-sets.ensures in
    record {
      phase = subst (λ (s : ReplicaState). MatchOption c.phase_in.result (¬ (IsHeld (content_of s).0 n))
          (HasPhase (content_of s) n)) c.replica.ensures.replica c.phase_in.ensures;
      obsolete = asked _ _ n _ _ c.has.ensures c.obsolete.ensures (sets.obsolete n);
      orphan = asked _ _ n _ _ c.has-2.ensures c.orphan.ensures (sets.orphan n);
      suspended = asked _ _ n _ _ c.has-3.ensures c.suspended.ensures (sets.suspended n);
      extinct = asked _ _ n _ _ c.has-4.ensures c.extinct.ensures (sets.extinct n);
      phase_divergent = asked _ _ n _ _ c.has-5.ensures c.phase_divergent.ensures (sets.phase_divergent n);
      content_divergent = asked _ _ n _ _ c.has-6.ensures c.content_divergent.ensures (sets.content_divergent n);
      visible = c.is_visible.ensures;
    }

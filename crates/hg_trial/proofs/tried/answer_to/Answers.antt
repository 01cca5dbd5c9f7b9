use Rattle.std.proofs.Common.{refl, subst}
use Rattle.hg_instab.specs.Instabilities.{AreInstabilities}
use Rattle.hg_replica.specs.Content.{content_of}
use Rattle.hg_replica.specs.State.{ReplicaState}
use Rattle.hg_trial.proofs.tried.answer_to.Goals as goal

pub returns-clause-told : goal.returns-clause-told
returns-clause-told c = (
  refl,
  λ f before. c.in_ok-turned.ensures f (content_of c.args.trial.now) before
      (subst (λ (s : ReplicaState). AreInstabilities (content_of s) c.instabilities.result.now) c.kept.ensures.replica
      c.instabilities.ensures),
)

pub returns-clause-hidden : goal.returns-clause-hidden
returns-clause-hidden c = c.hidden_is_extinct.ensures

use Rattle.hg_trial.proofs.MovedLemmas.{difference-members, same-equal}
use Rattle.hg_trial.proofs.moved.Moved.between.Goals as goal

pub returns : goal.returns
returns c = record {
  came = difference-members c.args.after.now c.args.before.now c.in_ok-sub.field-0 (c.in_ok-sub.ensures.4 same-equal);
  went = difference-members c.args.before.now c.args.after.now c.in_ok-sub-2.field-0
      (c.in_ok-sub-2.ensures.4 same-equal);
}

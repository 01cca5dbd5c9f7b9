use Rattle.std.proofs.Common.{map, take}
use Rattle.hg_replica.specs.State.{nothing_held}
use Rattle.hg_trial.specs.Trials.{AnswersTo}
use Rattle.hg_trial.proofs.tried.try_messages.Given as goal

-- the messages so far were answered
abbrev pub invariant-loop-bytes : goal.invariant-loop-bytes
invariant-loop-bytes l =
    AnswersTo nothing_held (map (λ bytes. bytes.now) (take l.bytes-index l.messages)) l.answers.items l.trial

use Rattle.hg_phases.specs.State.{state_of}
use Rattle.hg_phases.proofs.LawLemmas.{least-valid}
use Rattle.hg_history.proofs.JoinLemmas.{least-joined}
use Rattle.hg_history.proofs.UndoLemmas.{lead_back, kept_back}
use Rattle.hg_history.proofs.join.join_or_undo.Goals as goal

pub returns-in-Ok-clause-inside : goal.returns-in-Ok-clause-inside
returns-in-Ok-clause-inside c = (
  c.in-Ok.ensures.kept,
  least-valid _ _ _ c.in-Ok.ensures.joined c.requires.valid,
)

pub returns-in-Ok-clause-answer : goal.returns-in-Ok-clause-answer
returns-in-Ok-clause-answer c =
    let s = state_of c.args.graph.now c.args.kept.now.phases in
    let t = state_of c.join_and_update.new.graph c.join_and_update.new.kept.phases in
    let least = c.in-Ok.ensures.joined in (
      least-valid s _ t least c.requires.valid,
      least-joined s (state_of c.args.other.now c.args.other_phases.now) t c.requires.other_valid least,
    )

pub returns-in-Err-clause-inside : goal.returns-in-Err-clause-inside
returns-in-Err-clause-inside c =
    kept_back _ _ c.args.kept.now _ _ _ c.len-before.ensures.len c.join_and_update.ensures.back _
    (record c.join_and_update.new.kept { phases = c.take_back.new.phases }) c.take_back.ensures.graph
    c.take_back.ensures.phases c.in-Err.ensures.roots c.requires.kept c.requires.valid

pub returns-in-Ok-clause-back : goal.returns-in-Ok-clause-back
returns-in-Ok-clause-back c =
    lead_back _ _ c.args.kept.now _ _ _ c.len-before.ensures.len c.join_and_update.ensures.back c.requires.valid

use Rattle.hg_phases.proofs.LawLemmas.{least-valid}
use Rattle.hg_history.specs.Answer.{part_with}
use Rattle.hg_history.proofs.AbsorbLemmas.{refusal_at_state}
use Rattle.hg_history.proofs.UndoLemmas.{lead_back, kept_back, state_back}
use Rattle.hg_history.proofs.absorb.absorb_or_undo.Goals as goal

pub returns-in-Ok-clause-inside : goal.returns-in-Ok-clause-inside
returns-in-Ok-clause-inside c = (
  c.in-Ok.ensures.kept,
  least-valid _ _ _ c.in-Ok.ensures.absorbed.least c.requires.valid,
)

pub returns-in-Ok-clause-back : goal.returns-in-Ok-clause-back
returns-in-Ok-clause-back c =
    lead_back _ _ c.args.kept.now _ _ _ c.len-before.ensures.len c.absorb_and_update.ensures.back c.requires.valid

pub returns-in-Err-clause-inside : goal.returns-in-Err-clause-inside
returns-in-Err-clause-inside c =
    kept_back _ _ c.args.kept.now _ _ _ c.len-before.ensures.len c.absorb_and_update.ensures.back _
    (record c.absorb_and_update.new.kept { phases = c.take_back.new.phases }) c.take_back.ensures.graph
    c.take_back.ensures.phases c.in-Err.ensures.roots c.requires.kept c.requires.valid

pub returns-in-Err-clause-answer : goal.returns-in-Err-clause-answer
returns-in-Err-clause-answer c = (
  refusal_at_state c.args.graph.now c.args.kept.now.phases (part_with c.args.changesets c.args.bounds.now)
      c.in-Err.fault c.requires.kept.len c.in-Err.ensures.refusal,
  state_back _ _ c.args.kept.now _ _ _ c.len-before.ensures.len c.absorb_and_update.ensures.back _ _
      c.take_back.ensures.graph c.take_back.ensures.phases,
)

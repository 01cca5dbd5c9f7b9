use Rattle.hg_preview.proofs.ComparingLemmas.{not_opened}
use Rattle.hg_preview.proofs.comparing.open.Goals as goal

pub returns-in_ok-write_answer-in-Refused : goal.returns-in_ok-write_answer-in-Refused
returns-in_ok-write_answer-in-Refused g c =
    not_opened c.in_ok-trial.trial c.answer.new.self c.args.message.now.bytes.now c.in-Ok.answer c.in-Refused.field-0
    (g.W.Write.contents c.args.writer.now) _ c.in_ok-trial.ensures c.in-Ok.ensures.answer c.in-Refused.is
    c.in_ok-write_answer-in-Refused.ensures

use Rattle.hg_message.proofs.PartLemmas.{part_answer}
use Rattle.hg_message.proofs.message.Message.part_at.Goals as goal

pub returns-in-Ok-clause-answer : goal.returns-in-Ok-clause-answer
returns-in-Ok-clause-answer c =
    part_answer c.args.replica.now c.args.bytes.now c.in-Ok.layout c.part.result c.in-Ok.ensures.exact
    c.in-Ok.ensures.known c.part.ensures.part

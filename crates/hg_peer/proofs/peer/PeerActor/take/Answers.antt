use Rattle.hg_peer.specs.BytesLaws.{bytes_due}
use Rattle.hg_peer.proofs.TakeLemmas.{take_taken, take_valid, take_err, take_unchanged}
use Rattle.hg_peer.proofs.peer.PeerActor.take.Goals as goal

pub returns-clause-taken : goal.returns-clause-taken
returns-clause-taken c =
    rw (← c.self.view_is) (take_taken c.self.inside.kept c.take_in.new.kept c.args.bytes.now c.take_in.result
    c.take_in.ensures.valid c.take_in.ensures.answer)

pub returns-clause-valid : goal.returns-clause-valid
returns-clause-valid c =
    rw (← c.self.view_is) (take_valid c.self.inside.kept c.take_in.new.kept c.args.bytes.now c.take_in.result
    c.take_in.ensures.valid)

pub returns-clause-err : goal.returns-clause-err
returns-clause-err c =
    take_err c.self.inside.kept c.take_in.new.kept c.args.bytes.now c.take_in.result c.take_in.ensures.answer

pub returns-clause-unchanged : goal.returns-clause-unchanged
returns-clause-unchanged c =
    rw (← c.self.view_is) (take_unchanged c.self.inside.kept c.take_in.new.kept c.args.bytes.now c.take_in.result
    c.take_in.ensures.answer)

pub returns-clause-due : goal.returns-clause-due
returns-clause-due c = bytes_due c.args.bytes.now

pub returns-clause-answer : goal.returns-clause-answer
returns-clause-answer c = rw (← c.self.view_is) c.take_in.ensures.answer

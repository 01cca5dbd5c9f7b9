use Rattle.hg_history.proofs.ContentLemmas.{whatever_answer}
use Rattle.hg_replica.specs.Content.{content_of, IsValidContent}
use Rattle.hg_replica.proofs.ContentLemmas.{absorbed-content, refused-content, absorbed-told, unchanged, content-valid}
use Rattle.hg_replica.proofs.join_state.ReplicaJoinState.absorb_owned.Goals as goal

pub returns-clause-after : goal.returns-clause-after
returns-clause-after c =
    absorbed-content c.args.self.now c.absorb_owned.new.self c.args.part c.absorb_owned.result
    c.absorb_owned.ensures.valid c.absorb_owned.ensures.answer

pub returns-clause-change : goal.returns-clause-change
returns-clause-change c =
    absorbed-told c.args.self.now c.absorb_owned.new.self c.args.part c.absorb_owned.result
    c.absorb_owned.ensures.answer

pub returns-clause-valid : goal.returns-clause-valid
returns-clause-valid c =
    whatever_answer c.absorb_owned.result (IsValidContent (content_of c.args.self.now))
    (content-valid c.args.self.now c.absorb_owned.ensures.valid)

pub returns-clause-fault : goal.returns-clause-fault
returns-clause-fault c =
    refused-content c.args.self.now c.absorb_owned.new.self c.args.part c.absorb_owned.result
    c.absorb_owned.ensures.valid c.absorb_owned.ensures.answer

pub returns-clause-err : goal.returns-clause-err
returns-clause-err c =
    unchanged c.args.self.now c.absorb_owned.new.self c.args.part c.absorb_owned.result c.absorb_owned.ensures.answer

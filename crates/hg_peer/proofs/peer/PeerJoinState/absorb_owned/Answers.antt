use Rattle.hg_history.proofs.ContentLemmas.{whatever_answer}
use Rattle.hg_replica.specs.Content.{content_of, IsValidContent}
use Rattle.hg_replica.proofs.ContentLemmas.{absorbed-content, refused-content, absorbed-told, unchanged, content-valid}
use Rattle.hg_peer.proofs.PeerLemmas.{told-peer, unchanged-peer}
use Rattle.hg_peer.proofs.peer.PeerJoinState.absorb_owned.Goals as goal

pub returns-clause-after : goal.returns-clause-after
returns-clause-after c =
    rw (← c.self.view_is) (absorbed-content c.self.inside.kept.replica c.absorb_owned.new.self.replica c.args.part
    c.absorb_owned.result c.absorb_owned.ensures.valid c.absorb_owned.ensures.answer)

pub returns-clause-change : goal.returns-clause-change
returns-clause-change c =
    rw (← c.self.view_is) (told-peer c.self.inside.kept c.absorb_owned.new.self c.args.part
    c.absorb_owned.result c.absorb_owned.ensures.pins
    (absorbed-told c.self.inside.kept.replica c.absorb_owned.new.self.replica c.args.part c.absorb_owned.result
    c.absorb_owned.ensures.answer))

pub returns-clause-valid : goal.returns-clause-valid
returns-clause-valid c =
    rw (← c.self.view_is) (whatever_answer c.absorb_owned.result
    (IsValidContent (content_of c.self.inside.kept.replica))
    (content-valid c.self.inside.kept.replica c.absorb_owned.ensures.valid))

pub returns-clause-fault : goal.returns-clause-fault
returns-clause-fault c =
    rw (← c.self.view_is) (refused-content c.self.inside.kept.replica c.absorb_owned.new.self.replica c.args.part
    c.absorb_owned.result c.absorb_owned.ensures.valid c.absorb_owned.ensures.answer)

pub returns-clause-err : goal.returns-clause-err
returns-clause-err c =
    rw (← c.self.view_is) (unchanged-peer c.self.inside.kept c.absorb_owned.new.self c.absorb_owned.result
    c.absorb_owned.ensures.pins (unchanged c.self.inside.kept.replica c.absorb_owned.new.self.replica c.args.part
    c.absorb_owned.result c.absorb_owned.ensures.answer))

pub returns-clause-answer : goal.returns-clause-answer
returns-clause-answer c = rw (← c.self.view_is) c.absorb_owned.ensures.answer

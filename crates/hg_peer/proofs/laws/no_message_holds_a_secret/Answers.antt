use Rattle.hg_peer.proofs.SecretLemmas.{added-keep, pool-keeps}
use Rattle.hg_peer.proofs.laws.no_message_holds_a_secret.Goals as goal

pub returns-clause-added : goal.returns-clause-added
returns-clause-added c old new t place bytes h =
    let x = c.messages_are_offers.ensures old new t h in
    added-keep old new t x.0 x.1 x.2 place bytes

pub returns-clause-pool : goal.returns-clause-pool
returns-clause-pool c old new t number bytes empty h =
    let x = c.messages_are_offers.ensures old new t h in
    pool-keeps old new t x.0 x.1 x.2 number bytes empty

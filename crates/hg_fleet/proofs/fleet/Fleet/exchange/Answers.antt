use Rattle.hg_fleet.proofs.PullLemmas.{pulled}
use Rattle.hg_fleet.proofs.fleet.Fleet.exchange.Goals as goal

pub returns-clause-pulled : goal.returns-clause-pulled
returns-clause-pulled c =
    let happens = rw c.in_ok-common.ensures.unchanged at c.in_ok-offered.ensures.happens in
    let heads = rw c.in-Some.is at c.in_ok-common.ensures.heads in
    pulled c.args.self.now c.offer.new.self c.take_offered-taken.new.self c.args.taker c.args.giver c.args.scope
    c.in-Some.common c.in_ok-offered.offered happens.0 c.take_offered-taken.result heads happens.1
    c.take_offered-taken.ensures

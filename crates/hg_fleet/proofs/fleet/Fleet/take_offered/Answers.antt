use Rattle.std.proofs.Common.{refl}
use Rattle.hg_fleet.proofs.PullLemmas.{takes, takes_nothing}
use Rattle.hg_fleet.proofs.fleet.Fleet.take_offered.Goals as goal

pub returns-in-Accepted : goal.returns-in-Accepted
returns-in-Accepted c = takes_nothing _ _ _ (rw c.in-Accepted.is refl)

pub returns-in-Marked : goal.returns-in-Marked
returns-in-Marked c = takes_nothing _ _ _ (rw c.in-Marked.is refl)

pub returns-in-Refused : goal.returns-in-Refused
returns-in-Refused c = takes_nothing _ _ _ (rw c.in-Refused.is refl)

pub returns-in-Offered : goal.returns-in-Offered
returns-in-Offered c =
    takes c.args.self.now c.args.taker c.in-Offered.message c.args.offered.now c.take.result c.take.new.self
    c.in-Offered.is c.take.ensures

use Rattle.hg_peer.proofs.SharingLemmas.{shares, agrees, are_one}
use Rattle.hg_peer.proofs.laws.whole_offers_share_one_history.Goals as goal

pub returns-clause-shared : goal.returns-clause-shared
returns-clause-shared c old new a b x y valid h at_x at_y w =
    shares old new a b h x y at_x at_y w valid c.states_are_least.ensures.above c.states_are_least.ensures.valid
    c.states_are_least.ensures.count c.runs_compose.ensures

pub returns-clause-agreed : goal.returns-clause-agreed
returns-clause-agreed c old new a b x y valid h at_x at_y w =
    agrees old new a b h x y at_x at_y w valid c.states_are_least.ensures.above c.states_are_least.ensures.valid
    c.states_are_least.ensures.count c.runs_compose.ensures

pub returns-clause-all : goal.returns-clause-all
returns-clause-all c old new a b x y valid h at_x at_y w =
    are_one old new a b h x y at_x at_y w valid c.states_are_least.ensures.above c.states_are_least.ensures.valid
    c.states_are_least.ensures.count c.runs_compose.ensures

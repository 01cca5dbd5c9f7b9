use Rattle.hg_peer.proofs.TakenLemmas.{only_memory, taken_there}
use Rattle.hg_peer.proofs.laws.messages_above_what_is_held_are_taken.Goals as goal

pub returns-clause-refused : goal.returns-clause-refused
returns-clause-refused c now new place number refusal h =
    only_memory now place number h (c.states_are_least.ensures.above h.earlier now h.since h.valid h.ran) refusal new

pub returns-clause-taken : goal.returns-clause-taken
returns-clause-taken c now new place number change part h =
    taken_there now place number h (c.states_are_least.ensures.above h.earlier now h.since h.valid h.ran) change part
    new

use Rattle.hg_world.specs.declared.event.Answer.TheVariants.{Marked}
use Rattle.hg_peer.proofs.MarkedLemmas.{marked_alone}
use Rattle.hg_peer.proofs.laws.marks_change_pins_of_one_peer_alone.Goals as goal

pub returns : goal.returns
returns c old new at mark part h =
    let x = c.marks_say_nothing.ensures.nothing old new at mark Marked part h in
    marked_alone old new at mark part h x.1 x.2

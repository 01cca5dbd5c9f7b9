use Rattle.hg_world.specs.declared.event.Event.TheVariants.{Take}
use Rattle.hg_fleet.proofs.PairLemmas.{true_after}
use Rattle.hg_fleet.proofs.fleet.Fleet.take.Goals as goal

pub invariant_of-self : goal.invariant_of-self
invariant_of-self c =
    let h = c.take.ensures.happens in
    true_after c.self.inside.world (Take c.args.at c.args.message) c.take.result h.0 c.take.new.self
    c.self.inside.pairs h.1 c.self.invariant

use Rattle.hg_world.specs.declared.event.Event.TheVariants.{Mark}
use Rattle.hg_fleet.proofs.PairLemmas.{true_after}
use Rattle.hg_fleet.proofs.fleet.Fleet.mark.Goals as goal

pub invariant_of-self : goal.invariant_of-self
invariant_of-self c =
    let h = c.mark.ensures.happens in
    true_after c.self.inside.world (Mark c.args.at c.args.mark.now) c.mark.result h.0 c.mark.new.self
    c.self.inside.pairs h.1 c.self.invariant

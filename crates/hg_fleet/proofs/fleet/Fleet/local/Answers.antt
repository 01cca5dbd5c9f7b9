use Rattle.hg_world.specs.declared.event.Event.TheVariants.{Local}
use Rattle.hg_fleet.proofs.PairLemmas.{true_after}
use Rattle.hg_fleet.proofs.fleet.Fleet.local.Goals as goal

pub invariant_of-self : goal.invariant_of-self
invariant_of-self c =
    let h = c.local.ensures.happens in
    true_after c.self.inside.world (Local c.args.at c.args.op.now) c.local.result h.0 c.local.new.self
    c.self.inside.pairs h.1 c.self.invariant

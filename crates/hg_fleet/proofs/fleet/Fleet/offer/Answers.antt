use Rattle.hg_world.specs.declared.event.Event.TheVariants.{Offer}
use Rattle.hg_fleet.proofs.PairLemmas.{true_run}
use Rattle.hg_fleet.proofs.fleet.Fleet.offer.Goals as goal

pub invariant_of-self : goal.invariant_of-self
invariant_of-self c = true_run c.self.inside.world (Offer c.args.at c.args.ask.now) c.offer.new.self
    c.self.inside.pairs c.offer.result c.offer.ensures.happens c.offer.ensures.unchanged c.self.invariant

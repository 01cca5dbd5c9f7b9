use Rattle.std.proofs.Common.{◌∙◌}
use Rattle.hg_world.specs.Runs.{bytes_of}
use Rattle.hg_world.specs.declared.event.Event.TheVariants.{Take}
use Rattle.hg_world.proofs.Least.{valid_written}
use Rattle.hg_world.proofs.world.World.take.Goals as goal

pub invariant_of-self : goal.invariant_of-self
invariant_of-self g c =
    let laws = g.met.S.JoinState in
    let h = rw (c.as_mut_slice.ensures.value, c.as_slice.ensures.value) at c.take_at.ensures in
    valid_written g.S.JoinState g.S.Actor laws.ordered laws.stays_covered laws.absorbed
    g.met.S.Actor.marked_says_the_same c.self.inside.nodes c.take_at.new.nodes (bytes_of c.self.inside.messages.items)
    (Take c.args.at c.args.message) c.take_at.result h.0 c.self.invariant
    (c.take_at.auto.nodes ∙ c.as_mut_slice.ensures.len) h.1

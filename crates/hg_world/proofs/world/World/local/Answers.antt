use Rattle.std.proofs.Common.{◌∙◌}
use Rattle.hg_world.specs.Runs.{bytes_of}
use Rattle.hg_world.specs.declared.event.Event.TheVariants.{Local}
use Rattle.hg_world.proofs.Least.{valid_written}
use Rattle.hg_world.proofs.Longer.{all_written}
use Rattle.hg_world.proofs.world.World.local.Goals as goal

pub invariant_of-self : goal.invariant_of-self
invariant_of-self g c =
    let laws = g.met.S.JoinState in
    let messages = bytes_of c.self.inside.messages.items in
    let h = rw c.as_mut_slice.ensures.value at c.decide_at.ensures messages in
    valid_written g.S.JoinState g.S.Actor laws.ordered laws.stays_covered laws.absorbed
    g.met.S.Actor.marked_says_the_same c.self.inside.nodes c.decide_at.new.nodes messages
    (Local c.args.at c.args.op.now) c.decide_at.result h.0 c.self.invariant
    (c.decide_at.auto.nodes ∙ c.as_mut_slice.ensures.len) h.1

pub returns-clause-happens : goal.returns-clause-happens
returns-clause-happens g c =
    let h = rw c.as_mut_slice.ensures.value at c.decide_at.ensures (bytes_of c.self.inside.messages.items) in
    rw (
      all_written c.self.inside.nodes c.decide_at.new.nodes (c.decide_at.auto.nodes ∙ c.as_mut_slice.ensures.len),
      ← c.self.view_is,
    ) h

use Rattle.hg_world.specs.Runs.{bytes_of}
use Rattle.hg_world.proofs.steps.happen.Goals as goal

pub returns-in-Local-clause-happens : goal.returns-in-Local-clause-happens
returns-in-Local-clause-happens g c = rw c.in-Local.is (c.decide_at.ensures (bytes_of c.args.messages.now.items))

pub returns-in-Mark-clause-happens : goal.returns-in-Mark-clause-happens
returns-in-Mark-clause-happens g c = rw c.in-Mark.is (c.mark_at.ensures (bytes_of c.args.messages.now.items))

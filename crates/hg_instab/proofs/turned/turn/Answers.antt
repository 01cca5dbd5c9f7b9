use Rattle.hg_instab.proofs.TurnLemmas.{node-removed}
use Rattle.hg_instab.proofs.TurnedLemmas.{turned-added, turned-removed}
use Rattle.hg_instab.proofs.turned.turn.Goals as goal

pub returns-then-not-branch : goal.returns-then-not-branch
returns-then-not-branch c = turned-removed c.args.turned.now.keys c.put.new.set.keys c.remove.new.self.keys c.args.node
    c.in_ok-put.field-0 c.in_ok-put.ensures.ok c.if-not-branch.true
    (node-removed c.put.new.set c.remove.new.self c.args.node c.remove.ensures.updates)

pub returns-else-not-branch : goal.returns-else-not-branch
returns-else-not-branch c = turned-added c.args.turned.now.keys c.put.new.set.keys c.args.node c.in_ok-put.field-0
    c.in_ok-put.ensures.ok c.if-not-branch.false

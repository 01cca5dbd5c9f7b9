use Rattle.hg_instab.proofs.TurnLemmas.{node-removed, taken_back}
use Rattle.hg_instab.proofs.turn.take_back.Goals as goal

pub returns-then-came : goal.returns-then-came
returns-then-came c before put =
    taken_back before c.args.set.now.keys c.remove.new.self.keys c.args.node c.args.came put
    c.if-came.true c.remove.ensures.ordered
    (node-removed c.args.set.now c.remove.new.self c.args.node c.remove.ensures.updates)

use Rattle.std.proofs.Common.{◌↔◌, Contains}
use Rattle.hg_changeset.specs.declared.node.Node.{Node}
use Rattle.hg_instab.proofs.TurnLemmas.{given_back}
use Rattle.hg_instab.proofs.turn.Turn.give_back.Goals as goal

pub returns : goal.returns
returns c before is stage =
    let members : (n : Node) → Contains c.remove_all.new.set.keys n
    ↔ (Contains c.args.set.now.keys n × ¬ (Contains c.args.self.now.come.items n)) =
    rw c.deref.ensures.value at c.remove_all.ensures.members in
    given_back c.args.self.now before c.args.set.now.keys c.remove_all.new.set.keys is stage
    c.remove_all.ensures.ordered c.remove_all.ensures.still_ordered members

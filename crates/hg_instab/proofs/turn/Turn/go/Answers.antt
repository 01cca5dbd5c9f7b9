use Rattle.std.proofs.Common.{◌↔◌, Contains}
use Rattle.hg_changeset.specs.declared.node.Node.{Node}
use Rattle.hg_instab.proofs.TurnLemmas.{gone-then}
use Rattle.hg_instab.proofs.turn.Turn.go.Goals as goal

pub returns : goal.returns
returns c before n is stage all =
    let members : (m : Node) → Contains c.remove_all.new.set.keys m
    ↔ (Contains c.args.set.now.keys m × ¬ (Contains c.args.self.now.gone.items m)) =
    rw c.deref.ensures.value at c.remove_all.ensures.members in
    gone-then c.args.self.now before c.args.set.now.keys c.remove_all.new.set.keys is stage all members n

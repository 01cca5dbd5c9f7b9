use Rattle.std.proofs.Common.{Contains, ◌↔◌}
use Rattle.hg_changeset.specs.declared.node.Node.{Node}
use Rattle.hg_instab.proofs.TurnLemmas.{turn-made, turn-then}
use Rattle.hg_instab.proofs.turn.Turn.to.Goals as goal

pub returns-clause-turn : goal.returns-clause-turn
returns-clause-turn c =
    let come : (n : Node) → Contains c.in_ok-come.come.items n
    ↔ (Contains c.args.now.items n × ¬ (Contains c.args.set.now.keys n)) =
    rw c.deref.ensures.value at c.in_ok-come.ensures in
    turn-made c.args.set.now.keys c.args.nodes.now c.args.now.items c.in_ok-now.now.keys
    (record { come = c.in_ok-come.come; gone = c.in_ok-gone.gone }) come c.in_ok-now.ensures c.in_ok-gone.ensures

pub returns-clause-then : goal.returns-clause-then
returns-clause-then c =
    let come : (n : Node) → Contains c.in_ok-come.come.items n
    ↔ (Contains c.args.now.items n × ¬ (Contains c.args.set.now.keys n)) =
    rw c.deref.ensures.value at c.in_ok-come.ensures in
    turn-then c.args.set.now.keys c.args.nodes.now c.args.now.items c.in_ok-now.now.keys
    (record { come = c.in_ok-come.come; gone = c.in_ok-gone.gone }) come c.in_ok-now.ensures c.in_ok-gone.ensures

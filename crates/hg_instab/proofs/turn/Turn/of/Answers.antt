use Rattle.std.proofs.Common.{◌↔◌, List, Contains, subst, ◌∙◌}
use Rattle.hg_changeset.specs.declared.node.Node.{Node}
use Rattle.hg_instab.proofs.TurnLemmas.{sides-made, sides-then}
use Rattle.hg_instab.proofs.turn.Turn.of.Goals as goal
use Rattle.hg_instab.proofs.turn.Turn.of.Goals.{In_ok-gone}

come : (c : In_ok-gone) (n : Node) → Contains c.in_ok-come.come.items n
    ↔ (Contains c.args.turned.now.keys n × ¬ (Contains c.args.set.now.keys n))
come c = subst (λ (ns : List Node). (n : Node) → Contains c.in_ok-come.come.items n
    ↔ (Contains ns n × ¬ (Contains c.args.set.now.keys n)))
    (c.deref.ensures.value ∙ c.in_ok-nodes.ensures) c.in_ok-come.ensures

gone : (c : In_ok-gone) (n : Node) → Contains c.in_ok-gone.gone.items n
    ↔ (Contains c.args.turned.now.keys n × Contains c.args.set.now.keys n)
gone c = subst (λ (ns : List Node). (n : Node) → Contains c.in_ok-gone.gone.items n
    ↔ (Contains ns n × Contains c.args.set.now.keys n))
    (c.deref-2.ensures.value ∙ c.in_ok-nodes.ensures) c.in_ok-gone.ensures

pub returns-clause-turn : goal.returns-clause-turn
returns-clause-turn c =
    let h = (goal.at.returns-clause-turn c).In_ok-gone in
    sides-made _ _ (record { come = c.in_ok-come.come; gone = c.in_ok-gone.gone }) (come h) (gone h)

pub returns-clause-then : goal.returns-clause-then
returns-clause-then c =
    let h = (goal.at.returns-clause-then c).In_ok-gone in
    sides-then _ _ (record { come = c.in_ok-come.come; gone = c.in_ok-gone.gone }) (come h) (gone h)

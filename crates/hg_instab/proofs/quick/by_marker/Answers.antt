use Rattle.std.proofs.Common.{sym, subst}
use Rattle.hg_changeset.specs.declared.node.Node.{Node}
use Rattle.hg_replica.specs.Content.{content_of}
use Rattle.hg_instab.specs.declared.turning.Turning.TheVariants.{NewlyExtinct}
use Rattle.hg_instab.specs.Turns.{TurnsTo}
use Rattle.hg_instab.proofs.QuickLemmas.{extinct-told}
use Rattle.hg_instab.proofs.quick.by_marker.Goals as goal

pub returns-then-moves_nothing-clause-told : goal.returns-then-moves_nothing-clause-told
returns-then-moves_nothing-clause-told c one s is at =
    let t = c.args.replica.now in
    let sets = c.args.sets.now in
    let are = c.moves_nothing.ensures c.if-moves_nothing.true in
    subst (λ (n : Node). TurnsTo (content_of t) sets (NewlyExtinct n)) (sym c.predecessor-node.ensures.predecessor)
    (extinct-told s t c.args.change.now c.graph.ensures.valid is sets at are.0 are.1 c.args.marker.now one
    (c.is_rewritten_leaf.ensures c.if-is_rewritten_leaf.true))

use Rattle.std.proofs.Common.{rules, ◌++◌, subst, List}
use Rattle.std.proofs.lemmas.List.{take_all}
use Rattle.sha1.specs.Sha1.{Holds}
use Rattle.hg_changeset.specs.declared.node.Node.{Node}
use Rattle.hg_obsstore.specs.Digests.{nodes_bytes}
use Rattle.hg_obsstore.proofs.DigestLemmas.{node_fed}
use Rattle.hg_obsstore.proofs.digests.feed_nodes.Goals as goal

pub loop-node-preserved : goal.loop-node-preserved
loop-node-preserved c = λ m h. subst (Holds c.update-in-loop-node.new.self)
    (node_fed m c.args.nodes.now c.loop-node.node-index _ (search rules) (search rules))
    (c.update-in-loop-node.ensures _ (c.update.ensures _ (c.loop-node.invariant m h)))

pub returns : goal.returns
returns c = λ m h. subst (λ (ns : List Node). Holds c.loop-node.hasher (m ++ nodes_bytes ns))
    (take_all c.loop-node.node-index c.args.nodes.now (search rules)) (c.loop-node.invariant m h)

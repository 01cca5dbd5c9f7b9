use Rattle.std.proofs.Common.{rules, ◌∙◌}
use Rattle.hg_obsstore.specs.Index.{places_of}
use Rattle.hg_obsstore.proofs.IndexLemmas.{takes_all}
use Rattle.hg_obsstore.proofs.index.Index.take_each.Goals as goal

pub loop-node-preserved : goal.loop-node-preserved
loop-node-preserved c = (
  λ before below may. takes_all c.args.nodes.now c.loop-node.node-index _ c.args.place before
      (places_of c.args.role c.loop-node.self) (places_of c.args.role c.take.new.self) (search rules) (search rules)
      below (c.loop-node.invariant.0 before below may) c.take.ensures.here c.take.ensures.others,
  λ other apart. c.take.ensures.aside other apart ∙ c.loop-node.invariant.1 other apart,
)

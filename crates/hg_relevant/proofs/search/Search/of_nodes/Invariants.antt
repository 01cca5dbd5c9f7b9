use Rattle.std.proofs.Common.{take}
use Rattle.hg_relevant.specs.Search.{IsSearched}
use Rattle.hg_relevant.proofs.search.Search.of_nodes.Given as goal

abbrev pub invariant-loop-node : goal.invariant-loop-node
invariant-loop-node l = IsSearched l.store l.nodes (take l.node-index l.nodes) l.search 0

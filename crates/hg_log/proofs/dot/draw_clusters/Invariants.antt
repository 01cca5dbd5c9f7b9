use Rattle.std.proofs.Common.{take}
use Rattle.hg_log.specs.Objects.{names_and_states}
use Rattle.hg_log.proofs.GraphLemmas.{WritesClusters}
use Rattle.hg_log.proofs.dot.draw_clusters.Given as goal

abbrev pub invariant-loop-node : goal.invariant-loop-node
invariant-loop-node g l =
    WritesClusters l.shows_hidden (names_and_states (take l.node-index l.nodes)) (g.W.Write.contents l.initial.writer)
    (g.W.Write.contents l.writer)

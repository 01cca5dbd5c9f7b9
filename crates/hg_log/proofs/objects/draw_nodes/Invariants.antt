use Rattle.std.proofs.Common.{false, take}
use Rattle.hg_log.specs.Objects.{AreEntries, WritesEntries, names_and_states}
use Rattle.hg_log.proofs.objects.draw_nodes.Given as goal

abbrev pub invariant-loop-node : goal.invariant-loop-node
invariant-loop-node g l =
    WritesEntries (AreEntries l.shows_hidden (names_and_states (take l.node-index l.nodes))) false l.is_behind
    (g.W.Write.contents l.initial.writer) (g.W.Write.contents l.writer)

use Rattle.std.proofs.Common.{◌≡◌, take, filter}
use Rattle.hg_graph.specs.Graph.{nodes}
use Rattle.hg_graph.proofs.MarkLemmas.{mark_of}
use Rattle.hg_graph.proofs.graph.Graph.marked.Given as goal

abbrev pub invariant-loop-i : goal.invariant-loop-i
invariant-loop-i l = l.found.items ≡ filter (mark_of (nodes l.self) l.marks) (take l.i (nodes l.self))

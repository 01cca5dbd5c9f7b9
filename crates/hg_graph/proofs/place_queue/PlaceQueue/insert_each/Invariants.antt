use Rattle.std.proofs.Common.{Contains, take}
use Rattle.hg_graph.specs.Waiting.{Widens}
use Rattle.hg_graph.proofs.place_queue.PlaceQueue.insert_each.Given as goal

abbrev pub invariant-loop-place : goal.invariant-loop-place
invariant-loop-place l = Widens (Contains (take l.place-index l.places)) l.fn.self l.self

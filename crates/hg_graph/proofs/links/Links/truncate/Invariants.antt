use Rattle.std.proofs.Common.{◌≡◌, take, length}
use Rattle.hg_graph.proofs.links.Links.truncate.Given as goal

abbrev pub invariant-loop-self : goal.invariant-loop-self
invariant-loop-self l = take l.len l.self ≡ take l.len l.initial.self

abbrev pub decreases-loop-self : goal.decreases-loop-self
decreases-loop-self l = length l.self

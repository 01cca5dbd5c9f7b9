use Rattle.std.proofs.Common.{◌≡◌, ◌++◌, take}
use Rattle.hg_message.specs.Offer.{bounds_in}
use Rattle.hg_message.proofs.heads.add_bounds.Given as goal

abbrev pub invariant-loop-node : goal.invariant-loop-node
invariant-loop-node l = l.bounds.items ≡ l.fn.bounds.items ++ bounds_in l.phase (take l.node-index l.nodes)

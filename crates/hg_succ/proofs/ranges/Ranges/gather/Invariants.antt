use Rattle.std.proofs.Common.{◌≡◌, map, take}
use Rattle.hg_succ.specs.Plan.{gather_all, range_of}
use Rattle.hg_succ.proofs.ranges.Ranges.gather.Given as goal

abbrev pub invariant-loop-node : goal.invariant-loop-node
invariant-loop-node l = l.all ≡ gather_all l.fn.before (map (range_of l.self.ranges.items l.nodes.keys)
    (take l.node-index l.more))

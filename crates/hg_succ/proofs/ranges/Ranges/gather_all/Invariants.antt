use Rattle.std.proofs.Common.{◌≡◌, map, take}
use Rattle.std.specs.List.{flat_map}
use Rattle.hg_succ.specs.Numbered.{successors_at}
use Rattle.hg_succ.specs.Plan.{gather_all, no_range, range_of}
use Rattle.hg_succ.proofs.ranges.Ranges.gather_all.Given as goal

abbrev pub invariant-loop-place : goal.invariant-loop-place
invariant-loop-place l = l.all ≡ gather_all no_range (map (range_of l.self.ranges.items l.nodes.keys)
    (flat_map (successors_at l.markers) (take l.place-index l.places)))

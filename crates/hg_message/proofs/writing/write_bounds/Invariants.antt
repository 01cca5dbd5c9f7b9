use Rattle.std.proofs.Common.{◌≡◌, ◌++◌, take}
use Rattle.std.specs.List.{flat_map, AllByRecursion}
use Rattle.hg_message.specs.Spelling.{HasNode, bound_layout}
use Rattle.hg_message.proofs.writing.write_bounds.Given as goal

abbrev pub invariant-loop-bound : goal.invariant-loop-bound
invariant-loop-bound l = (l.out.items ≡ l.fn.out.items ++ flat_map bound_layout (take l.bound-index l.bounds))
    × AllByRecursion HasNode (take l.bound-index l.bounds)

use Rattle.std.proofs.Common.{◌≡◌, ◌++◌, take}
use Rattle.std.specs.List.{flat_map}
use Rattle.hg_show.specs.Printing.{id_behind}
use Rattle.hg_show.proofs.line.push_each.Given as goal

abbrev pub invariant-loop-node : goal.invariant-loop-node
invariant-loop-node l =
    l.line.items ≡ l.initial.line.items ++ flat_map (id_behind l.separator) (take l.node-index l.nodes)

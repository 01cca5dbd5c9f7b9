use Rattle.std.proofs.Common.{◌≡◌, ◌++◌, drop, map}
use Rattle.hg_log.specs.Objects.{names_and_states}
use Rattle.hgfleet.specs.Commands.{node_states_of}
use Rattle.hgfleet.proofs.commands.named_nodes.Given as goal

-- with the nodes of the names that are left, all of them
abbrev pub invariant-loop-name : goal.invariant-loop-name
invariant-loop-name l =
    names_and_states l.nodes.items ++ node_states_of l.fleet (map (λ name. name.now) (drop l.name-index l.names))
    ≡ node_states_of l.fleet (map (λ name. name.now) l.names)

use Rattle.std.proofs.Common.{ℕ, List, ◌++◌, take}
use Rattle.sha1.specs.Sha1.{Holds}
use Rattle.hg_obsstore.specs.Digests.{nodes_bytes}
use Rattle.hg_obsstore.proofs.digests.feed_nodes.Given as goal

abbrev pub invariant-loop-node : goal.invariant-loop-node
invariant-loop-node l = (m : List ℕ) → Holds l.initial.hasher m
    → Holds l.hasher (m ++ nodes_bytes (take l.node-index l.nodes))

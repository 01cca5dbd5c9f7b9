use Rattle.std.proofs.Common.{◌≡◌, take}
use Rattle.hg_graph.specs.Graph.{nodes}
use Rattle.hg_rewrite.proofs.changesets.ids_of.Given as goal

abbrev pub invariant-loop-changeset : goal.invariant-loop-changeset
invariant-loop-changeset l = l.ids.items ≡ nodes (take l.changeset-index l.changesets)

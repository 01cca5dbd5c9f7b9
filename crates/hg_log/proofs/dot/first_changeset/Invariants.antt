use Rattle.std.proofs.Common.{All, take}
use Rattle.hg_log.specs.Graphs.{IsHeldBy}
use Rattle.hg_log.proofs.dot.first_changeset.Given as goal

-- none of those before holds it
abbrev pub invariant-loop-node : goal.invariant-loop-node
invariant-loop-node l = All (λ n. ¬ (IsHeldBy n l.id)) (take l.node-index l.nodes)

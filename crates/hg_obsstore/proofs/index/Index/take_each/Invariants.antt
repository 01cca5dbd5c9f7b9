use Rattle.std.proofs.Common.{take, ℕ, List}
use Rattle.hg_changeset.specs.declared.node.Node.{Node}
use Rattle.hg_obsstore.specs.Index.{places_of, AreBelow, MayAddPlace, KeepsOthers}
use Rattle.hg_obsstore.proofs.IndexLemmas.{TakesFrom}
use Rattle.hg_obsstore.proofs.index.Index.take_each.Given as goal

abbrev pub invariant-loop-node : goal.invariant-loop-node
invariant-loop-node l =
    ((before : Node → List ℕ) → AreBelow before l.place
    → MayAddPlace l.nodes l.place before (places_of l.role l.initial.self)
    → TakesFrom (take l.node-index l.nodes) before (places_of l.role l.self) l.place l.nodes)
    × KeepsOthers l.role l.initial.self l.self

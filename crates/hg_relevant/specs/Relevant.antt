-- Which markers say something of some changesets.
use Rattle.std.specs.Prelude.{◌≡◌, ◌⊎◌, [], Contains}
use Rattle.hg_changeset.specs.declared.node.Node.{Node}
use Rattle.hg_marker.specs.Fields.{Fields}
use Rattle.hg_marker.specs.Parents.{recorded_parents}

-- a prune marker: nothing came in place of its predecessor
abbrev pub IsPrune : Fields → Type 0
IsPrune m = m.successors ≡ []

-- The node is one of its successors; or nothing came in place of its predecessor, which is the node, or records the
-- node as a parent.
abbrev pub Touches : Node → Fields → Type 0
Touches n m = Contains m.successors n ⊎ (IsPrune m × ((m.predecessor ≡ n) ⊎ Contains (recorded_parents m) n))

-- A chain of held markers ends with this one. The first touches one of the nodes, and each further one touches the
-- predecessor of the one before.
pub data IsRelevant (IsHeld : Fields → Type 0) (IsOne : Node → Type 0) : Fields → Type 0 where
  direct : {n : Node} {m : Fields} → IsOne n → IsHeld m → Touches n m → IsRelevant IsHeld IsOne m
  further : {before m : Fields} → IsRelevant IsHeld IsOne before → IsHeld m → Touches before.predecessor m
      → IsRelevant IsHeld IsOne m

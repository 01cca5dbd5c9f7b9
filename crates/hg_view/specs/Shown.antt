-- What stands on a changeset, as the walk from it keeps it.
use Rattle.std.specs.Prelude.{◌≡◌, ℕ, List, Contains}
use Rattle.hg_changeset.specs.declared.node.Node.{Node}
use Rattle.hg_changeset.specs.Contents.{Contents}
use Rattle.hg_changeset.specs.Changeset.{node_of}
use Rattle.hg_graph.specs.Graph.{IsParent}
use Rattle.hg_graph.specs.Places.{IsAt}

-- the one is a parent of the other, which is among these changesets
abbrev pub IsChild : List Contents → Node → Node → Type 0
IsChild cs p n = (c : Contents) × Contains cs c × (node_of c ≡ n) × IsParent c p

-- the node stands at one of the places
abbrev pub IsAtOne : List Contents → List ℕ → Node → Type 0
IsAtOne cs places n = (k : ℕ) × Contains places k × IsAt cs n k

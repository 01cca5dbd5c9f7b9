-- What a part changes.
use Rattle.std.specs.Prelude.{◌≡◌, Bool, List, [], ◌∷◌, ◌++◌, if◌then◌else◌}
use Rattle.std.specs.List.{list_any}
use Rattle.hg_changeset.specs.declared.node.Node.{Node}
use Rattle.hg_changeset.specs.Node.{node_eq}
use Rattle.hg_changeset.specs.Contents.{Contents}
use Rattle.hg_changeset.specs.Changeset.{node_of}
use Rattle.hg_graph.specs.Graph.{nodes}
pub use Rattle.hg_phases.specs.Lowered.{WentDown, ListsLowered}

-- the nodes that were added, and those held before whose phase went down
pub record ChangeValue : Type 0 where
  pub added : List Node
  pub lowered : List Node

-- nothing was added, and no phase went down
abbrev pub IsNothing : ChangeValue → Type 0
IsNothing change = (change.added ≡ []) × (change.lowered ≡ [])

-- a changeset with this id is among them
abbrev pub is_held : List Contents → Node → Bool
is_held cs n = list_any (node_eq n) (nodes cs)

-- those of the part's changesets that aren't held, each at its first place
abbrev pub unheld : List Contents → List Contents → List Contents
unheld held [] = []
unheld held (c ∷ part) = if is_held held (node_of c) then unheld held part else c ∷ unheld (held ++ c ∷ []) part

-- The ids of a set, in the order in which they came.
use Rattle.std.specs.Prelude.{◌++◌, ◌∷◌, [], ℕ, List, Option, if◌then◌else◌, position}
use Rattle.std.specs.List.{list_any, position_or_len}
use Rattle.hg_changeset.specs.declared.node.Node.{Node}
use Rattle.hg_changeset.specs.Node.{node_eq}

-- what contracts see of a set
pub record Keys : Type 0 where
  pub keys : List Node

-- the ids after one is inserted: they stay if it is among them, and else it goes last
abbrev pub insert_key : List Node → Node → List Node
insert_key nodes node = if list_any (node_eq node) nodes then nodes else nodes ++ node ∷ []

-- the number of an id
abbrev pub number_of : List Node → Node → Option ℕ
number_of nodes node = position (node_eq node) nodes

-- the number that an id has once it is inserted
abbrev pub number_after : List Node → Node → ℕ
number_after nodes node = position_or_len (node_eq node) nodes

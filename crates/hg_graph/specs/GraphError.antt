-- The numbers and names of the refusals.
use Rattle.std.specs.Prelude.{ℕ, List, Option, Some, None, codes}
use Rattle.hg_graph.specs.declared.error.GraphError.{GraphError}
use Rattle.hg_graph.specs.declared.error.GraphError.TheVariants.{UnknownParent, Collision, NoMemory}

-- the number of a refusal; want of memory has none
abbrev pub number : GraphError → Option ℕ
number (UnknownParent _) = Some 1
number (Collision _) = Some 2
number NoMemory = None

-- the bare name
abbrev pub name : GraphError → List ℕ
name (UnknownParent _) = codes "UnknownParent"
name (Collision _) = codes "Collision"
name NoMemory = codes "NoMemory"

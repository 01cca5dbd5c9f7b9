-- The numbers and names of the refusals.
use Rattle.std.specs.Prelude.{ℕ, List, Option, Some, None, codes}
use Rattle.hg_history.specs.declared.fault.Fault.{Fault}
use Rattle.hg_history.specs.declared.fault.Fault.TheVariants.{UnknownParent, Collision, UnknownBound, NullBound}
use Rattle.hg_history.specs.declared.fault.Fault.TheVariants.{NoMemory}

-- the number of a refusal; want of memory has none
abbrev pub number : Fault → Option ℕ
number (UnknownParent _) = Some 1
number (Collision _) = Some 2
number (UnknownBound _) = Some 3
number NullBound = Some 4
number NoMemory = None

-- the bare name
abbrev pub name : Fault → List ℕ
name (UnknownParent _) = codes "UnknownParent"
name (Collision _) = codes "Collision"
name (UnknownBound _) = codes "UnknownBound"
name NullBound = codes "NullBound"
name NoMemory = codes "NoMemory"

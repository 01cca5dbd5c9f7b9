-- The numbers and texts of the refusals.
use Rattle.std.specs.Prelude.{ℕ, List, ◌++◌, Option, Some, None, codes}
use Rattle.std.specs.Fmt.{decimal}
use Rattle.hg_phaseroots.specs.declared.error.RootsError.{RootsError}
use Rattle.hg_phaseroots.specs.declared.error.RootsError.TheVariants.{BadLine, BadPhase, NoMemory}

-- the number of a refusal; want of memory has none
abbrev pub number : RootsError → Option ℕ
number (BadLine _) = Some 1
number (BadPhase _) = Some 2
number NoMemory = None

-- its text: the name and the line
abbrev pub text : RootsError → List ℕ
text (BadLine n) = codes "BadLine " ++ decimal n
text (BadPhase n) = codes "BadPhase " ++ decimal n
text NoMemory = codes "NoMemory"

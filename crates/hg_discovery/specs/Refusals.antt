-- The number and the name of why answers were not taken.
use Rattle.std.specs.Prelude.{ℕ, List, Option, Some, None, codes}
use Rattle.hg_discovery.specs.declared.error.DiscoveryError.{DiscoveryError}
use Rattle.hg_discovery.specs.declared.error.DiscoveryError.TheVariants.{WrongCount, NoMemory}

-- the number that a user reads; want of memory has none
abbrev pub number : DiscoveryError → Option ℕ
number WrongCount = Some 1
number NoMemory = None

-- the bare name
abbrev pub name : DiscoveryError → List ℕ
name WrongCount = codes "WrongCount"
name NoMemory = codes "NoMemory"

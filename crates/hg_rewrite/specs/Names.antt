-- The numbers and the names of the refusals. A number counts from 1 in the order in which they are tried.
use Rattle.std.specs.Prelude.{ℕ, List, Option, Some, None, codes}
use Rattle.hg_rewrite.specs.declared.refusal.Refusal.{Refusal}
use Rattle.hg_rewrite.specs.declared.refusal.Refusal.TheVariants.{Unknown, Hidden, Public, AlreadyObsolete, NotLinear}
use Rattle.hg_rewrite.specs.declared.refusal.Refusal.TheVariants.{Count, Raise, Fault, Exists, NoMemory}

-- want of memory has no number
abbrev pub refusal_number : Refusal → Option ℕ
refusal_number (Unknown node) = Some 1
refusal_number (Hidden node) = Some 2
refusal_number (Public node) = Some 3
refusal_number (AlreadyObsolete node) = Some 4
refusal_number NotLinear = Some 5
refusal_number Count = Some 6
refusal_number Raise = Some 7
refusal_number (Fault cause) = Some 8
refusal_number (Exists node) = Some 9
refusal_number NoMemory = None

-- the bare name
abbrev pub refusal_name : Refusal → List ℕ
refusal_name (Unknown node) = codes "Unknown"
refusal_name (Hidden node) = codes "Hidden"
refusal_name (Public node) = codes "Public"
refusal_name (AlreadyObsolete node) = codes "AlreadyObsolete"
refusal_name NotLinear = codes "NotLinear"
refusal_name Count = codes "Count"
refusal_name Raise = codes "Raise"
refusal_name (Fault cause) = codes "Fault"
refusal_name (Exists node) = codes "Exists"
refusal_name NoMemory = codes "NoMemory"

-- The numbers and texts of what is refused.
use Rattle.std.specs.Prelude.{ℕ, List, ◌++◌, codes}
use Rattle.std.specs.Fmt.{decimal}
use Rattle.hg_marker.specs.Refusals.{marker_fault_name}
use Rattle.hg_obsstore.specs.declared.fault.StoreFault.{StoreFault}
use Rattle.hg_obsstore.specs.declared.fault.StoreFault.TheVariants.{BadVersion, Bad}

-- the number of a fault of `read_store`
abbrev pub store_fault_number : StoreFault → ℕ
store_fault_number (BadVersion v) = 1
store_fault_number (Bad place cause) = 2

-- its text: the version, or the place and the cause
abbrev pub store_fault_text : StoreFault → List ℕ
store_fault_text (BadVersion v) = codes "BadVersion " ++ decimal v
store_fault_text (Bad place cause) = codes "Bad at " ++ decimal place ++ codes ": " ++ marker_fault_name cause

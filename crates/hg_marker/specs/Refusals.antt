-- The numbers and the names of the refusals. A number counts from 1 in the order in which they are tried.
use Rattle.std.specs.Prelude.{ℕ, List, codes}
use Rattle.hg_marker.specs.declared.error.MarkerError.{MarkerError}
use Rattle.hg_marker.specs.declared.error.MarkerError.TheVariants as error
use Rattle.hg_marker.specs.declared.error.MarkerFault.{MarkerFault}
use Rattle.hg_marker.specs.declared.error.MarkerFault.TheVariants.{Truncated, NullSuccessor, BadMetadata}

-- the number of a refusal of `Marker::new`
abbrev pub marker_error_number : MarkerError → ℕ
marker_error_number error.SelfSuccessor = 1
marker_error_number error.NullSuccessor = 2
marker_error_number error.BadKey = 3
marker_error_number error.BadValue = 4
marker_error_number error.TooManySuccessors = 5
marker_error_number error.MetaTooLong = 6

-- its name
abbrev pub marker_error_name : MarkerError → List ℕ
marker_error_name error.SelfSuccessor = codes "SelfSuccessor"
marker_error_name error.NullSuccessor = codes "NullSuccessor"
marker_error_name error.BadKey = codes "BadKey"
marker_error_name error.BadValue = codes "BadValue"
marker_error_name error.TooManySuccessors = codes "TooManySuccessors"
marker_error_name error.MetaTooLong = codes "MetaTooLong"

-- the number of a fault of `decode`
abbrev pub marker_fault_number : MarkerFault → ℕ
marker_fault_number Truncated = 1
marker_fault_number NullSuccessor = 2
marker_fault_number BadMetadata = 3

-- its name
abbrev pub marker_fault_name : MarkerFault → List ℕ
marker_fault_name Truncated = codes "Truncated"
marker_fault_name NullSuccessor = codes "NullSuccessor"
marker_fault_name BadMetadata = codes "BadMetadata"

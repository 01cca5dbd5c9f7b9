-- What errors of reading tell.
use Rattle.std.specs.Prelude.{ℕ, List, Option, Some, None, codes}
use Rattle.hg_marker.specs.declared.error.ReadError.{ReadError}
use Rattle.hg_marker.specs.declared.error.ReadError.TheVariants.{NoMemory, Fault}

-- the fault, which want of memory has none of
abbrev pub fault_of : {F : Type 0} → ReadError F → Option F
fault_of NoMemory = None
fault_of (Fault f) = Some f

-- the text of the fault, or the name of want of memory
abbrev pub read_error_text : {F : Type 0} → (F → Option (List ℕ)) → ReadError F → Option (List ℕ)
read_error_text text NoMemory = Some (codes "NoMemory")
read_error_text text (Fault f) = text f

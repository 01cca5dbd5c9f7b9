-- What is answered to the bytes of a store.
use Rattle.std.specs.Prelude.{◌≡◌, ◌<◌, ℕ, List, [], length, Result, Ok, IfOk, IsErrOf}
use Rattle.hg_marker.specs.declared.error.ReadError.{ReadError}
use Rattle.hg_marker.specs.declared.error.ReadError.TheVariants.{Fault, NoMemory}
use Rattle.hg_marker.specs.Fields.{Fields}
use Rattle.hg_marker.specs.Reading.{Gives}
use Rattle.hg_obsstore.specs.declared.fault.StoreFault.{StoreFault}
use Rattle.hg_obsstore.specs.Markers.{AreDifferent}
use Rattle.hg_obsstore.specs.Growth.{new_among}
use Rattle.hg_obsstore.specs.Spelling.{IsStoreSpelling}
use Rattle.hg_obsstore.specs.Faults.{IsStoreFault}

pub record StoreAnswer (bytes : List ℕ) (result : Result (List Fields) (ReadError StoreFault)) : Type 0 where
  -- what is spelled so is read, each marker once, unless memory runs out
  pub only : (ms : List Fields) → IsStoreSpelling ms bytes → Gives (λ store. store) result (Ok (new_among [] ms))
  -- so what is written of a store is read as that store, in its order
  pub again : (ms : List Fields) → AreDifferent ms → IsStoreSpelling ms bytes → Gives (λ store. store) result (Ok ms)
  -- nothing else is read
  pub found : IfOk result (λ store. (ms : List Fields) × IsStoreSpelling ms bytes × (store ≡ new_among [] ms))
  -- the fault is the one that there is, and where there is one it is told: want of memory never stands for it
  pub fault : (f : StoreFault) → IsErrOf result (Fault f) → IsStoreFault bytes f
  pub refused : (f : StoreFault) → IsStoreFault bytes f → IsErrOf result (Fault f)
  -- without a marker behind the version no memory is taken
  pub memory : IsErrOf result NoMemory → 1 < length bytes

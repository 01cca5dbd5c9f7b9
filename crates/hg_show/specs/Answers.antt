-- What showing bytes answers: the fault that reading them tells, and otherwise what was in the way of printing, if
-- anything.
use Rattle.std.specs.Prelude.{ℕ, List, ◌≡◌, ◌⊎◌, ◌≤◌, ◌<◌, Option, Some, None, IfSome, Result, Ok, Err, IsErrOf, length}
use Rattle.hg_message.specs.Message.{message_at}
use Rattle.hg_obsstore.specs.Faults.{store_at}
use Rattle.hg_phaseroots.specs.Reading.{roots_of}
use Rattle.hg_show.specs.declared.form.Form.{Form}
use Rattle.hg_show.specs.declared.form.Form.TheVariants.{Store as store, Roots as roots, Message as message}
use Rattle.hg_show.specs.declared.fault.ShowFault.{ShowFault}
use Rattle.hg_show.specs.declared.fault.ShowFault.TheVariants.{Read, TooLong, Store, Roots, Message, Write, NoMemory}

-- ---- the fault of bytes

-- the fault that reading met, if any
abbrev pub met : {Y F : Type 0} → (F → ShowFault) → Result Y F → Option ShowFault
met fault (Ok read) = None
met fault (Err f) = Some (fault f)

-- the first fault of the bytes of a store
abbrev pub store_fault_in : List ℕ → Option ShowFault
store_fault_in bytes = met Store (store_at bytes)

-- the first line at fault of a text of roots
abbrev pub roots_fault_in : List ℕ → Option ShowFault
roots_fault_in text = met Roots (roots_of text)

-- the first fault of the bytes of a message
abbrev pub message_fault_in : List ℕ → Option ShowFault
message_fault_in bytes = met Message (message_at bytes)

abbrev pub fault_in : Form → List ℕ → Option ShowFault
fault_in store bytes = store_fault_in bytes
fault_in roots bytes = roots_fault_in bytes
fault_in message bytes = message_fault_in bytes

-- ---- what is answered

-- A fault of the bytes is told, and nothing else. Without one, only a write or memory can have been in the way.
abbrev pub ShowAnswer : {A : Type 0} → Option ShowFault → Result A ShowFault → Type 0
ShowAnswer (Some fault) answer = answer ≡ Err fault
ShowAnswer None (Ok done) = Unit {0}
ShowAnswer None (Err fault) = (fault ≡ Write) ⊎ (fault ≡ NoMemory)

-- ---- what is read

-- 64 MiB
abbrev pub input_limit : ℕ
input_limit = 67108864

-- no more bytes than may be shown, and what the reader had where that is known
abbrev pub IsInput : Option (List ℕ) → List ℕ → Type 0
IsInput known bytes = (length bytes ≤ input_limit) × IfSome known (λ all. all ≡ bytes)

-- of what is known, more is left
abbrev pub IsMoreLeft : Option (List ℕ) → Option (List ℕ) → Type 0
IsMoreLeft known left = IfSome known (λ _. IfSome left (λ bytes. 0 < length bytes))

-- what can end the reading of bytes: want of memory only before all is read
abbrev pub IsInputFault : Option (List ℕ) → Option (List ℕ) → ShowFault → Type 0
IsInputFault known left fault = (fault ≡ Read) ⊎ ((fault ≡ TooLong) ⊎ ((fault ≡ NoMemory) × IsMoreLeft known left))

-- the bytes weren't read
abbrev pub EndsInput : {A : Type 0} → Option (List ℕ) → Option (List ℕ) → Result A ShowFault → Type 0
EndsInput known left answer =
    IsErrOf answer Read ⊎ (IsErrOf answer TooLong ⊎ (IsErrOf answer NoMemory × IsMoreLeft known left))

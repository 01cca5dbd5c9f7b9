-- The texts and the exit statuses of why bytes weren't shown, or weren't written.
use Rattle.std.specs.Prelude.{ℕ, List, ◌++◌, Option, Some, None, codes, decimal}
use Rattle.hg_message.specs.Refusals.{message_fault_number, message_fault_text}
use Rattle.hg_obsstore.specs.Refusals.{store_fault_number, store_fault_text}
use Rattle.hg_phaseroots.specs.Refusals.{number as roots_number, text as roots_text}
use Rattle.hg_show.specs.declared.fault.ShowFault.{ShowFault}
use Rattle.hg_show.specs.declared.fault.ShowFault.TheVariants.{Read, TooLong, Store, Roots, Message, Write, NoMemory}
use Rattle.hg_show.specs.declared.fault.WriteFault.{WriteFault}
use Rattle.hg_show.specs.declared.fault.WriteFault.TheVariants.{Write as NotWritten, NoMemory as NoRoom}

-- the number of a fault, and a space
abbrev pub with_number : Option ℕ → List ℕ → List ℕ
with_number None name = name
with_number (Some number) name = decimal number ++ (codes " " ++ name)

-- a fault of bytes comes after the name of their format, with its number, its name and its place
abbrev pub show_fault_text : ShowFault → List ℕ
show_fault_text Read = codes "read fault"
show_fault_text TooLong = codes "input is too long"
show_fault_text (Store fault) =
    codes "store: " ++ (decimal (store_fault_number fault) ++ (codes " " ++ store_fault_text fault))
show_fault_text (Roots fault) = codes "roots: " ++ with_number (roots_number fault) (roots_text fault)
show_fault_text (Message fault) =
    codes "message: " ++ (decimal (message_fault_number fault) ++ (codes " " ++ message_fault_text fault))
show_fault_text Write = codes "write fault"
show_fault_text NoMemory = codes "no memory"

abbrev pub write_fault_text : WriteFault → List ℕ
write_fault_text NotWritten = codes "write fault"
write_fault_text NoRoom = codes "no memory"

-- 3 for want of memory, otherwise 1
abbrev pub status_of : ShowFault → ℕ
status_of NoMemory = 3
status_of _ = 1

abbrev pub write_status_of : WriteFault → ℕ
write_status_of NotWritten = 1
write_status_of NoRoom = 3

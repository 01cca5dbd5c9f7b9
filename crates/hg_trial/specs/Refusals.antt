-- Why a message isn't taken.
use Rattle.hg_history.specs.declared.fault.Fault.{Fault}
use Rattle.hg_history.specs.declared.fault.Fault.TheVariants as fault
use Rattle.hg_marker.specs.declared.error.ReadError.{ReadError}
use Rattle.hg_marker.specs.declared.error.ReadError.TheVariants as reading
use Rattle.hg_message.specs.declared.error.MessageFault.{MessageFault}
use Rattle.hg_trial.specs.declared.refusal.Refusal.{Refusal}
use Rattle.hg_trial.specs.declared.refusal.Refusal.TheVariants.{Message, Part, NoMemory}

-- of bytes that weren't read
abbrev pub read_refusal : ReadError MessageFault → Refusal
read_refusal (reading.Fault fault) = Message fault
read_refusal reading.NoMemory = NoMemory

-- of a part that wasn't absorbed
abbrev pub part_refusal : Fault → Refusal
part_refusal (fault.UnknownParent n) = Part (fault.UnknownParent n)
part_refusal (fault.Collision n) = Part (fault.Collision n)
part_refusal (fault.UnknownBound n) = Part (fault.UnknownBound n)
part_refusal fault.NullBound = Part fault.NullBound
part_refusal fault.NoMemory = NoMemory

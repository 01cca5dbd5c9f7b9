-- The numbers and texts of what is refused. Numbers count from 1; faults are tried in the order of the fields.
use Rattle.std.specs.Prelude.{ℕ, List, ◌++◌, codes}
use Rattle.std.specs.Fmt.{decimal}
use Rattle.hg_obsstore.specs.Refusals.{store_fault_text}
use Rattle.hg_message.specs.declared.error.MessageError.{MessageError}
use Rattle.hg_message.specs.declared.error.MessageError.TheVariants.{TooLarge}
use Rattle.hg_message.specs.declared.error.MessageFault.{MessageFault}
use Rattle.hg_message.specs.declared.error.MessageFault.TheVariants.{Truncated, BadMagic, BadVersion, HashMismatch}
use Rattle.hg_message.specs.declared.error.MessageFault.TheVariants.{BadParents, BadPhase, BadMarker, Trailing}
use Rattle.hg_message.specs.declared.error.MessageFault.TheVariants.{TextTooLong, BadScope}

-- the number of a refusal of `Message::new`
abbrev pub message_error_number : MessageError → ℕ
message_error_number TooLarge = 1

-- its name
abbrev pub message_error_name : MessageError → List ℕ
message_error_name TooLarge = codes "TooLarge"

-- the number of a fault of `Message::from_bytes`
abbrev pub message_fault_number : MessageFault → ℕ
message_fault_number (Truncated place) = 1
message_fault_number BadMagic = 2
message_fault_number BadVersion = 3
message_fault_number (HashMismatch index) = 4
message_fault_number (BadParents index) = 5
message_fault_number BadPhase = 6
message_fault_number (BadMarker place cause) = 7
message_fault_number Trailing = 8
message_fault_number (TextTooLong index) = 9
message_fault_number BadScope = 10

-- its text: with the place or the record, where there is one, and a marker's with its cause
abbrev pub message_fault_text : MessageFault → List ℕ
message_fault_text (Truncated place) = codes "Truncated at " ++ decimal place
message_fault_text BadMagic = codes "BadMagic"
message_fault_text BadVersion = codes "BadVersion"
message_fault_text (HashMismatch index) = codes "HashMismatch in record " ++ decimal index
message_fault_text (BadParents index) = codes "BadParents in record " ++ decimal index
message_fault_text BadPhase = codes "BadPhase"
message_fault_text (BadMarker place cause) = codes "BadMarker at " ++ decimal place ++ codes ": " ++ store_fault_text
    cause
message_fault_text Trailing = codes "Trailing"
message_fault_text (TextTooLong index) = codes "TextTooLong in record " ++ decimal index
message_fault_text BadScope = codes "BadScope"

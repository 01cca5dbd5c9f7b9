-- The numbers and names of why a pin was not set or taken away.
use Rattle.std.specs.Prelude.{ℕ, List, Option, Some, None, codes}
use Rattle.hg_view.specs.declared.refusal.PinRefusal.{PinRefusal}
use Rattle.hg_view.specs.declared.refusal.PinRefusal.TheVariants.{Unknown, NotPinned, NoMemory}

-- the number that a user reads; want of memory has none
abbrev pub pin_refusal_number : PinRefusal → Option ℕ
pin_refusal_number (Unknown n) = Some 1
pin_refusal_number (NotPinned n) = Some 2
pin_refusal_number NoMemory = None

abbrev pub pin_refusal_name : PinRefusal → List ℕ
pin_refusal_name (Unknown n) = codes "Unknown"
pin_refusal_name (NotPinned n) = codes "NotPinned"
pin_refusal_name NoMemory = codes "NoMemory"

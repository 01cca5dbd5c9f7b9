-- The numbers and names of what an inbox refuses.
use Rattle.std.specs.Prelude.{ℕ, List, Option, Some, None, codes}
use Rattle.hg_inbox.specs.declared.refusal.InboxRefusal.{InboxRefusal}
use Rattle.hg_inbox.specs.declared.refusal.InboxRefusal.TheVariants.{ZeroCapacity, SeatsOut, NoSeat, NoMemory}

-- the number that a user reads; want of memory has none
abbrev pub inbox_refusal_number : InboxRefusal → Option ℕ
inbox_refusal_number ZeroCapacity = Some 1
inbox_refusal_number SeatsOut = Some 3
inbox_refusal_number NoSeat = Some 4
inbox_refusal_number NoMemory = None

-- the bare name
abbrev pub inbox_refusal_name : InboxRefusal → List ℕ
inbox_refusal_name ZeroCapacity = codes "ZeroCapacity"
inbox_refusal_name SeatsOut = codes "SeatsOut"
inbox_refusal_name NoSeat = codes "NoSeat"
inbox_refusal_name NoMemory = codes "NoMemory"

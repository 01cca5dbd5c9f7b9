-- The numbers and names of why nothing is offered.
use Rattle.std.specs.Prelude.{ℕ, List, Option, Some, None, codes}
use Rattle.hg_message.specs.declared.refusal.OfferRefusal.{OfferRefusal}
use Rattle.hg_message.specs.declared.refusal.OfferRefusal.TheVariants.{UnknownCommon, TooLarge, NoMemory}

-- the number that a user reads; want of memory has none
abbrev pub offer_refusal_number : OfferRefusal → Option ℕ
offer_refusal_number (UnknownCommon n) = Some 1
offer_refusal_number TooLarge = Some 2
offer_refusal_number NoMemory = None

abbrev pub offer_refusal_name : OfferRefusal → List ℕ
offer_refusal_name (UnknownCommon n) = codes "UnknownCommon"
offer_refusal_name TooLarge = codes "TooLarge"
offer_refusal_name NoMemory = codes "NoMemory"

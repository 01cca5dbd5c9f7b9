-- What a peer decides, offers and reads.
use Rattle.std.specs.Prelude.{◌≡◌, ◌⊎◌, ◌<◌, ℕ, List, length, true, false, Result, Ok, Err, IsErrOf}
use Rattle.hg_changeset.specs.declared.node.Node.{Node}
use Rattle.hg_history.specs.declared.fault.Fault.{Fault}
use Rattle.hg_history.specs.declared.fault.Fault.TheVariants as fault
use Rattle.hg_replica.specs.State.{IsValid}
use Rattle.hg_replica.specs.Least.{PartValue}
use Rattle.hg_replica.specs.Content.{content_of}
use Rattle.hg_replica.specs.Change.{ChangeValue}
use Rattle.hg_replica.specs.Answer.{AbsorbAnswer, IsGrowthBeforeFault}
use Rattle.hg_view.specs.Kept.{KeptValue}
use Rattle.hg_rewrite.specs.declared.op.Op.{Op}
use Rattle.hg_rewrite.specs.Parts.{part_of as operation_part}
use Rattle.hg_rewrite.specs.Refusals.{NoneApplies, IsFirstRefusal, refusals}
use Rattle.hg_message.specs.declared.refusal.OfferRefusal.TheVariants.{UnknownCommon, TooLarge}
use Rattle.hg_message.specs.declared.refusal.OfferRefusal.TheVariants as offer
use Rattle.hg_message.specs.Value.{MessageValue, IsMessage, is_too_large}
use Rattle.hg_message.specs.Message.{message_at}
use Rattle.hg_message.specs.Spelling.{message_spelling}
use Rattle.hg_message.specs.Part.{part_of as message_part}
use Rattle.hg_message.specs.declared.scope.Scope.{Scope}
use Rattle.hg_message.specs.Offer.{AreHeld, IsFirstUnknown, IsOfferOf, HasNothing}
use Rattle.hg_peer.specs.declared.ask.Ask.{Ask}
use Rattle.hg_peer.specs.declared.refusal.PeerRefusal.{PeerRefusal}
use Rattle.hg_peer.specs.declared.refusal.PeerRefusal.TheVariants.{Rewrite, Offer, Message, View, NoMemory}

-- the refusal says no more than that memory ran out
abbrev pub IsMemory : PeerRefusal → Type 0
IsMemory refusal = refusal ≡ NoMemory

-- ---- operations

-- the state is valid, no refusal applies under its pins, and the part is that of the table of operations
abbrev pub Decides : KeptValue → Op → PartValue → Type 0
Decides s op part =
    IsValid s.replica × NoneApplies (refusals s.replica s.pins op) × (part ≡ operation_part s.replica op)

-- the first refusal that applies under the state's pins
abbrev pub IsAgainstOperation : KeptValue → Op → PeerRefusal → Type 0
IsAgainstOperation s op (Rewrite refusal) = IsFirstRefusal (refusals s.replica s.pins op) refusal
IsAgainstOperation s op (Offer refusal) = ⊥
IsAgainstOperation s op (Message fault) = ⊥
IsAgainstOperation s op (View refusal) = ⊥
IsAgainstOperation s op NoMemory = ⊥

-- ---- offers

-- the message isn't too large, and what is written of it is read as it. The latter is so of all that a replica holds
abbrev pub CanBeWritten : MessageValue → Type 0
CanBeWritten m = IsMessage m × (message_at (message_spelling m) ≡ Ok m)

-- the state is valid and holds the common nodes, and the bytes are what is written of its offer of the scope above
-- them, under its pins
pub record Offers (s : KeptValue) (ask : Ask) (bytes : List ℕ) : Type 0 where
  pub valid : IsValid s.replica
  pub held : AreHeld (content_of s.replica) ask.common.items
  pub message : MessageValue
  pub offered : IsOfferOf s.replica s.pins ask.common.items ask.scope message
  pub writable : CanBeWritten message
  pub written : bytes ≡ message_spelling message

-- the first of the common nodes that isn't held; or the offer above them is too large, by its numbers
abbrev pub IsAgainstOffer : KeptValue → Ask → PeerRefusal → Type 0
IsAgainstOffer s ask (Rewrite refusal) = ⊥
IsAgainstOffer s ask (Offer (UnknownCommon node)) = IsFirstUnknown (content_of s.replica) ask.common.items node
IsAgainstOffer s ask (Offer TooLarge) =
    AreHeld (content_of s.replica) ask.common.items
    × ((m : MessageValue) × IsOfferOf s.replica s.pins ask.common.items ask.scope m × (is_too_large m ≡ true))
IsAgainstOffer s ask (Offer offer.NoMemory) = ⊥
IsAgainstOffer s ask (Message fault) = ⊥
IsAgainstOffer s ask (View refusal) = ⊥
IsAgainstOffer s ask NoMemory = ⊥

-- memory may be wanting for the offer of the scope above the common nodes. Each of them is held; and it is wanting to
-- find the offer, where there is something to find, or to write what was found and isn't too large
abbrev pub OfferMayWantMemory : KeptValue → List Node → Scope → Type 0
OfferMayWantMemory s common scope =
    AreHeld (content_of s.replica) common
    × ((¬ (HasNothing s.replica scope))
    ⊎ ((m : MessageValue) × IsOfferOf s.replica s.pins common scope m × (is_too_large m ≡ false)))

-- what was found is too large to be written
abbrev pub IsAgainstWriting : MessageValue → PeerRefusal → Type 0
IsAgainstWriting m refusal = (refusal ≡ Offer TooLarge) × (is_too_large m ≡ true)

-- ---- bytes

-- the part of the message that the bytes say
abbrev pub SpellsPart : List ℕ → PartValue → Type 0
SpellsPart bytes part = (m : MessageValue) × (message_at bytes ≡ Ok m) × (part ≡ message_part m)

-- the first fault of the bytes
abbrev pub IsAgainstBytes : List ℕ → PeerRefusal → Type 0
IsAgainstBytes bytes (Rewrite refusal) = ⊥
IsAgainstBytes bytes (Offer refusal) = ⊥
IsAgainstBytes bytes (Message fault) = message_at bytes ≡ Err fault
IsAgainstBytes bytes (View refusal) = ⊥
IsAgainstBytes bytes NoMemory = ⊥

-- memory may be wanting to read the bytes: they say a message, and one with a changeset, a bound or a marker, the least
-- of which has 41 bytes. Without these none is taken
abbrev pub ReadMayWantMemory : List ℕ → Type 0
ReadMayWantMemory bytes = (40 < length bytes) × ((m : MessageValue) × (message_at bytes ≡ Ok m))

-- what taking bytes in answers, and the peer after it: the replica's answer to the part of the message that they say,
-- which is want of memory only where something grows before a fault is met; or the first fault of the bytes, or want
-- of memory where there may be. The pins stay, and a refusal leaves all
abbrev pub TakesBytes : KeptValue → List ℕ → Result (Result ChangeValue Fault) PeerRefusal → KeptValue → Type 0
TakesBytes s bytes (Ok answer) t =
    (m : MessageValue) × (message_at bytes ≡ Ok m) × AbsorbAnswer s.replica (message_part m) answer t.replica
    × (IsErrOf answer fault.NoMemory → IsGrowthBeforeFault s.replica (message_part m)) × (t.pins ≡ s.pins)
TakesBytes s bytes (Err refusal) t =
    (IsAgainstBytes bytes refusal ⊎ (IsMemory refusal × ReadMayWantMemory bytes)) × (t ≡ s)

-- Why a peer and a world of peers refuse: the numbers and texts, and which refusal of a peer tells which of its crates.
use Rattle.std.specs.Prelude.{ℕ, List, Option, Some, None, codes}
use Rattle.hg_history.specs.declared.fault.Fault.{Fault}
use Rattle.hg_history.specs.Fault.{number as fault_number}
use Rattle.hg_marker.specs.declared.error.ReadError.{ReadError}
use Rattle.hg_marker.specs.declared.error.ReadError.TheVariants as reading
use Rattle.hg_view.specs.declared.refusal.PinRefusal.{PinRefusal}
use Rattle.hg_view.specs.declared.refusal.PinRefusal.TheVariants as pin
use Rattle.hg_view.specs.PinRefusals.{pin_refusal_number, pin_refusal_name}
use Rattle.hg_rewrite.specs.declared.refusal.Refusal.{Refusal}
use Rattle.hg_rewrite.specs.declared.refusal.Refusal.TheVariants as operation
use Rattle.hg_rewrite.specs.Names.{refusal_number, refusal_name}
use Rattle.hg_message.specs.declared.refusal.OfferRefusal.{OfferRefusal}
use Rattle.hg_message.specs.declared.refusal.OfferRefusal.TheVariants as offer
use Rattle.hg_message.specs.declared.error.MessageFault.{MessageFault}
use Rattle.hg_message.specs.OfferRefusals.{offer_refusal_number, offer_refusal_name}
use Rattle.hg_message.specs.Refusals.{message_fault_number, message_fault_text}
use Rattle.hg_world.specs.declared.event.EventRefusal.{EventRefusal}
use Rattle.hg_world.specs.declared.event.EventRefusal.TheVariants.{NoNode, NoMessage, ByActor, ByState}
use Rattle.hg_peer.specs.declared.refusal.PeerRefusal.{PeerRefusal}
use Rattle.hg_peer.specs.declared.refusal.PeerRefusal.TheVariants.{Rewrite, Offer, Message, View, NoMemory}

-- the number that a user reads, which is that of the operation's refusal, of the offer's, of the message's fault or of
-- the pin's refusal; want of memory has none
abbrev pub peer_refusal_number : PeerRefusal → Option ℕ
peer_refusal_number (Rewrite refusal) = refusal_number refusal
peer_refusal_number (Offer refusal) = offer_refusal_number refusal
peer_refusal_number (Message fault) = Some (message_fault_number fault)
peer_refusal_number (View refusal) = pin_refusal_number refusal
peer_refusal_number NoMemory = None

-- its text
abbrev pub peer_refusal_text : PeerRefusal → List ℕ
peer_refusal_text (Rewrite refusal) = refusal_name refusal
peer_refusal_text (Offer refusal) = offer_refusal_name refusal
peer_refusal_text (Message fault) = message_fault_text fault
peer_refusal_text (View refusal) = pin_refusal_name refusal
peer_refusal_text NoMemory = codes "NoMemory"

-- the number of a refused event: that of the missing thing, or of the peer's refusal or the part's fault
abbrev pub event_refusal_number : EventRefusal PeerRefusal Fault → Option ℕ
event_refusal_number NoNode = Some 1
event_refusal_number NoMessage = Some 2
event_refusal_number (ByActor refusal) = peer_refusal_number refusal
event_refusal_number (ByState fault) = fault_number fault

-- how a peer tells that an operation is refused
abbrev pub rewrite_refusal : Refusal → PeerRefusal
rewrite_refusal (operation.Unknown node) = Rewrite (operation.Unknown node)
rewrite_refusal (operation.Hidden node) = Rewrite (operation.Hidden node)
rewrite_refusal (operation.Public node) = Rewrite (operation.Public node)
rewrite_refusal (operation.AlreadyObsolete node) = Rewrite (operation.AlreadyObsolete node)
rewrite_refusal operation.NotLinear = Rewrite operation.NotLinear
rewrite_refusal operation.Count = Rewrite operation.Count
rewrite_refusal operation.Raise = Rewrite operation.Raise
rewrite_refusal (operation.Fault cause) = Rewrite (operation.Fault cause)
rewrite_refusal (operation.Exists node) = Rewrite (operation.Exists node)
rewrite_refusal operation.NoMemory = NoMemory

-- how a peer tells that nothing is offered
abbrev pub offer_refusal : OfferRefusal → PeerRefusal
offer_refusal (offer.UnknownCommon node) = Offer (offer.UnknownCommon node)
offer_refusal offer.TooLarge = Offer offer.TooLarge
offer_refusal offer.NoMemory = NoMemory

-- how a peer tells that bytes are no message
abbrev pub message_refusal : ReadError MessageFault → PeerRefusal
message_refusal (reading.Fault fault) = Message fault
message_refusal reading.NoMemory = NoMemory

-- how a peer tells that a pin is not set or taken away
abbrev pub pin_refusal : PinRefusal → PeerRefusal
pin_refusal (pin.Unknown node) = View (pin.Unknown node)
pin_refusal (pin.NotPinned node) = View (pin.NotPinned node)
pin_refusal pin.NoMemory = NoMemory

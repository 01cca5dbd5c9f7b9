-- Why calls of a node are refused: the numbers and texts, and which refusal tells which of a peer's.
use Rattle.std.specs.Prelude.{ℕ, List, Option, Some, None, codes}
use Rattle.hg_history.specs.declared.fault.Fault.{Fault as PartFault}
use Rattle.hg_history.specs.declared.fault.Fault.TheVariants as fault
use Rattle.hg_history.specs.Fault.{number as fault_number, name as fault_name}
use Rattle.hg_message.specs.declared.refusal.OfferRefusal.{OfferRefusal}
use Rattle.hg_message.specs.declared.refusal.OfferRefusal.TheVariants as message
use Rattle.hg_peer.specs.declared.refusal.PeerRefusal.{PeerRefusal}
use Rattle.hg_peer.specs.declared.refusal.PeerRefusal.TheVariants as peer
use Rattle.hg_peer.specs.Refusals.{peer_refusal_number, peer_refusal_text}
use Rattle.hg_live.specs.declared.answer.CallRefusal.{CallRefusal}
use Rattle.hg_live.specs.declared.answer.CallRefusal.TheVariants.{JournalFull, Refused, Fault, NoMemory}
use Rattle.hg_live.specs.declared.answer.LookRefusal.{LookRefusal}
use Rattle.hg_live.specs.declared.answer.LookRefusal.TheVariants as look
use Rattle.hg_live.specs.declared.answer.NotOffered.{NotOffered}
use Rattle.hg_live.specs.declared.answer.NotOffered.TheVariants as offer
use Rattle.hg_live.specs.declared.answer.CloseRefusal.{CloseRefusal}
use Rattle.hg_live.specs.declared.answer.CloseRefusal.TheVariants as close

-- how a call tells what a peer refuses
abbrev pub call_refusal : PeerRefusal → CallRefusal
call_refusal (peer.Rewrite refusal) = Refused (peer.Rewrite refusal)
call_refusal (peer.Offer refusal) = Refused (peer.Offer refusal)
call_refusal (peer.Message fault) = Refused (peer.Message fault)
call_refusal (peer.View refusal) = Refused (peer.View refusal)
call_refusal peer.NoMemory = NoMemory

-- how it tells what is wrong with a part
abbrev pub call_fault : PartFault → CallRefusal
call_fault (fault.UnknownParent node) = Fault (fault.UnknownParent node)
call_fault (fault.Collision node) = Fault (fault.Collision node)
call_fault (fault.UnknownBound node) = Fault (fault.UnknownBound node)
call_fault fault.NullBound = Fault fault.NullBound
call_fault fault.NoMemory = NoMemory

-- how a node tells that nothing is offered
abbrev pub not_offered : OfferRefusal → NotOffered
not_offered (message.UnknownCommon node) = offer.Refused (peer.Offer (message.UnknownCommon node))
not_offered message.TooLarge = offer.Refused (peer.Offer message.TooLarge)
not_offered message.NoMemory = offer.NoMemory

-- the numbers that a user reads; want of memory has none
abbrev pub call_refusal_number : CallRefusal → Option ℕ
call_refusal_number JournalFull = Some 4
call_refusal_number (Refused refusal) = peer_refusal_number refusal
call_refusal_number (Fault fault) = fault_number fault
call_refusal_number NoMemory = None

abbrev pub look_refusal_number : LookRefusal → Option ℕ
look_refusal_number look.NotEntered = Some 2
look_refusal_number look.NoMemory = None

abbrev pub not_offered_number : NotOffered → Option ℕ
not_offered_number offer.NotEntered = Some 2
not_offered_number (offer.Refused refusal) = peer_refusal_number refusal
not_offered_number offer.NoMemory = None

abbrev pub close_refusal_number : CloseRefusal → Option ℕ
close_refusal_number close.PassesOut = Some 3
close_refusal_number close.NoMemory = None

-- their texts
abbrev pub call_refusal_text : CallRefusal → List ℕ
call_refusal_text JournalFull = codes "JournalFull"
call_refusal_text (Refused refusal) = peer_refusal_text refusal
call_refusal_text (Fault fault) = fault_name fault
call_refusal_text NoMemory = codes "NoMemory"

abbrev pub look_refusal_name : LookRefusal → List ℕ
look_refusal_name look.NotEntered = codes "NotEntered"
look_refusal_name look.NoMemory = codes "NoMemory"

abbrev pub not_offered_text : NotOffered → List ℕ
not_offered_text offer.NotEntered = codes "NotEntered"
not_offered_text (offer.Refused refusal) = peer_refusal_text refusal
not_offered_text offer.NoMemory = codes "NoMemory"

abbrev pub close_refusal_name : CloseRefusal → List ℕ
close_refusal_name close.PassesOut = codes "PassesOut"
close_refusal_name close.NoMemory = codes "NoMemory"

abbrev pub no_pass_name : List ℕ
no_pass_name = codes "NoPass"

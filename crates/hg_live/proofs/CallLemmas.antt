-- What calls answer that would change a node.
use Rattle.std.proofs.Common.{◌≡◌, ℕ, ◌⊎◌, inl, inr, List, Result, Ok, Err, IfErr, refl, subst}
use Rattle.hg_history.specs.declared.fault.Fault.{Fault as PartFault}
use Rattle.hg_history.specs.declared.fault.Fault.TheVariants as fault
use Rattle.hg_replica.specs.Least.{PartValue}
use Rattle.hg_replica.specs.Answer.{IsGrowthBeforeFault}
use Rattle.hg_replica.specs.Content.{content_of, IsValidContent, ContentAdmits, IsContentFault}
use Rattle.hg_replica.specs.ContentLaws.{replicas_faultless}
use Rattle.hg_view.specs.Kept.{KeptValue}
use Rattle.hg_rewrite.specs.declared.op.Op.{Op}
use Rattle.hg_rewrite.specs.Memory.{MayWantMemory}
use Rattle.hg_peer.specs.declared.mark.Mark.{Mark as MarkValue}
use Rattle.hg_peer.specs.declared.refusal.PeerRefusal.{PeerRefusal}
use Rattle.hg_peer.specs.declared.refusal.PeerRefusal.TheVariants as peer
use Rattle.hg_peer.specs.Marks.{IsAgainstMark, ChangesPins}
use Rattle.hg_peer.specs.Peers.{Decides, IsAgainstOperation, SpellsPart, IsAgainstBytes, IsMemory, ReadMayWantMemory}
use Rattle.hg_live.specs.declared.answer.CallRefusal.{CallRefusal}
use Rattle.hg_live.specs.declared.answer.CallRefusal.TheVariants.{JournalFull, Refused, Fault, NoMemory}
use Rattle.hg_live.specs.declared.entry.Entry.TheVariants.{Part, Mark}
use Rattle.hg_live.specs.NodeRefusals.{call_refusal, call_fault}
use Rattle.hg_live.specs.NodeViews.{DeskView}
use Rattle.hg_live.specs.Calls.{IsAgainstEntry, IsNotEntered, IsAgainstLocal, IsAgainstTake, PartMayWantMemory}

-- ---- what the peer refuses, as a call tells it

-- what is wrong with a part, and want of memory where something grows before
pub fault_told : (s : KeptValue) (k : PartValue) (f : PartFault) →
    IsContentFault (content_of s.replica) k f ⊎ (f ≡ fault.NoMemory) →
    (f ≡ fault.NoMemory → IsGrowthBeforeFault s.replica k) → IsAgainstEntry s (Part k) (call_fault f)
fault_told s k fault.NoMemory h memory = memory refl
fault_told s k f (inl h) memory = h
fault_told s k f (inr e) memory = absurd (cc (e))

-- a mark, and want of memory where it has something to change
pub mark_told : (s : KeptValue) (m : MarkValue) (r : PeerRefusal) → IsAgainstMark s m r ⊎ IsMemory r →
    (r ≡ peer.NoMemory → ChangesPins s m) → IsAgainstEntry s (Mark m) (call_refusal r)
mark_told s m peer.NoMemory h memory = memory refl
mark_told s m r (inl h) memory = h
mark_told s m r (inr e) memory = absurd (cc (e))

-- an operation
pub operation_told : (d : DeskView) (op : Op) (r : PeerRefusal) → IsAgainstOperation d.working op r ⊎ IsMemory r →
    (r ≡ peer.NoMemory → MayWantMemory d.working.replica d.working.pins op) → IsAgainstLocal d op (call_refusal r)
operation_told d op peer.NoMemory h memory = inl (memory refl)
operation_told d op r (inl h) memory = h
operation_told d op r (inr e) memory = absurd (cc (e))

-- bytes, and want of memory where reading them may want it
pub bytes_told : (d : DeskView) (bytes : List ℕ) (r : PeerRefusal) → IsAgainstBytes bytes r ⊎ IsMemory r →
    (r ≡ peer.NoMemory → ReadMayWantMemory bytes) → IsAgainstTake d bytes (call_refusal r)
bytes_told d bytes peer.NoMemory h memory = let wants = memory refl in (wants.1.0, wants.1.1, inl wants)
bytes_told d bytes r (inl h) memory = h
bytes_told d bytes r (inr e) memory = absurd (cc (e))

-- ---- an entry that is refused once it was found

-- memory was wanting for the entry of a part
entry_wants : (d : DeskView) (k : PartValue) → IsNotEntered d (Part k) NoMemory → PartMayWantMemory d k
entry_wants d k (inl grows) = inl grows
entry_wants d k (inr room) = inr room.1

-- what was decided is admitted, so only memory can be wanting for it
pub decided_told : (d : DeskView) (op : Op) (k : PartValue) (r : CallRefusal) →
    IsValidContent (content_of d.working.replica) → Decides d.working op k →
    ContentAdmits (content_of d.working.replica) k → IsNotEntered d (Part k) r → IsAgainstLocal d op r
decided_told d op k NoMemory valid so admitted h = inr (k, so, entry_wants d k h)
decided_told d op k JournalFull valid so admitted (inl h) = absurd h
decided_told d op k (Refused r) valid so admitted (inl h) = absurd h
decided_told d op k (Fault f) valid so admitted (inl h) =
    replicas_faultless (content_of d.working.replica) k f valid admitted h
decided_told d op k r valid so admitted (inr h) = absurd (cc (h.0))

pub read_told : (d : DeskView) (bytes : List ℕ) (k : PartValue) (r : CallRefusal) → SpellsPart bytes k →
    IsNotEntered d (Part k) r → IsAgainstTake d bytes r
read_told d bytes k NoMemory so h =
    (so.0, so.1, inr (subst (PartMayWantMemory d) so.2 (entry_wants d k h)))
read_told d bytes k JournalFull so (inl h) = absurd h
read_told d bytes k (Refused r) so (inl h) = absurd h
read_told d bytes k (Fault f) so (inl h) = (k, so, h)
read_told d bytes k r so (inr h) = absurd (cc (h.0))

-- a refusal that is so is so in other words
pub refused_by : {A : Type 0} (P Q : CallRefusal → Type 0) (r : Result A CallRefusal) →
    ((e : CallRefusal) → P e → Q e) → IfErr r P → IfErr r Q
refused_by P Q (Ok x) f h = tt
refused_by P Q (Err e) f h = f e h

-- What calls answer that would change a node.
use Rattle.std.specs.Prelude.{◌≡◌, ◌+◌, ◌≤◌, ◌⊎◌, ℕ, List, [], ◌∷◌, ◌++◌, length, All, Ok}
use Rattle.std.specs.List.{sum_by}
use mathlib.Core.List.{IsPrefix}
use Rattle.hg_replica.specs.Least.{PartValue}
use Rattle.hg_replica.specs.Answer.{IsGrowthBeforeFault}
use Rattle.hg_replica.specs.Content.{content_of, IsContentFault}
use Rattle.hg_view.specs.Kept.{KeptValue}
use Rattle.hg_rewrite.specs.declared.op.Op.{Op}
use Rattle.hg_rewrite.specs.Memory.{MayWantMemory}
use Rattle.hg_message.specs.Value.{MessageValue}
use Rattle.hg_message.specs.Message.{message_at}
use Rattle.hg_message.specs.Part.{part_of as message_part}
use Rattle.hg_peer.specs.declared.mark.Mark.{Mark as MarkValue}
use Rattle.hg_peer.specs.Marks.{IsAgainstMark, ChangesPins}
use Rattle.hg_peer.specs.Peers.{Decides, IsAgainstOperation, SpellsPart, IsAgainstBytes, ReadMayWantMemory}
use Rattle.hg_live.specs.declared.answer.Accepted.{Accepted}
use Rattle.hg_live.specs.declared.answer.Accepted.TheVariants.{Shown, Later}
use Rattle.hg_live.specs.declared.answer.CallRefusal.{CallRefusal}
use Rattle.hg_live.specs.declared.answer.CallRefusal.TheVariants.{JournalFull, Refused, Fault, NoMemory}
use Rattle.hg_live.specs.declared.entry.Entry.{Entry}
use Rattle.hg_live.specs.declared.entry.Entry.TheVariants.{Part, Mark}
use Rattle.hg_live.specs.After.{IsNext, IsAfter}
use Rattle.hg_live.specs.Limits.{call_limit}
use Rattle.hg_live.specs.NodeViews.{PassView, DeskView}

abbrev pub MatchAccepted : Accepted → Type 0 → Type 0 → Type 0
MatchAccepted Shown p q = p
MatchAccepted Later p q = q

-- why the state doesn't take an entry in. Want of memory is told only where something grows before a fault of the part
-- is met, or where the mark has something to change
abbrev pub IsAgainstEntry : KeptValue → Entry → CallRefusal → Type 0
IsAgainstEntry s (Part k) JournalFull = ⊥
IsAgainstEntry s (Part k) (Refused refusal) = ⊥
IsAgainstEntry s (Part k) (Fault fault) = IsContentFault (content_of s.replica) k fault
IsAgainstEntry s (Part k) NoMemory = IsGrowthBeforeFault s.replica k
IsAgainstEntry s (Mark m) JournalFull = ⊥
IsAgainstEntry s (Mark m) (Refused refusal) = IsAgainstMark s m refusal
IsAgainstEntry s (Mark m) (Fault fault) = ⊥
IsAgainstEntry s (Mark m) NoMemory = ChangesPins s m

-- something waits to be published
abbrev pub HasWaiting : DeskView → Type 0
HasWaiting d = ¬ (d.waiting ≡ [])

-- memory may be wanting for the entry of a part: something grows before a fault of the part is met, or something waits
-- already, and there was no room behind it
abbrev pub PartMayWantMemory : DeskView → PartValue → Type 0
PartMayWantMemory d k = IsGrowthBeforeFault d.working.replica k ⊎ HasWaiting d

-- why the desk doesn't: its state doesn't; or there was no room behind what waits
abbrev pub IsNotEntered : DeskView → Entry → CallRefusal → Type 0
IsNotEntered d entry refusal = IsAgainstEntry d.working entry refusal ⊎ ((refusal ≡ NoMemory) × HasWaiting d)

-- ---- why a call at this desk is refused: want of memory never stands for an operation's refusal that is tried before
-- the first growth, nor for a fault of the bytes, nor for one of the part but where a growth came before

-- the journal is full; or the first refusal of the operation that applies; or memory was wanting, to decide it or for
-- the entry of its part
abbrev pub IsAgainstLocal : DeskView → Op → CallRefusal → Type 0
IsAgainstLocal d op JournalFull = call_limit ≤ length d.journal
IsAgainstLocal d op (Refused refusal) = IsAgainstOperation d.working op refusal
IsAgainstLocal d op (Fault fault) = ⊥
IsAgainstLocal d op NoMemory =
    MayWantMemory d.working.replica d.working.pins op
    ⊎ ((k : PartValue) × Decides d.working op k × PartMayWantMemory d k)

-- the journal is full; or the first fault of the bytes, or of the part of their message; or memory was wanting, to read
-- the message or for the entry of its part
abbrev pub IsAgainstTake : DeskView → List ℕ → CallRefusal → Type 0
IsAgainstTake d bytes JournalFull = call_limit ≤ length d.journal
IsAgainstTake d bytes (Refused refusal) = IsAgainstBytes bytes refusal
IsAgainstTake d bytes (Fault fault) =
    (k : PartValue) × SpellsPart bytes k × IsContentFault (content_of d.working.replica) k fault
IsAgainstTake d bytes NoMemory =
    (m : MessageValue) × (message_at bytes ≡ Ok m)
    × (ReadMayWantMemory bytes ⊎ PartMayWantMemory d (message_part m))

-- the journal is full; or what is to be pinned isn't held, or what is to be unpinned isn't pinned; or memory was
-- wanting, where the mark has something to change, or for room behind what waits
abbrev pub IsAgainstMarking : DeskView → MarkValue → CallRefusal → Type 0
IsAgainstMarking d m JournalFull = call_limit ≤ length d.journal
IsAgainstMarking d m (Refused refusal) = IsAgainstMark d.working m refusal
IsAgainstMarking d m (Fault fault) = ⊥
IsAgainstMarking d m NoMemory = ChangesPins d.working m ⊎ HasWaiting d

-- ---- what an accepted call does

-- to the desk: the entry ends the journal, the state takes it in, and all of it is published; or nothing more is, and
-- the entry waits behind what waited
pub record IsNoted (entry : Entry) (answer : Accepted) (old new : DeskView) : Type 0 where
  pub journal : new.journal ≡ old.journal ++ entry ∷ []
  pub working : IsNext old.working entry new.working
  pub published : MatchAccepted answer (new.published ≡ new.journal) (new.published ≡ old.published)
  pub waiting : MatchAccepted answer (new.waiting ≡ []) (new.waiting ≡ old.waiting ++ entry ∷ [])

-- to the pass: it was told all that the journal has afterwards. Before, the journal began with all that the pass had
-- seen or been told. It has seen all of it, or what it had; and one more of its calls was accepted
pub record IsToldTo (answer : Accepted) (before after : List Entry) (old new : PassView) : Type 0 where
  pub after_seen : IsPrefix old.seen before
  pub after_told : IsPrefix old.told before
  pub told : new.told ≡ after
  pub seen : MatchAccepted answer (new.seen ≡ after) (new.seen ≡ old.seen)
  pub calls : new.calls ≡ old.calls + 1

-- the passes are all whose calls entered the journal: it begins with what each has seen and was told, and has as many
-- entries as they have accepted calls
abbrev pub AreAllOf : List Entry → List PassView → Type 0
AreAllOf journal passes =
    (length journal ≡ sum_by (λ p. p.calls) passes)
    × All (λ p. IsPrefix p.seen journal × IsPrefix p.told journal) passes

-- to a desk whose entry is such that P holds of it at the state before
abbrev pub IsEnteredAt : (KeptValue → Entry → Type 0) → Accepted → DeskView → DeskView → PassView → PassView → Type 0
IsEnteredAt P answer old new pass_old pass_new =
    (entry : Entry) × P old.working entry × IsNoted entry answer old new
    × IsToldTo answer old.journal new.journal pass_old pass_new

-- to the pass of a node: it was told a list whose last entry is such that P holds of it at the state that the list
-- without it leads to
pub record IsEntered (o : KeptValue) (P : KeptValue → Entry → Type 0) (answer : Accepted) (old new : PassView) :
    Type 0 where
  pub before : List Entry
  pub entry : Entry
  pub state : KeptValue
  pub leads : IsAfter o before state
  pub so : P state entry
  pub told : IsToldTo answer before (before ++ entry ∷ []) old new

-- the entry is the part that the operation's table has for it
abbrev pub EntersLocal : Op → KeptValue → Entry → Type 0
EntersLocal op s (Part k) = Decides s op k
EntersLocal op s (Mark m) = ⊥

-- the entry is the part of the message that the bytes say
abbrev pub EntersBytes : List ℕ → KeptValue → Entry → Type 0
EntersBytes bytes s (Part k) = SpellsPart bytes k
EntersBytes bytes s (Mark m) = ⊥

-- the entry is the mark
abbrev pub EntersMark : MarkValue → KeptValue → Entry → Type 0
EntersMark mark s entry = entry ≡ Mark mark

-- the refusal is that of a desk whose journal leads from o to its state: it is what is published, and then what waits
abbrev pub IsRefusedAt : KeptValue → (DeskView → CallRefusal → Type 0) → CallRefusal → Type 0
IsRefusedAt o P refusal =
    (d : DeskView) × IsAfter o d.journal d.working × (d.journal ≡ d.published ++ d.waiting) × P d refusal

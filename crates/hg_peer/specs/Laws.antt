-- What holds of every run of peers.
use Rattle.std.specs.Prelude.{◌≡◌, ◌+◌, ℕ, Option, Some, List, [], length, slice_get}
use Rattle.hg_history.specs.declared.fault.Fault.{Fault}
use Rattle.hg_replica.specs.State.{ReplicaState, IsValid, IsSameState, nothing_held}
use Rattle.hg_replica.specs.Least.{PartValue, AreAdmitted, IsLeast}
use Rattle.hg_replica.specs.Change.{ChangeValue}
use Rattle.hg_replica.specs.Content.{content_of}
use Rattle.hg_view.specs.Kept.{KeptValue}
use Rattle.hg_view.specs.Pins.{AreSamePins}
use Rattle.hg_message.specs.Taken.{HoldsNamed}
use Rattle.hg_world.specs.declared.event.Event.TheVariants.{Take}
use Rattle.hg_world.specs.declared.event.Event.TheVariants as event
use Rattle.hg_world.specs.declared.event.Answer.TheVariants.{Marked}
use Rattle.hg_world.specs.declared.event.EventRefusal.{EventRefusal}
use Rattle.hg_world.specs.Runs.{AllEmpty, AllValid, CoversAllOf, Accepts, Refuses, Happens, IsMemory}
use Rattle.hg_peer.specs.declared.mark.Mark.{Mark}
use Rattle.hg_peer.specs.declared.refusal.PeerRefusal.{PeerRefusal}
use Rattle.hg_peer.specs.Words.{peer_state, peer_words, PeerWorld, PeerTrace, PeersRan, accepted_by}
use Rattle.hg_peer.specs.Marks.{ArePinsAfter}
use Rattle.hg_peer.specs.Agreement.{Agree, SeeTheSame}
use Rattle.hg_peer.specs.Secrets.{IsMadeWithoutSecrets}
use Rattle.hg_peer.specs.Taken.{IsAboveHeld}

-- ---- what peers hold

-- the state is the least one by the formula: what it was, with the parts, each of which is admitted after those before
-- it
abbrev pub IsLeastByFormula : ReplicaState → List PartValue → ReplicaState → Type 0
IsLeastByFormula before parts after = AreAdmitted before parts × IsLeast before parts after

-- after any run each peer is what it was, with the parts that it accepted
abbrev pub EachPeerIsLeast : Type 0
EachPeerIsLeast =
    (old new : PeerWorld) (t : PeerTrace) (place : ℕ) (before after : KeptValue) → AllValid peer_state old →
    PeersRan old t new → slice_get old.nodes place ≡ Some before → slice_get new.nodes place ≡ Some after →
    IsValid before.replica → IsValid after.replica →
    IsLeastByFormula before.replica (accepted_by t place) after.replica

-- after any run of a new world each peer is the parts that it accepted, and nothing else
abbrev pub EachPeerIsLeastOfAll : Type 0
EachPeerIsLeastOfAll =
    (old new : PeerWorld) (t : PeerTrace) (place : ℕ) (after : KeptValue) → AllEmpty peer_state old →
    PeersRan old t new → slice_get new.nodes place ≡ Some after → IsValid after.replica →
    IsLeastByFormula nothing_held (accepted_by t place) after.replica

-- ---- where peers agree

-- after any run of a new world, peers that cover each other's accepted parts agree on every set of their content
abbrev pub CoveringPeersAgree : Type 0
CoveringPeersAgree =
    (old new : PeerWorld) (t : PeerTrace) (a b : ℕ) (first second : KeptValue) → AllEmpty peer_state old →
    PeersRan old t new → slice_get new.nodes a ≡ Some first → slice_get new.nodes b ≡ Some second →
    CoversAllOf peer_state t b first → CoversAllOf peer_state t a second →
    Agree (content_of first.replica) (content_of second.replica)

-- and where they pin the same, they see the same
abbrev pub CoveringPeersSeeTheSame : Type 0
CoveringPeersSeeTheSame =
    (old new : PeerWorld) (t : PeerTrace) (a b : ℕ) (first second : KeptValue) → AllEmpty peer_state old →
    PeersRan old t new → slice_get new.nodes a ≡ Some first → slice_get new.nodes b ≡ Some second →
    CoversAllOf peer_state t b first → CoversAllOf peer_state t a second → AreSamePins first.pins second.pins →
    SeeTheSame first second

-- and are in one state
abbrev pub CoveringPeersAreInOneState : Type 0
CoveringPeersAreInOneState =
    (old new : PeerWorld) (t : PeerTrace) (a b : ℕ) (first second : KeptValue) → AllEmpty peer_state old →
    PeersRan old t new → slice_get new.nodes a ≡ Some first → slice_get new.nodes b ≡ Some second →
    IsValid first.replica → IsValid second.replica → CoversAllOf peer_state t b first →
    CoversAllOf peer_state t a second → IsSameState first.replica second.replica

-- ---- what messages hold

-- no message that a run adds holds what was secret at its maker
abbrev pub NoAddedMessageHoldsASecret : Type 0
NoAddedMessageHoldsASecret =
    (old new : PeerWorld) (t : PeerTrace) (place : ℕ) (bytes : List ℕ) → PeersRan old t new →
    slice_get new.messages (length old.messages + place) ≡ Some bytes →
    IsMadeWithoutSecrets old t (length old.messages + place) bytes

-- where the pool began empty, none in it does
abbrev pub NoMessageHoldsASecret : Type 0
NoMessageHoldsASecret =
    (old new : PeerWorld) (t : PeerTrace) (number : ℕ) (bytes : List ℕ) → old.messages ≡ [] → PeersRan old t new →
    slice_get new.messages number ≡ Some bytes → IsMadeWithoutSecrets old t number bytes

-- ---- messages above what is held

-- they are refused for want of memory alone
abbrev pub AboveHeldIsRefusedForMemoryAlone : Type 0
AboveHeldIsRefusedForMemoryAlone =
    (now new : PeerWorld) (place number : ℕ) (refusal : EventRefusal PeerRefusal Fault) → IsAboveHeld now place number →
    Refuses peer_state peer_words now (Take place number) refusal new → IsMemory peer_state peer_words refusal

-- and once one is accepted, the peer holds all that its scope named at its maker, under the maker's pins
abbrev pub AboveHeldBringsWhatWasNamed : Type 0
AboveHeldBringsWhatWasNamed =
    (now new : PeerWorld) (place number : ℕ) (change : ChangeValue) (part : PartValue) →
    (h : IsAboveHeld now place number) →
    Accepts peer_state peer_words now (Take place number) change part new →
    (next : KeptValue) × (slice_get new.nodes place ≡ Some next)
    × HoldsNamed (content_of h.maker.replica) h.maker.pins h.ask.scope (content_of next.replica)

-- ---- what marks change

-- the peer at the place holds what it held, and has the pins that the mark leaves; no other peer and no message changes
pub record IsMarkedAlone (old : PeerWorld) (at : ℕ) (mark : Mark) (new : PeerWorld) : Type 0 where
  pub before : KeptValue
  pub after : KeptValue
  pub was : slice_get old.nodes at ≡ Some before
  pub now : slice_get new.nodes at ≡ Some after
  pub replica : after.replica ≡ before.replica
  pub pins : ArePinsAfter mark before.pins after.pins
  pub others : (place : ℕ) → (place ≡ at → ⊥) → slice_get new.nodes place ≡ slice_get old.nodes place
  pub messages : new.messages ≡ old.messages

-- a mark that is set changes the pins of one peer, by the changeset that it names, and nothing else
abbrev pub MarksChangePinsOfOnePeerAlone : Type 0
MarksChangePinsOfOnePeerAlone =
    (old new : PeerWorld) (at : ℕ) (mark : Mark) (part : Option PartValue) →
    Happens peer_state peer_words old (event.Mark at mark) Marked part new → IsMarkedAlone old at mark new

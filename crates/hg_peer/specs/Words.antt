-- The words of peers, as runs use them.
use Rattle.std.specs.Prelude.{◌≡◌, ℕ, List, Bool, false}
use Rattle.hg_join.specs.declared.state.JoinState.{Ghosts as StateWords}
use Rattle.hg_join.specs.declared.actor.Actor.{Ghosts as ActorWords}
use Rattle.hg_changeset.specs.declared.node.Node.{Node}
use Rattle.hg_history.specs.declared.fault.Fault.{Fault}
use Rattle.hg_history.specs.declared.fault.Fault.TheVariants as fault
use Rattle.hg_replica.specs.Least.{PartValue}
use Rattle.hg_replica.specs.Change.{ChangeValue}
use Rattle.hg_replica.specs.Content.{Content, content_of, IsValidContent, ContentBelow, ContentsJoined, ContentsCollide}
use Rattle.hg_replica.specs.Content.{ContentCovers, ContentAdmits, ContentAfter, IsContentFault}
use Rattle.hg_view.specs.Kept.{KeptValue}
use Rattle.hg_rewrite.specs.declared.op.Op.{Op}
use Rattle.hg_world.specs.declared.event.Event.{Event}
use Rattle.hg_world.specs.declared.event.Answer.{Answer}
use Rattle.hg_world.specs.Runs.{Snapshot, Trace, Ran, accepted_in}
use Rattle.hg_peer.specs.declared.ask.Ask.{Ask}
use Rattle.hg_peer.specs.declared.mark.Mark.{Mark}
use Rattle.hg_peer.specs.declared.refusal.PeerRefusal.{PeerRefusal}
use Rattle.hg_peer.specs.Marks.{own, Tells, Marks, IsAgainstMark}
use Rattle.hg_peer.specs.Peers.{Decides, IsAgainstOperation, Offers, IsAgainstOffer, SpellsPart, IsAgainstBytes}
use Rattle.hg_peer.specs.Peers.{IsMemory}

-- as a state that joins: those of its replica, and what it absorbs leaves its pins
abbrev pub peer_state : StateWords KeptValue PartValue ChangeValue Fault
peer_state = record {
  Content = Content;
  content = λ s. content_of s.replica;
  IsValid = IsValidContent;
  Below = ContentBelow;
  Joined = ContentsJoined;
  Collides = ContentsCollide;
  PartContent = PartValue;
  part_content = λ part. part;
  Covers = ContentCovers;
  Admits = ContentAdmits;
  After = ContentAfter;
  IsFirstFault = IsContentFault;
  Tells = Tells;
  IsWantOfMemory = λ cause. cause ≡ fault.NoMemory;
}

-- as a state that acts
abbrev pub peer_words : ActorWords KeptValue Op Ask Mark PeerRefusal PartValue ChangeValue Fault
peer_words = record {
  Own = Node → Bool;
  owned = own;
  own_of_empty = λ n. false;
  Decides = Decides;
  IsAgainstOp = IsAgainstOperation;
  Offers = Offers;
  IsAgainstAsk = IsAgainstOffer;
  Marks = Marks;
  IsAgainstMark = IsAgainstMark;
  Spells = SpellsPart;
  IsAgainstBytes = IsAgainstBytes;
  IsRefusalOfMemory = IsMemory;
}

-- ---- worlds of peers

abbrev pub PeerEvent : Type 0
PeerEvent = Event Op Ask Mark

abbrev pub PeerAnswer : Type 0
PeerAnswer = Answer ChangeValue PeerRefusal Fault

abbrev pub PeerWorld : Type 0
PeerWorld = Snapshot KeptValue

abbrev pub PeerTrace : Type 0
PeerTrace = Trace Op Ask Mark PartValue ChangeValue PeerRefusal Fault

-- the trace may be that of what happened from old to new
abbrev pub PeersRan : PeerWorld → PeerTrace → PeerWorld → Type 0
PeersRan old t new = Ran peer_state peer_words old t new

-- what the peer at a place accepted, in order
abbrev pub accepted_by : PeerTrace → ℕ → List PartValue
accepted_by t place = accepted_in peer_state t place

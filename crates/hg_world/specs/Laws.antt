-- What holds of every run.
use Rattle.std.specs.Prelude.{◌≡◌, ◌↔◌, ◌+◌, ℕ, Option, Some, None, List, [], ◌++◌, length, slice_get}
use Rattle.hg_join.specs.declared.state.JoinState.{Ghosts as StateWords}
use Rattle.hg_join.specs.declared.actor.Actor.{Ghosts as ActorWords}
use Rattle.hg_join.specs.Order.{IsLeastOf}
use Rattle.hg_world.specs.declared.event.Event.{Event}
use Rattle.hg_world.specs.declared.event.Event.TheVariants.{Local, Offer, Take, Mark}
use Rattle.hg_world.specs.declared.event.EventRefusal.{EventRefusal}
use Rattle.hg_world.specs.declared.event.EventRefusal.TheVariants.{NoNode, NoMessage}
use Rattle.hg_world.specs.declared.event.Answer.{Answer}
use Rattle.hg_world.specs.declared.event.Answer.TheVariants.{Accepted, Offered, Marked, Refused}
use Rattle.hg_world.specs.Runs.{Snapshot, Trace, joined, AskAndAnswerTheSame, place_of, AllValid, AllEmpty, AllLeast}
use Rattle.hg_world.specs.Runs.{accepted_in, CoversAllOf, AllUnmarked, IsMemory, Happens, Ran}
use Rattle.hg_world.specs.Alike.{HaveSameContents, HaveSameOwn, AreAlike, SayAlike}
use Rattle.hg_world.specs.Made.{IsMade}

-- the event is no mark
abbrev pub IsNoMark : {O A M : Type 0} → Event O A M → Type 0
IsNoMark (Local at op) = Unit {0}
IsNoMark (Offer at ask) = Unit {0}
IsNoMark (Take at message) = Unit {0}
IsNoMark (Mark at mark) = ⊥

module _ {S O A M R P C F : Type 0} (J : StateWords S P C F) (W : ActorWords S O A M R P C F) where
  -- ---- what becomes of the nodes

  -- each node is the least valid state above what it was that covers what it accepted
  abbrev pub NodesAreLeast : Type 0
  NodesAreLeast =
      (old new : Snapshot S) (t : Trace O A M P C R F) → AllValid J old → Ran J W old t new →
      AllLeast J old t.events t.parts new

  -- each node stays in a valid state
  abbrev pub NodesStayValid : Type 0
  NodesStayValid =
      (old new : Snapshot S) (t : Trace O A M P C R F) → AllValid J old → Ran J W old t new → AllValid J new

  -- the nodes are as many as before
  abbrev pub NodesStayAsMany : Type 0
  NodesStayAsMany =
      (old new : Snapshot S) (t : Trace O A M P C R F) → Ran J W old t new → length new.nodes ≡ length old.nodes

  -- from empty nodes on, each node is the least of all valid states that cover what it accepted
  abbrev pub NodesAreLeastOfAll : Type 0
  NodesAreLeastOfAll =
      (old new : Snapshot S) (t : Trace O A M P C R F) (place : ℕ) (node : S) → AllEmpty J old → Ran J W old t new →
      slice_get new.nodes place ≡ Some node →
      IsLeastOf J.IsValid J.Below J.Covers (accepted_in J t place) (J.content node)

  -- from empty nodes on, nodes that cover each other's accepted parts have one content
  abbrev pub CoveringNodesAgree : Type 0
  CoveringNodesAgree =
      (old new : Snapshot S) (t : Trace O A M P C R F) (a b : ℕ) (first second : S) → AllEmpty J old →
      Ran J W old t new → slice_get new.nodes a ≡ Some first → slice_get new.nodes b ≡ Some second →
      CoversAllOf J t b first → CoversAllOf J t a second → J.content first ≡ J.content second

  -- ---- runs and messages

  -- two runs, one after the other, are one
  abbrev pub RunsCompose : Type 0
  RunsCompose =
      (old mid new : Snapshot S) (t u : Trace O A M P C R F) → Ran J W old t mid → Ran J W mid u new →
      Ran J W old (joined t u) new

  -- the messages before a run stay, and each that comes after them was made by an event of it
  abbrev pub MessagesAreOffers : Type 0
  MessagesAreOffers =
      (old new : Snapshot S) (t : Trace O A M P C R F) → Ran J W old t new →
      (added : List (List ℕ)) × (new.messages ≡ old.messages ++ added)
      × ((i : ℕ) (bytes : List ℕ) → slice_get added i ≡ Some bytes → IsMade J W old t (length old.messages + i) bytes)

  -- ---- answers

  -- a missing node is told where there is none, and nowhere else
  abbrev pub NoNodeIsExact : Type 0
  NoNodeIsExact =
      (old new : Snapshot S) (event : Event O A M) (answer : Answer C R F) (part : Option P) →
      Happens J W old event answer part new → (answer ≡ Refused NoNode) ↔ (slice_get old.nodes (place_of event) ≡ None)

  -- a missing message is told where there is a node and no message, and nowhere else
  abbrev pub NoMessageIsExact : Type 0
  NoMessageIsExact =
      (old new : Snapshot S) (at message : ℕ) (node : S) (answer : Answer C R F) (part : Option P) →
      Happens J W old (Take at message) answer part new → slice_get old.nodes at ≡ Some node →
      (answer ≡ Refused NoMessage) ↔ (slice_get old.messages message ≡ None)

  -- what may be accepted is refused for want of memory alone
  abbrev pub AcceptedIsExact : Type 0
  AcceptedIsExact =
      (old new : Snapshot S) (event : Event O A M) (change : C) (refusal : EventRefusal R F) (part other : Option P)
      (next : Snapshot S) → AllValid J old → Happens J W old event (Accepted change) part new →
      Happens J W old event (Refused refusal) other next → IsMemory J W refusal

  -- what may be offered is refused for want of memory alone
  abbrev pub OfferedIsExact : Type 0
  OfferedIsExact =
      (old new : Snapshot S) (event : Event O A M) (number : ℕ) (refusal : EventRefusal R F) (part other : Option P)
      (next : Snapshot S) → AllValid J old → Happens J W old event (Offered number) part new →
      Happens J W old event (Refused refusal) other next → IsMemory J W refusal

  -- what may be marked is refused for want of memory alone
  abbrev pub MarkedIsExact : Type 0
  MarkedIsExact =
      (old new : Snapshot S) (event : Event O A M) (refusal : EventRefusal R F) (part other : Option P)
      (next : Snapshot S) → Happens J W old event Marked part new → Happens J W old event (Refused refusal) other next →
      IsMemory J W refusal

  -- ---- marks

  -- whatever a mark is answered, each node has the content that it had, each but the one at its place is the very state
  -- that it was, and the messages stay
  abbrev pub MarksSayNothing : Type 0
  MarksSayNothing =
      (old new : Snapshot S) (at : ℕ) (mark : M) (answer : Answer C R F) (part : Option P) →
      Happens J W old (Mark at mark) answer part new →
      HaveSameContents J W new old
      × ((place : ℕ) → (place ≡ at → ⊥) → slice_get new.nodes place ≡ slice_get old.nodes place)
      × (new.messages ≡ old.messages)

  -- an event that is no mark leaves what is each node's own
  abbrev pub OthersLeaveOwn : Type 0
  OthersLeaveOwn =
      (old new : Snapshot S) (event : Event O A M) (answer : Answer C R F) (part : Option P) → IsNoMark event →
      Happens J W old event answer part new → HaveSameOwn J W new old

  -- ---- worlds that can't be told apart

  -- they can't be told apart after the same events and answers either
  abbrev pub AlikeStayAlike : Type 0
  AlikeStayAlike =
      (old new first last : Snapshot S) (t u : Trace O A M P C R F) → AskAndAnswerTheSame t u →
      AllValid J old → AllValid J first → AreAlike J W old first → Ran J W old t new → Ran J W first u last →
      AreAlike J W new last

  -- and each node accepted the same in both
  abbrev pub AlikeAcceptAlike : Type 0
  AlikeAcceptAlike =
      (old new first last : Snapshot S) (t u : Trace O A M P C R F) (place : ℕ) → AskAndAnswerTheSame t u →
      AllValid J old → AllValid J first → AreAlike J W old first → Ran J W old t new → Ran J W first u last →
      SayAlike J W (accepted_in J t place) (accepted_in J u place)

  -- a world can't be told apart from itself
  abbrev pub AllAreAlikeThemselves : Type 0
  AllAreAlikeThemselves = (old : Snapshot S) → AreAlike J W old old

  -- new worlds of as many nodes can't be told apart
  abbrev pub NewAreAlike : Type 0
  NewAreAlike =
      (old first : Snapshot S) → AllEmpty J old → AllEmpty J first → AllUnmarked J W old → AllUnmarked J W first →
      length old.nodes ≡ length first.nodes → old.messages ≡ [] → first.messages ≡ [] → AreAlike J W old first

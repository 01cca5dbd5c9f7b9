-- What goes out, found by place and not copied yet, and the answers to the calls that find, copy and write it.
use Rattle.std.specs.Prelude.{◌≡◌, ◌↔◌, ℕ, true, false, List, Bool, length, slice_get, Some, Contains, Result, Ok, Err}
use Rattle.hg_changeset.specs.declared.node.Node.{Node}
use Rattle.hg_graph.specs.Marks.{IsMarkedNode}
use Rattle.hg_graph.specs.Places.{IsAncestorPlace}
use Rattle.hg_phases.specs.State.{changesets}
use Rattle.hg_obsstore.specs.Places.{ListsAll}
use Rattle.hg_replica.specs.State.{ReplicaState}
use Rattle.hg_replica.specs.Content.{content_of}
use Rattle.hg_view.specs.Kept.{KeptValue}
use Rattle.hg_view.specs.HeadPlaces.{IsHeadAmong, IsServedAt}
use Rattle.hg_message.specs.declared.scope.Scope.{Scope}
use Rattle.hg_message.specs.declared.refusal.OfferRefusal.{OfferRefusal}
use Rattle.hg_message.specs.declared.refusal.OfferRefusal.TheVariants.{UnknownCommon, TooLarge, NoMemory}
use Rattle.hg_message.specs.Value.{MessageValue, is_too_large}
use Rattle.hg_message.specs.Spelling.{message_spelling}
use Rattle.hg_message.specs.Offer.{AreHeld, IsFirstUnknown, IsOfferOf, HasNothing}

-- a mark for each place, which tells whether the changeset there is one of these
pub record AreMarksOf (s : ReplicaState) (P : Node → Type 0) (marks : List Bool) : Type 0 where
  pub len : length marks ≡ length (changesets s.history)
  pub exact : (n : Node) → IsMarkedNode (changesets s.history) marks n ↔ P n

-- exactly the places of those that are so, each once, ascending
abbrev pub ArePlacesOf : {X : Type 0} → (X → Type 0) → List X → List ℕ → Type 0
ArePlacesOf {X = X} P xs places = ListsAll (λ i. (x : X) × (slice_get xs i ≡ Some x) × P x) places

-- exactly the heads of what is served stand at the places: each is served and has no served child, and what is served
-- is one of them or an ancestor of one
pub record AreServedHeads (k : KeptValue) (places : List ℕ) : Type 0 where
  pub exact : (i : ℕ) → Contains places i ↔ IsHeadAmong (changesets k.replica.history) (IsServedAt k.replica k.pins) i
  pub covers : (i : ℕ) → IsServedAt k.replica k.pins i
      → (h : ℕ) × Contains places h × IsAncestorPlace (changesets k.replica.history) i h

-- the answer to `Outgoing::above`; memory can be wanting only where each common node is held, and a changeset or, of
-- the whole, a marker
abbrev pub FindAnswer : ReplicaState → List Node → List Node → Scope → Result MessageValue OfferRefusal → Type 0
FindAnswer s pins common scope (Ok found) = AreHeld (content_of s) common × IsOfferOf s pins common scope found
FindAnswer s pins common scope (Err (UnknownCommon n)) = IsFirstUnknown (content_of s) common n
FindAnswer s pins common scope (Err TooLarge) = ⊥
FindAnswer s pins common scope (Err NoMemory) = AreHeld (content_of s) common × ¬ (HasNothing s scope)

-- the answer to a call that makes something of what was found: what is too large is told so, and memory can be wanting
-- only for what isn't
abbrev pub MakeAnswer : {A : Type 0} → MessageValue → (A → Type 0) → Result A OfferRefusal → Type 0
MakeAnswer found P (Ok x) = (is_too_large found ≡ false) × P x
MakeAnswer found P (Err (UnknownCommon n)) = ⊥
MakeAnswer found P (Err TooLarge) = is_too_large found ≡ true
MakeAnswer found P (Err NoMemory) = is_too_large found ≡ false

-- the answer to `Outgoing::message`: an equal message is made
abbrev pub CopyAnswer : MessageValue → Result MessageValue OfferRefusal → Type 0
CopyAnswer found = MakeAnswer found (λ m. m ≡ found)

-- the answer to `Outgoing::to_bytes`: what is written of the message is made
abbrev pub WriteAnswer : {A : Type 0} → (A → List ℕ) → MessageValue → Result A OfferRefusal → Type 0
WriteAnswer bytes found = MakeAnswer found (λ x. bytes x ≡ message_spelling found)

-- What a replica offers, under the pins of its node, to one that has some common nodes: first over what it contains,
-- free of order, and then in which order it stands.
use Rattle.std.specs.Prelude.{◌≡◌, ℕ, true, List, [], ◌++◌, map, take, slice_get, Some, Contains, ◌↔◌}
use Rattle.std.specs.Prelude.{Result, Ok, Err}
use Rattle.std.specs.List.Sorted.{IsStrictlySortedBy}
use Rattle.hg_changeset.specs.declared.node.Node.{Node}
use Rattle.hg_changeset.specs.Node.{node_cmp}
use Rattle.hg_changeset.specs.Contents.{Contents}
use Rattle.hg_changeset.specs.Changeset.{node_of}
use Rattle.hg_phases.specs.declared.phase.Phase.{Phase}
use Rattle.hg_phases.specs.declared.phase.Phase.TheVariants.{Public, Draft}
use Rattle.hg_phases.specs.State.{changesets}
use Rattle.hg_marker.specs.Fields.{Fields}
use Rattle.hg_history.specs.Content.{IsHeld, IsHeldAs, Leads}
use Rattle.hg_relevant.specs.Relevant.{IsRelevant}
use Rattle.hg_replica.specs.State.{ReplicaState}
use Rattle.hg_replica.specs.Content.{Content, content_of}
use Rattle.hg_replica.specs.Evolution.{HasPhase, IsMarker}
use Rattle.hg_view.specs.Pins.{IsServedUnder}
use Rattle.hg_view.specs.Share.{IsShared}
use Rattle.hg_message.specs.declared.scope.Scope.{Scope}
use Rattle.hg_message.specs.declared.scope.Scope.TheVariants.{Served, Whole}
use Rattle.hg_message.specs.declared.refusal.OfferRefusal.{OfferRefusal}
use Rattle.hg_message.specs.declared.refusal.OfferRefusal.TheVariants.{UnknownCommon, TooLarge, NoMemory}
use Rattle.hg_message.specs.Value.{MessageValue, is_too_large}
use Rattle.hg_message.specs.Those.{AreThose}

-- ---- over what a replica contains

-- each common node is held
abbrev pub AreHeld : Content → List Node → Type 0
AreHeld f common = (k : Node) → Contains common k → IsHeld f.0 k

-- a common node, or an ancestor of one
abbrev pub IsCommon : Content → List Node → Node → Type 0
IsCommon f common n = (k : Node) × Contains common k × Leads f.0 n k

-- what the scope names: what is served under the pins, or all that isn't secret
abbrev pub IsNamed : Content → List Node → Scope → Node → Type 0
IsNamed f pins Served n = IsServedUnder f pins n
IsNamed f pins Whole n = IsShared f n

-- the markers that it names: those relevant to what is served under the pins, or all
abbrev pub IsNamedMarker : Content → List Node → Scope → Fields → Type 0
IsNamedMarker f pins Served m = IsRelevant (IsMarker f) (IsServedUnder f pins) m
IsNamedMarker f pins Whole m = IsMarker f m

-- a changeset that is one of these and isn't common: Mercurial's outgoing
abbrev pub IsOutgoing : Content → (Node → Type 0) → List Node → Contents → Type 0
IsOutgoing f P common c = IsHeldAs f.0 (node_of c) c × P (node_of c) × ¬ (IsCommon f common (node_of c))

-- one of these, with this phase
abbrev pub IsOneWith : Content → (Node → Type 0) → Phase → Node → Type 0
IsOneWith f P phase n = P n × HasPhase f n phase

-- so, and without a descendant that is so
abbrev pub IsHead : Content → (Node → Type 0) → Node → Type 0
IsHead f P n = P n × ((d : Node) → P d → Leads f.0 n d → d ≡ n)

-- the bound that tells the phase of a head of those with this phase
abbrev pub IsOfferedBound : Content → (Node → Type 0) → Node × Phase → Type 0
IsOfferedBound f P b = IsHead f (IsOneWith f P b.1) b.0

-- the message says exactly what is offered of its scope, in whatever order and however often
pub record SaysOffer (f : Content) (pins common : List Node) (m : MessageValue) : Type 0 where
  pub changesets : (c : Contents) → Contains m.changesets c ↔ IsOutgoing f (IsNamed f pins m.scope) common c
  pub bounds : (b : Node × Phase) → Contains m.bounds b ↔ IsOfferedBound f (IsNamed f pins m.scope) b
  pub markers : (k : Fields) → Contains m.markers k ↔ IsNamedMarker f pins m.scope k

-- the same changesets, bounds and markers, in whatever order and however often
pub record SayTheSame (m n : MessageValue) : Type 0 where
  pub changesets : (c : Contents) → Contains m.changesets c ↔ Contains n.changesets c
  pub bounds : (b : Node × Phase) → Contains m.bounds b ↔ Contains n.bounds b
  pub markers : (k : Fields) → Contains m.markers k ↔ Contains n.markers k

-- ---- in which order

-- the heads of what is so, ascending
pub record AreHeads (f : Content) (P : Node → Type 0) (heads : List Node) : Type 0 where
  pub exact : (n : Node) → Contains heads n ↔ IsHead f P n
  pub ascending : IsStrictlySortedBy node_cmp heads

-- a bound in this phase on each of the nodes
abbrev pub bounds_in : Phase → List Node → List (Node × Phase)
bounds_in phase nodes = map (λ n. (n, phase)) nodes

-- the public heads of these, and then the draft ones
pub record AreOfferedBounds (f : Content) (P : Node → Type 0) (bounds : List (Node × Phase)) : Type 0 where
  pub public : List Node
  pub draft : List Node
  pub public_heads : AreHeads f (IsOneWith f P Public) public
  pub draft_heads : AreHeads f (IsOneWith f P Draft) draft
  pub both : bounds ≡ bounds_in Public public ++ bounds_in Draft draft

-- the offer that a replica makes of the message's scope: it says what is offered, the changesets in the graph's order,
-- and the markers in the store's
pub record IsOffer (s : ReplicaState) (pins common : List Node) (m : MessageValue) : Type 0 where
  pub says : SaysOffer (content_of s) pins common m
  pub changesets :
      AreThose (IsOutgoing (content_of s) (IsNamed (content_of s) pins m.scope) common) (changesets s.history)
      m.changesets
  pub bounds : AreOfferedBounds (content_of s) (IsNamed (content_of s) pins m.scope) m.bounds
  pub markers : AreThose (IsNamedMarker (content_of s) pins m.scope) s.markers m.markers

-- the offer of this scope
abbrev pub IsOfferOf : ReplicaState → List Node → List Node → Scope → MessageValue → Type 0
IsOfferOf s pins common scope m = IsOffer s pins common m × (m.scope ≡ scope)

-- the first of the common nodes that isn't held
abbrev pub IsFirstUnknown : Content → List Node → Node → Type 0
IsFirstUnknown f common n = (i : ℕ) × (slice_get common i ≡ Some n) × ¬ (IsHeld f.0 n) × AreHeld f (take i common)

-- there is no changeset, and, where all markers are named, no marker
abbrev pub HasNothing : ReplicaState → Scope → Type 0
HasNothing s Served = changesets s.history ≡ []
HasNothing s Whole = (changesets s.history ≡ []) × (s.markers ≡ [])

-- the answer to `offer`; memory can be wanting only where each common node is held, and a changeset or, of the whole, a
-- marker
abbrev pub OfferAnswer : ReplicaState → List Node → List Node → Scope → Result MessageValue OfferRefusal → Type 0
OfferAnswer s pins common scope (Ok m) = AreHeld (content_of s) common × IsOfferOf s pins common scope m
OfferAnswer s pins common scope (Err (UnknownCommon n)) = IsFirstUnknown (content_of s) common n
OfferAnswer s pins common scope (Err TooLarge) = AreHeld (content_of s) common
    × ((m : MessageValue) × IsOfferOf s pins common scope m × (is_too_large m ≡ true))
OfferAnswer s pins common scope (Err NoMemory) = AreHeld (content_of s) common × ¬ (HasNothing s scope)

-- What a history contains, free of the order in which it came.
use Rattle.std.specs.Prelude.{◌≡◌, ◌≢◌, ◌≤◌, ℕ, Option, Some, None, List, take, slice_get, Contains, ◌⊎◌, ◌↔◌}
use Rattle.hg_changeset.specs.declared.node.Node.{Node}
use Rattle.hg_changeset.specs.Contents.{Contents}
use Rattle.hg_changeset.specs.Changeset.{node_of, IsChangeset}
use Rattle.hg_graph.specs.Graph.{IsParent}
use Rattle.hg_phases.specs.declared.phase.Phase.{Phase}
use Rattle.hg_phases.specs.declared.phase.Phase.TheVariants.{Public, Draft, Secret}
use Rattle.hg_phases.specs.State.{Held, rank}
use Rattle.hg_phases.specs.Least.{PartValue, IsLowest}
use Rattle.hg_history.specs.declared.fault.Fault.{Fault}
use Rattle.hg_history.specs.declared.fault.Fault.TheVariants.{Collision}
use Rattle.hg_history.specs.Answer.{IsFirstFault}

-- for each id the changeset and its phase, where it is held
abbrev pub Content : Type 0
Content = Node → Option Held

-- a changeset is held under this id
abbrev pub IsHeld : Content → Node → Type 0
IsHeld f n = (h : Held) × (f n ≡ Some h)

-- this changeset is held under this id
abbrev pub IsHeldAs : Content → Node → Contents → Type 0
IsHeldAs f n c = (h : Held) × (f n ≡ Some h) × (h.changeset ≡ c)

-- zero or more parent steps lead from n to a
pub data Leads (f : Content) (a : Node) : Node → Type 0 where
  itself : Leads f a a
  below : {n p : Node} {h : Held} → Leads f a p → f n ≡ Some h → IsParent h.changeset p → Leads f a n

-- parent steps from n come to an end, whichever are taken. So the ancestors of n have an order in which every parent
-- comes first, though the content keeps none
pub data IsGrounded (f : Content) : Node → Type 0 where
  grounded : {n : Node} → ((h : Held) (p : Node) → f n ≡ Some h → IsParent h.changeset p → IsGrounded f p)
      → IsGrounded f n

-- changesets stand under their ids; each parent is held, with a phase no higher; and no parent steps go on without end
pub record IsValidContent (f : Content) : Type 0 where
  pub named : (n : Node) (h : Held) → f n ≡ Some h → (node_of h.changeset ≡ n) × IsChangeset h.changeset
  pub parents : (n : Node) (h : Held) (p : Node) → f n ≡ Some h → IsParent h.changeset p
      → (g : Held) × (f p ≡ Some g) × (rank g.phase ≤ rank h.phase)
  pub grounded : (n : Node) → IsGrounded f n

-- what a holds b holds as well, the same changeset, with a phase no higher
abbrev pub IsBelowAt : Option Held → Option Held → Type 0
IsBelowAt a b = (h : Held) → a ≡ Some h → (g : Held) × (b ≡ Some g) × (g.changeset ≡ h.changeset)
    × (rank g.phase ≤ rank h.phase)

-- what f holds g holds as well, the same changesets, with phases no higher
abbrev pub ContentBelow : Content → Content → Type 0
ContentBelow f g = (n : Node) → IsBelowAt (f n) (g n)

-- the lower of two phases
abbrev pub lower : Phase → Phase → Phase
lower Public k = Public
lower Draft Public = Public
lower Draft Draft = Draft
lower Draft Secret = Draft
lower Secret k = k

-- what either holds, with the lower phase where both do
abbrev pub joined : Option Held → Option Held → Option Held
joined None b = b
joined (Some h) None = Some h
joined (Some h) (Some g) = Some (record { changeset = h.changeset; phase = lower h.phase g.phase })

-- where both hold one, it is one changeset
abbrev pub AgreeAt : Option Held → Option Held → Type 0
AgreeAt a b = (h g : Held) → a ≡ Some h → b ≡ Some g → h.changeset ≡ g.changeset

-- under no id two changesets are held, and the third holds what either holds, each with the lowest phase that either
-- gives it
abbrev pub ContentsJoined : Content → Content → Content → Type 0
ContentsJoined f g j = ((n : Node) → AgreeAt (f n) (g n)) × (j ≡ (λ n. joined (f n) (g n)))

-- the fault names an id under which two changesets are held
abbrev pub ContentsCollide : Content → Content → Fault → Type 0
ContentsCollide f g fault = (n : Node) × (h : Held) × (k : Held) × (f n ≡ Some h) × (g n ≡ Some k)
    × (h.changeset ≢ k.changeset) × (fault ≡ Collision n)

-- the content holds what the part holds, and keeps its bounds
pub record ContentCovers (f : Content) (k : PartValue) : Type 0 where
  pub holds : (c : Contents) → Contains k.changesets c → IsHeldAs f (node_of c) c
  pub bounded : (b : Node × Phase) → Contains k.bounds b
      → IsHeld f b.0 × ((n : Node) (h : Held) → f n ≡ Some h → Leads f n b.0 → rank h.phase ≤ rank b.1)

-- held, or the id of one of these changesets
abbrev pub IsHeldWith : Content → List Contents → Node → Type 0
IsHeldWith f cs n = IsHeld f n ⊎ ((c : Contents) × Contains cs c × (node_of c ≡ n))

-- the part can be absorbed: each parent is held or comes earlier, each bound's node is held or comes with it, and no
-- two changesets collide
pub record ContentAdmits (f : Content) (k : PartValue) : Type 0 where
  pub each : (c : Contents) → Contains k.changesets c → IsChangeset c
  pub parents : (i : ℕ) (c : Contents) → slice_get k.changesets i ≡ Some c → (p : Node) → IsParent c p
      → IsHeldWith f (take i k.changesets) p
  pub bounds : (b : Node × Phase) → Contains k.bounds b → IsHeldWith f k.changesets b.0
  pub apart : (c d : Contents) → Contains k.changesets c → IsHeldAs f (node_of d) d ⊎ Contains k.changesets d
      → node_of c ≡ node_of d → c ≡ d

-- what may decide the phase under n: secret, the phase there was, and each bound on n or on a descendant of it
abbrev pub IsContentCandidate : Content → PartValue → Content → Node → Phase → Type 0
IsContentCandidate f k g n phase =
    (phase ≡ Secret)
    ⊎ (((h : Held) × (f n ≡ Some h) × (h.phase ≡ phase))
    ⊎ ((b : Node × Phase) × Contains k.bounds b × Leads g n b.0 × (b.1 ≡ phase)))

-- the part can be absorbed, and g is f with it: the union of the changesets, and for each the lowest of the phases that
-- f and the bounds give it
pub record ContentAfter (f : Content) (k : PartValue) (g : Content) : Type 0 where
  pub admitted : ContentAdmits f k
  pub union : (n : Node) (c : Contents)
      → IsHeldAs g n c ↔ (IsHeldAs f n c ⊎ (Contains k.changesets c × (node_of c ≡ n)))
  pub phases : (n : Node) (h : Held) → g n ≡ Some h → IsLowest (IsContentCandidate f k g n) h.phase

-- exactly the changesets that are held, in whatever order
abbrev pub IsListing : Content → List Contents → Type 0
IsListing f cs = (c : Contents) → Contains cs c ↔ IsHeldAs f (node_of c) c

-- what is first wrong with a part: its changesets are tried in their order, then its bounds
abbrev pub IsContentFault : Content → PartValue → Fault → Type 0
IsContentFault f k fault = (held : List Contents) × IsListing f held × IsFirstFault held k fault

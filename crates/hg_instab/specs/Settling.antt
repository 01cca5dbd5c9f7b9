-- Walks that ask at places, one after the other, until none waits.
use Rattle.std.specs.Prelude.{◌≡◌, ◌≢◌, ◌↔◌, ◌⊎◌, ◌<◌, ℕ, List, length, Option, MatchOption, Contains}
use Rattle.hg_changeset.specs.declared.node.Node.{Node}
use Rattle.hg_changeset.specs.Contents.{Contents}
use Rattle.hg_graph.specs.Graph.{Holds}
use Rattle.hg_graph.specs.Places.{IsAt, IsParentPlace}
use Rattle.hg_graph.specs.Waiting.{Widens, IsOneOf}
use Rattle.hg_replica.specs.Content.{Content}
use Rattle.hg_instab.specs.declared.settling.Kind.{Kind}
use Rattle.hg_instab.specs.declared.settling.Kind.TheVariants.{Orphan, Extinct}
use Rattle.hg_instab.specs.declared.waiting.Beside.{Beside}
use Rattle.hg_instab.specs.declared.waiting.Beside.TheVariants.{Children, Parents}
use Rattle.hg_instab.specs.Changed.{IsNow}
use Rattle.hg_instab.specs.Local.{StandsUnstably, HoldsNothing}

-- the node changes sides, and no other does
abbrev pub IsTurned : Node → List Node → List Node → Type 0
IsTurned node old new = (n : Node)
    → Contains new n ↔ ((Contains old n × (n ≢ node)) ⊎ (¬ (Contains old n) × (n ≡ node)))

-- the place k is that of a child of what stands at j, or of a parent
abbrev pub IsBeside : Beside → List Contents → ℕ → ℕ → Type 0
IsBeside Children cs j k = IsParentPlace cs k j
IsBeside Parents cs j k = IsParentPlace cs j k

-- the place is so beside one of the places
abbrev pub IsBesideOne : Beside → List Contents → List ℕ → ℕ → Type 0
IsBesideOne beside cs places k = (j : ℕ) × Contains places j × IsBeside beside cs j k

-- the places wait, and what is so beside the others
abbrev pub WaitFrom : Beside → List Contents → List ℕ → List ℕ → List ℕ → Type 0
WaitFrom beside cs places others waiting = (k : ℕ)
    → Contains waiting k ↔ (Contains places k ⊎ IsBesideOne beside cs others k)

-- ---- by kind

-- it is so of a changeset, by what is so of others
abbrev pub IsSoBy : Kind → Content → (Node → Type 0) → Node → Type 0
IsSoBy Orphan f = StandsUnstably f
IsSoBy Extinct f = HoldsNothing f

-- where those stand of which it is told by what is so here
abbrev pub beside_of : Kind → Beside
beside_of Orphan = Children
beside_of Extinct = Parents

-- the place k is asked after j
abbrev pub IsLater : Kind → ℕ → ℕ → Type 0
IsLater Orphan j k = j < k
IsLater Extinct j k = k < j

-- of what waits one is taken, if any waits, and the rest comes later
abbrev pub TakesNext : Kind → List ℕ → List ℕ → Option ℕ → Type 0
TakesNext kind waiting rest taken = MatchOption taken
    ((k : ℕ) → ¬ (Contains waiting k))
    (λ place. IsOneOf (Contains waiting) place rest × ((k : ℕ) → Contains rest k → IsLater kind place k))

-- ---- the walk

-- P holds of whatever stands at the place
abbrev pub IsSoAt : List Contents → (Node → Type 0) → ℕ → Type 0
IsSoAt cs P k = (n : Node) → IsAt cs n k → P n

-- P holds of whatever stands at one of the places
abbrev pub IsAtEach : List Contents → List ℕ → (Node → Type 0) → Type 0
IsAtEach cs places P = (k : ℕ) → Contains places k → IsSoAt cs P k

-- of all that stands at places that don't wait, P holds exactly where it is told by P itself
abbrev pub IsToldBut : List Contents → ((Node → Type 0) → Node → Type 0) → (Node → Type 0) → List ℕ → Type 0
IsToldBut cs Told P waiting = (n : Node) (k : ℕ) → IsAt cs n k → ¬ (Contains waiting k) → P n ↔ Told P n

-- how far a walk has come: what waits is in the graph, and what was turned is held; and if in the set it was so of all
-- but the starts as it is told, it is so now of all that doesn't wait
pub record IsSettling (cs : List Contents) (Told : (Node → Type 0) → Node → Type 0) (set : List Node) (starts : List ℕ)
    (turned : List Node) (waiting : List ℕ) : Type 0 where
  pub within : (k : ℕ) → Contains waiting k → k < length cs
  pub held : (n : Node) → Contains turned n → Holds cs n
  pub told : IsToldBut cs Told (Contains set) starts → IsToldBut cs Told (IsNow set turned) waiting

-- at the place it is so now as it is told; and nothing was turned, or what stands there was, and what is so beside it
-- waits
pub record SettlesAt (cs : List Contents) (beside : Beside) (Told : (Node → Type 0) → Node → Type 0) (set : List Node)
    (place : ℕ) (turned : List Node) (waiting : List ℕ) (turned_now : List Node) (waiting_now : List ℕ) : Type 0 where
  pub here : (n : Node) → IsAt cs n place → IsNow set turned_now n ↔ Told (IsNow set turned_now) n
  pub spread : ((turned_now ≡ turned) × (waiting_now ≡ waiting)) ⊎ ((n : Node) × IsAt cs n place
      × IsTurned n turned turned_now × Widens (IsBeside beside cs place) waiting waiting_now)

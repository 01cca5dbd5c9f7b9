-- What `absorb` answers.
use Rattle.std.specs.Prelude.{◌≡◌, ◌≢◌, ◌<◌, ℕ, List, [], ◌∷◌, ◌++◌, take, length, slice_get, Some, Contains, Result}
use Rattle.std.specs.Prelude.{Ok, Err, ◌⊎◌}
use Rattle.std.specs.Cow.{cow_slice_items}
use Rattle.std.specs.declared.borrow.CowSlice.{CowSlice}
use Rattle.hg_changeset.specs.declared.node.Node.{Node}
use Rattle.hg_changeset.specs.Node.{null_node}
use Rattle.hg_changeset.specs.Contents.{Contents}
use Rattle.hg_changeset.specs.Changeset.{node_of}
use Rattle.hg_graph.specs.Graph.{nodes, HoldsParents}
use Rattle.hg_graph.specs.Answers.{IsFirstMissing, Collides, IsNew}
use Rattle.hg_phases.specs.declared.phase.Phase.{Phase}
use Rattle.hg_phases.specs.State.{State, changesets}
use Rattle.hg_phases.specs.Lowered.{IsAbove}
use Rattle.hg_phases.specs.Least.{PartValue, IsAdmitted, IsLeast}
use Rattle.hg_history.specs.declared.fault.Fault.{Fault}
use Rattle.hg_history.specs.declared.fault.Fault.TheVariants.{UnknownParent, Collision, UnknownBound, NullBound}
use Rattle.hg_history.specs.declared.fault.Fault.TheVariants.{NoMemory}
use Rattle.hg_history.specs.Change.{ChangeValue, unheld, ListsLowered}

-- the part of changesets, lent or moved in, and of bounds
abbrev pub part_with : {A : Type 0} → CowSlice Contents A → List (Node × Phase) → PartValue
part_with changesets bounds = record { changesets = cow_slice_items changesets; bounds = bounds }

-- each changeset of the part before the place i has its parents held, or before it, and collides with none
abbrev pub IsFineUpTo : List Contents → List Contents → ℕ → Type 0
IsFineUpTo held part i = (j : ℕ) (c : Contents) → j < i → slice_get part j ≡ Some c
    → HoldsParents (held ++ take j part) c × ¬ (Collides (held ++ take j part) c)

-- each bound before the place i has a node among these changesets
abbrev pub AreHeldUpTo : List Contents → List (Node × Phase) → ℕ → Type 0
AreHeldUpTo cs bounds i = (j : ℕ) (b : Node × Phase) → j < i → slice_get bounds j ≡ Some b → Contains (nodes cs) b.0

-- n is the node of the first bound whose node isn't among these changesets
pub record IsFirstUnheld (cs : List Contents) (bounds : List (Node × Phase)) (n : Node) : Type 0 where
  pub place : ℕ
  pub bound : Node × Phase
  pub at : slice_get bounds place ≡ Some bound
  pub before : AreHeldUpTo cs bounds place
  pub node : bound.0 ≡ n
  pub unheld : ¬ (Contains (nodes cs) n)

-- the first fault of the part, where these changesets are held: its changesets in their order, then its bounds
abbrev pub IsFirstFault : List Contents → PartValue → Fault → Type 0
IsFirstFault held k (UnknownParent p) = (i : ℕ) × (c : Contents) × (slice_get k.changesets i ≡ Some c)
    × IsFineUpTo held k.changesets i × IsFirstMissing (held ++ take i k.changesets) c p
IsFirstFault held k (Collision n) = (i : ℕ) × (c : Contents) × (slice_get k.changesets i ≡ Some c)
    × IsFineUpTo held k.changesets i × HoldsParents (held ++ take i k.changesets) c
    × Collides (held ++ take i k.changesets) c × (n ≡ node_of c)
IsFirstFault held k (UnknownBound n) = IsFineUpTo held k.changesets (length k.changesets)
    × IsFirstUnheld (held ++ k.changesets) k.bounds n × (n ≢ null_node)
IsFirstFault held k NullBound = IsFineUpTo held k.changesets (length k.changesets)
    × IsFirstUnheld (held ++ k.changesets) k.bounds null_node
IsFirstFault held k NoMemory = ⊥

-- the refusal tells the first fault of the part, or that memory was wanting
abbrev pub IsRefusal : List Contents → PartValue → Fault → Type 0
IsRefusal held k (UnknownParent p) = IsFirstFault held k (UnknownParent p)
IsRefusal held k (Collision n) = IsFirstFault held k (Collision n)
IsRefusal held k (UnknownBound n) = IsFirstFault held k (UnknownBound n)
IsRefusal held k NullBound = IsFirstFault held k NullBound
IsRefusal held k NoMemory = Unit {0}

-- each changeset of the part before the place i is held
abbrev pub AreKnownUpTo : List Contents → List Contents → ℕ → Type 0
AreKnownUpTo held part i = (j : ℕ) (c : Contents) → j < i → slice_get part j ≡ Some c → Contains held c

-- the first changeset of the part that isn't held can be added: its parents are held, and its id isn't
pub record IsFirstNew (held part : List Contents) : Type 0 where
  pub place : ℕ
  pub changeset : Contents
  pub at : slice_get part place ≡ Some changeset
  pub before : AreKnownUpTo held part place
  pub new : IsNew held changeset

-- the node of some bound is held with a phase above the bound's, so that it goes down
abbrev pub HasHigher : State → List (Node × Phase) → Type 0
HasHigher s bounds = (b : Node × Phase) × Contains bounds b × IsAbove s b.0 b.1

-- where the part is taken in at s, something grows before any fault is met: a changeset comes first that is new, or all
-- changesets and the bounds' nodes are held, and one of these goes down
unfoldable pub IsGrowthBeforeFault : State → PartValue → Type 0
IsGrowthBeforeFault s k = IsFirstNew (changesets s) k.changesets
    ⊎ (AreKnownUpTo (changesets s) k.changesets (length k.changesets)
    × AreHeldUpTo (changesets s) k.bounds (length k.bounds) × HasHigher s k.bounds)

-- the part could be absorbed: the state is the least one above s that covers it, what is new stands last in the part's
-- order, and the change tells it all
pub record IsAbsorbed (s : State) (k : PartValue) (change : ChangeValue) (after : State) : Type 0 where
  pub admitted : IsAdmitted s k
  pub least : IsLeast s (k ∷ []) after
  pub order : changesets after ≡ changesets s ++ unheld (changesets s) k.changesets
  pub added : change.added ≡ nodes (unheld (changesets s) k.changesets)
  pub lowered : ListsLowered s after change.lowered

-- the answer to `absorb` of k at s, and the state after it
abbrev pub AbsorbAnswer : State → PartValue → Result ChangeValue Fault → State → Type 0
AbsorbAnswer s k (Ok change) after = IsAbsorbed s k change after
AbsorbAnswer s k (Err fault) after = IsRefusal (changesets s) k fault × (after ≡ s)

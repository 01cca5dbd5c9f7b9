-- The steps of `absorb`.
use Rattle.std.specs.Prelude.{◌≡◌, ◌≢◌, ℕ, List, [], ◌∷◌, ◌++◌, length, map, take, slice_get, Some, Contains, Result}
use Rattle.std.specs.Prelude.{Ok, Err, IsErrOf, ◌↔◌, ◌⊎◌}
use Rattle.hg_changeset.specs.declared.node.Node.{Node}
use Rattle.hg_changeset.specs.Node.{null_node}
use Rattle.hg_changeset.specs.Contents.{Contents}
use Rattle.hg_changeset.specs.Changeset.{node_of, IsChangeset}
use Rattle.hg_graph.specs.Graph.{Holds, HoldsParents}
use Rattle.hg_graph.specs.Answers.{AddAnswer, IsFirstMissing, Collides, IsNew}
use Rattle.hg_graph.specs.declared.error.GraphError.{GraphError}
use Rattle.hg_graph.specs.declared.error.GraphError.TheVariants.{NoMemory as GraphNoMemory}
use Rattle.hg_graph.specs.declared.graph.Added.{Added}
use Rattle.hg_graph.specs.declared.graph.Added.TheVariants.{New, Known}
use Rattle.hg_phases.specs.declared.phase.Phase.{Phase}
use Rattle.hg_phases.specs.declared.phase.Phase.TheVariants.{Secret}
use Rattle.hg_phases.specs.State.{State, IsValid, state_of}
use Rattle.hg_phases.specs.declared.lowered.LoweredPlace.{LoweredPlace}
use Rattle.hg_phases.specs.Kept.{phases_at, phases_before, IsLogOf}
use Rattle.hg_phases.specs.Least.{IsLeast, bound_alone}
use Rattle.hg_history.specs.declared.fault.Fault.{Fault}
use Rattle.hg_history.specs.declared.fault.Fault.TheVariants.{UnknownParent, Collision, UnknownBound, NullBound}
use Rattle.hg_history.specs.declared.fault.Fault.TheVariants.{NoMemory}
use Rattle.hg_history.specs.Change.{unheld}
use Rattle.hg_history.specs.Answer.{IsFineUpTo, IsFirstUnheld}

-- nothing changed
abbrev pub IsSame : List Contents → List Phase → List Contents → List Phase → Type 0
IsSame cs ks ds ls = (ds ≡ cs) × (ls ≡ ks)

-- why the changeset can't be added where these are held; memory is wanting only for a new one
abbrev pub IsAddFault : List Contents → Contents → Fault → Type 0
IsAddFault cs c (UnknownParent p) = IsFirstMissing cs c p
IsAddFault cs c (Collision n) = HoldsParents cs c × Collides cs c × (n ≡ node_of c)
IsAddFault cs c (UnknownBound n) = ⊥
IsAddFault cs c NullBound = ⊥
IsAddFault cs c NoMemory = IsNew cs c

-- one changeset was added, as secret, or it was held already, or nothing changed
abbrev pub OneAdded : List Contents → List Phase → Contents → Result Added Fault → List Contents → List Phase → Type 0
OneAdded cs ks c (Ok New) ds ls = IsChangeset c × IsNew cs c × (ds ≡ cs ++ c ∷ []) × (ls ≡ ks ++ Secret ∷ [])
OneAdded cs ks c (Ok Known) ds ls = Contains cs c × IsSame cs ks ds ls
OneAdded cs ks c (Err fault) ds ls = IsAddFault cs c fault × IsSame cs ks ds ls

-- the first i changesets of the part were added, as secret, to those that were held
pub record IsAdded (held : List Contents) (had : List Phase) (part : List Contents) (i : ℕ) (cs : List Contents)
    (ks : List Phase) : Type 0 where
  pub valid : IsValid (state_of cs ks)
  pub len : length ks ≡ length cs
  pub appended : cs ≡ held ++ unheld held (take i part)
  pub secret : ks ≡ had ++ map (λ _. Secret) (unheld held (take i part))
  pub same : (c : Contents) → Contains cs c ↔ Contains (held ++ take i part) c
  pub fine : IsFineUpTo held part i

-- all changesets of the part were added, or those before the first one at fault
abbrev pub AddAllAnswer : List Contents → List Phase → List Contents → Result Unit Fault → List Contents → List Phase
    → Type 0
AddAllAnswer held had part (Ok _) ds ls = IsAdded held had part (length part) ds ls
AddAllAnswer held had part (Err fault) ds ls = (i : ℕ) × (c : Contents) × (slice_get part i ≡ Some c)
    × IsAdded held had part i ds ls × IsAddFault (held ++ take i part) c fault

-- the graph answered this to a changeset that was to be added, and is as it is since
pub record IsAnswered (cs : List Contents) (c : Contents) (answer : Result Added GraphError) (ds : List Contents) : Type
    0 where
  pub changeset : IsChangeset c
  pub told : AddAnswer cs c answer ds
  pub memory : IsErrOf answer GraphNoMemory → IsNew cs c

-- what was done since can be taken back: the first changesets are the old ones, and the log gives their phases back
pub record CanTakeBack (cs : List Contents) (ks : List Phase) (ds : List Contents) (kept : List Phase)
    (log : List LoweredPlace) : Type 0 where
  pub len : length (phases_at ds kept) ≡ length ds
  pub valid : IsValid (state_of ds (phases_before ds kept log))
  pub logged : IsLogOf ds kept log
  pub front : take (length cs) ds ≡ cs
  pub phases : take (length cs) (phases_before ds kept log) ≡ ks

-- why a bound is at fault, where these changesets are held
abbrev pub IsBoundFault : List Contents → List (Node × Phase) → Fault → Type 0
IsBoundFault cs bounds (UnknownParent p) = ⊥
IsBoundFault cs bounds (Collision n) = ⊥
IsBoundFault cs bounds (UnknownBound n) = IsFirstUnheld cs bounds n × (n ≢ null_node)
IsBoundFault cs bounds NullBound = IsFirstUnheld cs bounds null_node
IsBoundFault cs bounds NoMemory = ⊥

-- the fault tells of this bound's node, which isn't held
abbrev pub IsBoundAt : List Contents → Node → Fault → Type 0
IsBoundAt cs n (UnknownParent p) = ⊥
IsBoundAt cs n (Collision m) = ⊥
IsBoundAt cs n (UnknownBound m) = ¬ (Holds cs n) × (m ≡ n) × (m ≢ null_node)
IsBoundAt cs n NullBound = ¬ (Holds cs n) × (n ≡ null_node)
IsBoundAt cs n NoMemory = ⊥

-- the bound was lowered to, if it is of this phase
abbrev pub OneLowered : List Contents → Node × Phase → Phase → List Phase → List Phase → Type 0
OneLowered cs b phase old new = ((b.1 ≡ phase) × IsLeast (state_of cs old) (bound_alone b ∷ []) (state_of cs new))
    ⊎ ((b.1 ≢ phase) × (new ≡ old))

-- all bounds of this phase were lowered to: what was the least state for some bounds is the least for these as well
abbrev pub IsLoweredTo : List Contents → List (Node × Phase) → Phase → List Phase → List Phase → Type 0
IsLoweredTo cs bounds phase old new =
    (s : State) (p : List Contents) (bs : List (Node × Phase))
    → IsLeast s (record { changesets = p; bounds = bs } ∷ []) (state_of cs old)
    → (more : List (Node × Phase)) × IsLeast s (record { changesets = p; bounds = more } ∷ []) (state_of cs new)
    × ((b : Node × Phase) → Contains more b → Contains bs b ⊎ Contains bounds b)
    × ((b : Node × Phase) → Contains bs b → Contains more b)
    × ((b : Node × Phase) → Contains bounds b → b.1 ≡ phase → Contains more b)

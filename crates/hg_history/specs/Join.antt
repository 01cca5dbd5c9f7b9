-- What `join` answers, and its steps.
use Rattle.std.specs.Prelude.{◌≡◌, ◌≢◌, ◌≤◌, List, ◌++◌, Contains, Result, Ok, Err, ◌⊎◌}
use Rattle.hg_changeset.specs.Contents.{Contents}
use Rattle.hg_changeset.specs.Changeset.{node_of}
use Rattle.hg_graph.specs.Graph.{nodes}
use Rattle.hg_phases.specs.declared.phase.Phase.{Phase}
use Rattle.hg_phases.specs.State.{State, Held, rank, changesets, IsValid}
use Rattle.hg_phases.specs.Order.{Below}
use Rattle.hg_history.specs.declared.fault.Fault.{Fault}
use Rattle.hg_history.specs.declared.fault.Fault.TheVariants.{UnknownParent, Collision, UnknownBound, NullBound}
use Rattle.hg_history.specs.declared.fault.Fault.TheVariants.{NoMemory}
use Rattle.hg_history.specs.Change.{ChangeValue, ListsLowered}

-- t is above s and o, and what it holds one of them holds, in the same phase: the union, with the lowest phases
pub record IsJoin (s o t : State) : Type 0 where
  pub first : Below s t
  pub second : Below o t
  pub each : (h : Held) → Contains t.held h → Contains s.held h ⊎ Contains o.held h

-- the states hold two changesets under the id that is told, or memory was wanting
abbrev pub IsJoinFault : State → State → Fault → Type 0
IsJoinFault s o (UnknownParent p) = ⊥
IsJoinFault s o (Collision n) = (h : Held) × (g : Held) × Contains s.held h × Contains o.held g
    × (node_of h.changeset ≡ n) × (node_of g.changeset ≡ n) × (h.changeset ≢ g.changeset)
IsJoinFault s o (UnknownBound n) = ⊥
IsJoinFault s o NullBound = ⊥
IsJoinFault s o NoMemory = Unit {0}

-- the answer to `join` of o at s, and the state after it
abbrev pub JoinAnswer : State → State → Result Unit Fault → State → Type 0
JoinAnswer s o (Ok _) t = IsValid t × IsJoin s o t
JoinAnswer s o (Err fault) t = IsJoinFault s o fault × (t ≡ s)

-- the changeset is held with this phase or a lower one
abbrev pub IsHeldAsLow : State → Contents → Phase → Type 0
IsHeldAsLow t c k = (g : Held) × Contains t.held g × (g.changeset ≡ c) × (rank g.phase ≤ rank k)

-- the change tells the nodes that were added, in their order, and those held before whose phase went down
pub record TellsChange (s : State) (change : ChangeValue) (t : State) : Type 0 where
  pub new : List Contents
  pub order : changesets t ≡ changesets s ++ new
  pub added : change.added ≡ nodes new
  pub lowered : ListsLowered s t change.lowered

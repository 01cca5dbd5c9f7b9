-- The state of a replica: a history, which is a graph with a phase for each of its changesets, and a set of markers.
use Rattle.std.specs.Prelude.{List, [], Contains}
use Rattle.hg_marker.specs.Fields.{Fields}
use Rattle.hg_phases.specs.State.{State, state_of, IsValid as IsValidHistory}
use Rattle.hg_phases.specs.Order.{Below as BelowHistory}

-- the markers are kept as a list, whose order and doubles are no part of the state
pub record ReplicaState : Type 0 where
  pub history : State
  pub markers : List Fields

-- what a new replica holds
abbrev pub nothing_held : ReplicaState
nothing_held = record { history = state_of [] []; markers = [] }

-- a graph, in which no changeset has a lower phase than a parent of it; and any markers
abbrev pub IsValid : ReplicaState → Type 0
IsValid s = IsValidHistory s.history

-- each of the first markers is among the second
abbrev pub AreWithin : List Fields → List Fields → Type 0
AreWithin ms ns = (m : Fields) → Contains ms m → Contains ns m

-- each changeset of s is held by t, in the same phase or a lower one, and so is each marker
pub record Below (s t : ReplicaState) : Type 0 where
  pub history : BelowHistory s.history t.history
  pub markers : AreWithin s.markers t.markers

-- below both ways: the same changesets, in the same phases, and the same markers
abbrev pub IsSameState : ReplicaState → ReplicaState → Type 0
IsSameState s t = Below s t × Below t s

-- Which changesets went down.
use Rattle.std.specs.Prelude.{◌≡◌, ◌<◌, ◌↔◌, List, Contains}
use Rattle.std.specs.List.{IsDistinct}
use Rattle.hg_changeset.specs.declared.node.Node.{Node}
use Rattle.hg_changeset.specs.Node.{node_eq}
use Rattle.hg_changeset.specs.Changeset.{node_of}
use Rattle.hg_phases.specs.declared.phase.Phase.{Phase}
use Rattle.hg_phases.specs.State.{State, Held, rank}

-- a changeset with this id was held, and has a lower phase now
abbrev pub WentDown : State → State → Node → Type 0
WentDown s t n = (h : Held) × (g : Held) × Contains s.held h × Contains t.held g × (g.changeset ≡ h.changeset)
    × (node_of h.changeset ≡ n) × (rank g.phase < rank h.phase)

-- the changeset with this id is held, and has a phase above this one
abbrev pub IsAbove : State → Node → Phase → Type 0
IsAbove s n k = (h : Held) × Contains s.held h × (node_of h.changeset ≡ n) × (rank k < rank h.phase)

-- ns are exactly the nodes whose phase went down, each once
pub record ListsLowered (s t : State) (ns : List Node) : Type 0 where
  pub once : IsDistinct node_eq ns
  pub each : (n : Node) → Contains ns n ↔ WentDown s t n

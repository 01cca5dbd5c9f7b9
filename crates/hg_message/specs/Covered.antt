-- Which of some changesets have a child among them with the same phase.
use Rattle.std.specs.Prelude.{◌≡◌, ◌↔◌, ℕ, Bool, List, length, slice_get, Some, Contains}
use Rattle.hg_changeset.specs.declared.node.Node.{Node}
use Rattle.hg_graph.specs.Places.{IsAt, IsParentPlace}
use Rattle.hg_graph.specs.Marks.{IsMarked}
use Rattle.hg_phases.specs.declared.phase.Phase.{Phase}
use Rattle.hg_phases.specs.State.{State, Held, changesets}

-- the changeset at this place has this phase
abbrev pub HasPhaseAt : State → Phase → ℕ → Type 0
HasPhaseAt s phase k = (h : Held) × (slice_get s.held k ≡ Some h) × (h.phase ≡ phase)

-- the changesets at both places have one phase
abbrev pub AreAlike : State → ℕ → ℕ → Type 0
AreAlike s j k = (phase : Phase) × HasPhaseAt s phase j × HasPhaseAt s phase k

-- a parent of the changeset at j stands at k, and has the same phase
abbrev pub IsParentAlike : State → ℕ → ℕ → Type 0
IsParentAlike s j k = IsParentPlace (changesets s) j k × AreAlike s j k

-- one of the marked changesets is a child of the one at this place, and has the same phase
abbrev pub IsCovered : State → List Bool → ℕ → Type 0
IsCovered s marks k = (j : ℕ) × IsMarked 0 marks j × IsParentAlike s j k

-- a mark for each place, which tells whether that is so of the changeset there
pub record AreCovered (s : State) (marks covered : List Bool) : Type 0 where
  pub len : length covered ≡ length (changesets s)
  pub exact : (k : ℕ) → IsMarked 0 covered k ↔ IsCovered s marks k

-- the node stands at one of the places, with this phase
abbrev pub IsAtOneIn : State → List ℕ → Phase → Node → Type 0
IsAtOneIn s places phase n = (k : ℕ) × Contains places k × IsAt (changesets s) n k × HasPhaseAt s phase k

-- In what two replicas differ.
use Rattle.std.specs.Prelude.{◌≢◌, List, not, filter}
use Rattle.hg_changeset.specs.declared.node.Node.{Node}
use Rattle.hg_marker.specs.Fields.{Fields}
use Rattle.hg_obsstore.specs.Growth.{holds}
use Rattle.hg_phases.specs.declared.phase.Phase.{Phase}
use Rattle.hg_replica.specs.Content.{Content}
use Rattle.hg_replica.specs.Evolution.{HasPhase}

-- the markers of the second that the first lacks
abbrev pub markers_lacked : List Fields → List Fields → List Fields
markers_lacked lacking having = filter (λ m. not (holds lacking m)) having

-- both hold the changeset, in these phases, which are different
abbrev pub ArePhases : Content → Content → Node → Phase × Phase → Type 0
ArePhases f g n phases = HasPhase f n phases.0 × HasPhase g n phases.1 × (phases.0 ≢ phases.1)

abbrev pub HasOtherPhase : Content → Content → Node → Type 0
HasOtherPhase f g n = (phases : Phase × Phase) × ArePhases f g n phases

-- What an operation reads of the state.
use Rattle.std.specs.Prelude.{Bool, nat_lt, if◌then◌else◌}
use Rattle.std.specs.Option.{option_map_or}
use Rattle.hg_changeset.specs.declared.node.Node.{Node}
use Rattle.hg_changeset.specs.Node.{null_node}
use Rattle.hg_phases.specs.declared.phase.Phase.{Phase}
use Rattle.hg_phases.specs.declared.phase.Phase.TheVariants.{Public, Draft, Secret}
use Rattle.hg_phases.specs.State.{State, rank}
use Rattle.hg_phases.specs.Content.{content_of}

-- the phase of a changeset; that of an absent parent is public
unfoldable pub phase_in : State → Node → Phase
phase_in s n = option_map_or (λ h. h.phase) (content_of s n) Public

-- the parents of a changeset that is held, in normal form
unfoldable pub parents_in : State → Node → Node × Node
parents_in s n = option_map_or (λ h. (h.changeset.first, h.changeset.second)) (content_of s n) (null_node, null_node)

abbrev pub highest : Phase → Phase → Phase
highest j k = if nat_lt (rank j) (rank k) then k else j

-- the phase that a commit asks for
abbrev pub asked : Bool → Phase
asked secret = if secret then Secret else Draft

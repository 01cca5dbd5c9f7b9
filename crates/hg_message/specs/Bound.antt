-- The bounds of a message.
use Rattle.std.specs.Prelude.{ℕ, ◌==◌, Result, Ok, Err, if◌then◌else◌}
use Rattle.hg_changeset.specs.declared.node.Node.{Node}
use Rattle.hg_marker.specs.Reading.{Reader, ◌>>=◌, says, yields, number, node}
use Rattle.hg_phases.specs.declared.phase.Phase.{Phase}
use Rattle.hg_phases.specs.declared.phase.Phase.TheVariants.{Public, Draft, Secret}
use Rattle.hg_message.specs.declared.error.MessageFault.{MessageFault}
use Rattle.hg_message.specs.declared.error.MessageFault.TheVariants.{BadPhase}
use Rattle.hg_message.specs.Place.{whole}

-- the phase of this number
abbrev pub numbered_phase : ℕ → Result Phase MessageFault
numbered_phase n = if n == 0 then Ok Public else if n == 1 then Ok Draft else if n == 2 then Ok Secret else Err BadPhase

-- a phase, which is tried at once, and a node id
unfoldable pub bound_at : ℕ → Reader MessageFault (Node × Phase)
bound_at total = do
  number ← whole total number
  phase ← yields (numbered_phase number)
  id ← whole total node
  says (id, phase)

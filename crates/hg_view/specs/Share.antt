-- What may be shared with others: all that isn't secret, whether it is in view or not.
use Rattle.std.specs.Prelude.{◌≢◌}
use Rattle.hg_changeset.specs.declared.node.Node.{Node}
use Rattle.hg_phases.specs.declared.phase.Phase.{Phase}
use Rattle.hg_phases.specs.declared.phase.Phase.TheVariants.{Secret}
use Rattle.hg_history.specs.Content.{IsHeld}
use Rattle.hg_replica.specs.Content.{Content}
use Rattle.hg_replica.specs.Evolution.{HasPhase}

-- held, and not secret
abbrev pub IsShared : Content → Node → Type 0
IsShared f n = IsHeld f.0 n × ¬ (HasPhase f n Secret)

-- held with this phase, which isn't secret
abbrev pub IsSharedWith : Content → Node → Phase → Type 0
IsSharedWith f n k = HasPhase f n k × (k ≢ Secret)

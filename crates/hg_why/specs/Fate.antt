-- What became of a changeset.
use Rattle.std.specs.Prelude.{◌≡◌, Option, Some, None}
use Rattle.hg_changeset.specs.declared.node.Node.{Node}
use Rattle.hg_obsstore.specs.Markers.{ArePlaces}
use Rattle.hg_replica.specs.State.{ReplicaState}
use Rattle.hg_replica.specs.Content.{content_of}
use Rattle.hg_replica.specs.Evolution.{IsObsolete}
use Rattle.hg_succ.specs.Answer.{AreSets}
use Rattle.hg_why.specs.declared.fate.Fate.{Fate}

-- of what is obsolete the places of the markers that rewrote it, and its successors sets; and nothing of others
abbrev pub IsFate : ReplicaState → Node → Option Fate → Type 0
IsFate s n (Some fate) =
    IsObsolete (content_of s) n × ArePlaces (λ m. m.predecessor ≡ n) s.markers fate.markers.items
    × AreSets (content_of s) n fate.sets
IsFate s n None = ¬ (IsObsolete (content_of s) n)

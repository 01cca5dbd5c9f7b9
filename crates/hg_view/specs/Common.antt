-- What two replicas have in common.
use Rattle.std.specs.Prelude.{◌≡◌, ℕ, List, Contains}
use Rattle.hg_changeset.specs.declared.node.Node.{Node}
use Rattle.hg_changeset.specs.Contents.{Contents}
use Rattle.hg_changeset.specs.Changeset.{node_of}
use Rattle.hg_graph.specs.Places.{IsAt}
use Rattle.hg_phases.specs.State.{changesets}
use Rattle.hg_replica.specs.State.{ReplicaState}
use Rattle.hg_replica.specs.Content.{content_of}
use Rattle.hg_view.specs.Kept.{KeptValue}
use Rattle.hg_view.specs.Pins.{IsServedUnder}
use Rattle.hg_view.specs.Share.{IsShared}

-- the changeset collides with none of these
abbrev pub IsFree : Contents → List Contents → Type 0
IsFree c ds = (d : Contents) → Contains ds d → node_of c ≡ node_of d → c ≡ d

-- no changeset of the first collides with one of the second
abbrev pub AreFree : List Contents → List Contents → Type 0
AreFree cs ds = (c : Contents) → Contains cs c → IsFree c ds

-- the changeset at this place isn't secret, and the other serves one with its id
abbrev pub IsCommonAt : ReplicaState → KeptValue → ℕ → Type 0
IsCommonAt s other k = (n : Node) × IsAt (changesets s.history) n k × IsShared (content_of s) n
    × IsServedUnder (content_of other.replica) other.pins n

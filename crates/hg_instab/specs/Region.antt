-- Where the region begins that is asked again.
use Rattle.std.specs.Prelude.{◌≡◌, ◌↔◌, ◌⊎◌, ℕ, List, Contains}
use Rattle.hg_changeset.specs.declared.node.Node.{Node}
use Rattle.hg_marker.specs.Fields.{Fields}
use Rattle.hg_replica.specs.Change.{ChangeValue}
use Rattle.hg_instab.specs.Near.{IsNamed}
use Rattle.hg_instab.specs.Walk.{IsFork, IsOfOneAt}

-- one of the ids that are so was near forks
abbrev pub IsOneNear : (Node → Type 0) → List Node → Type 0
IsOneNear P near = (n : Node) × P n × Contains near n

-- two of the markers rewrote what this one rewrote, or it names an id that was near forks
abbrev pub IsTouched : List Fields → List Node → Fields → Type 0
IsTouched ms near m = IsFork ms m.predecessor ⊎ IsOneNear (IsNamed m) near

-- such a marker rewrote it
abbrev pub IsStartOf : List Fields → List Node → Fields → Node → Type 0
IsStartOf ms near m n = IsTouched ms near m × (m.predecessor ≡ n)

-- such a marker at one of the places rewrote it
abbrev pub IsStart : List Fields → List Node → List ℕ → Node → Type 0
IsStart ms near places n = IsOfOneAt (IsStartOf ms near) ms places n

-- they are where the region begins that is asked again: what such new markers rewrote, and what was added where it was
-- near forks
abbrev pub AreStarts : List Fields → ChangeValue → List Node → List Node → Type 0
AreStarts ms change near starts = (n : Node)
    → Contains starts n ↔ (IsStart ms near change.markers n ⊎ (Contains change.added n × Contains near n))

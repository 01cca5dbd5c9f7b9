-- What is so of a changeset by what is so of its neighbours.
use Rattle.std.specs.Prelude.{◌≡◌, ◌⊎◌, Some, Contains}
use Rattle.hg_changeset.specs.declared.node.Node.{Node}
use Rattle.hg_graph.specs.Graph.{IsParent}
use Rattle.hg_phases.specs.declared.phase.Phase.TheVariants.{Public}
use Rattle.hg_phases.specs.State.{Held}
use Rattle.hg_marker.specs.Fields.{Fields}
use Rattle.hg_replica.specs.Content.{Content}
use Rattle.hg_replica.specs.Evolution.{HasPhase, IsObsolete, IsCurrent, IsMarker, IsBumpedFix}
use Rattle.hg_succ.specs.Successors.{HasSeveral}
use Rattle.hg_instab.specs.Near.{IsAfterPublic, IsAfterSeveral}

-- the one is a parent of the other, which is held
abbrev pub IsParentOf : Content → Node → Node → Type 0
IsParentOf f p n = (h : Held) × (f.0 n ≡ Some h) × IsParent h.changeset p

-- it is neither public nor obsolete, and a parent of it is obsolete, or an orphan
abbrev pub StandsUnstably : Content → (Node → Type 0) → Node → Type 0
StandsUnstably f Orphan n = IsCurrent f n × ((p : Node) × IsParentOf f p n × (IsObsolete f p ⊎ Orphan p))

-- it is obsolete, and each of its children is extinct
abbrev pub HoldsNothing : Content → (Node → Type 0) → Node → Type 0
HoldsNothing f Extinct n = IsObsolete f n × ((c : Node) → IsParentOf f n c → Extinct c)

-- it is neither public nor obsolete, and a marker that isn't bumpedfix rewrote to it what is public, or comes after
-- something public
abbrev pub ComesFromPublic : Content → Node → Type 0
ComesFromPublic f n = IsCurrent f n × ((m : Fields) × IsMarker f m × (¬ (IsBumpedFix m)) × Contains m.successors n
    × (HasPhase f m.predecessor Public ⊎ IsAfterPublic f m.predecessor))

-- it is neither public nor obsolete, and a marker rewrote to it what has several successors sets or is overfull, or
-- comes after such an id
abbrev pub ComesFromSeveral : Content → Node → Type 0
ComesFromSeveral f n = IsCurrent f n × ((m : Fields) × IsMarker f m × Contains m.successors n
    × (HasSeveral f m.predecessor ⊎ IsAfterSeveral f m.predecessor))

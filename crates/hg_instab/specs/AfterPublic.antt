-- What a change puts after something public, and how a walk goes on from there.
use Rattle.std.specs.Prelude.{◌⊎◌, not, List, Contains, filter}
use Rattle.std.specs.List.{list_any}
use Rattle.hg_changeset.specs.declared.node.Node.{Node}
use Rattle.hg_changeset.specs.Node.{node_eq}
use Rattle.hg_marker.specs.Fields.{Fields}
use Rattle.hg_phases.specs.declared.phase.Phase.TheVariants.{Public}
use Rattle.hg_replica.specs.Content.{Content}
use Rattle.hg_replica.specs.Change.{ChangeValue}
use Rattle.hg_replica.specs.Evolution.{HasPhase}
use Rattle.hg_instab.specs.declared.walk.Followed.TheVariants.{NotBumpedFix}
use Rattle.hg_instab.specs.Changed.{IsFresh}
use Rattle.hg_instab.specs.Walk.{IsFollowed, IsNext}

-- public, or known to be after what is
abbrev pub IsSource : Content → List Node → Node → Type 0
IsSource g known n = HasPhase g n Public ⊎ Contains known n

-- what the marker rewrote is public or known, and the marker isn't the answer to that
abbrev pub HandsOn : Content → List Node → Fields → Type 0
HandsOn g known m = IsSource g known m.predecessor × IsFollowed NotBumpedFix m

-- a fresh marker that hands on has it as a successor
abbrev pub IsAfterFresh : Content → ChangeValue → List Fields → List Node → Node → Type 0
IsAfterFresh g change ms known n = (m : Fields) × IsFresh ms change m × HandsOn g known m × Contains m.successors n

-- one of these markers, which isn't bumpedfix, rewrote the one to the other
abbrev pub IsRewrittenTo : List Fields → Node → Node → Type 0
IsRewrittenTo ms = IsNext (IsFollowed NotBumpedFix) ms

-- it comes next after one of the nodes that is public
abbrev pub IsAfterAny : Content → List Fields → List Node → Node → Type 0
IsAfterAny g ms nodes n = (p : Node) × Contains nodes p × (HasPhase g p Public × IsRewrittenTo ms p n)

-- where the walk begins: after a fresh marker, or after what is public and was added or lowered
abbrev pub IsStart : Content → ChangeValue → List Fields → List Node → Node → Type 0
IsStart g change ms known n = IsAfterFresh g change ms known n
    ⊎ (IsAfterAny g ms change.added n ⊎ IsAfterAny g ms change.lowered n)

-- of these markers, those that rewrote what isn't known
abbrev pub beyond : List Node → List Fields → List Fields
beyond known ms = filter (λ m. not (list_any (node_eq m.predecessor) known)) ms

-- one of these markers, which isn't bumpedfix, rewrote the one, which isn't known, to the other
abbrev pub IsRewrittenBeyond : List Node → List Fields → Node → Node → Type 0
IsRewrittenBeyond known ms = IsRewrittenTo (beyond known ms)

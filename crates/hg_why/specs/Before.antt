-- Steps over markers, back from what something was rewritten to.
use Rattle.std.specs.Prelude.{◌≡◌, List, Contains}
use Rattle.hg_changeset.specs.declared.node.Node.{Node}
use Rattle.hg_marker.specs.Fields.{Fields}
use Rattle.hg_replica.specs.Evolution.{IsBumpedFix}
use Rattle.hg_succ.specs.Successors.{IsAny}
use Rattle.hg_why.specs.declared.before.Steps.{Steps}
use Rattle.hg_why.specs.declared.before.Steps.TheVariants.{OverAny, OverNoBumpedFix}

-- the markers over which steps go
abbrev pub IsOver : Steps → Fields → Type 0
IsOver OverAny = IsAny
IsOver OverNoBumpedFix = λ m. ¬ (IsBumpedFix m)

-- steps go over the marker, and p is its predecessor
abbrev pub LeadsBackTo : Steps → Fields → Node → Type 0
LeadsBackTo steps m p = IsOver steps m × (m.predecessor ≡ p)

-- one step back leads from n to p, over one of the markers
abbrev pub IsBack : Steps → List Fields → Node → Node → Type 0
IsBack steps ms n p = (m : Fields) × Contains ms m × Contains m.successors n × LeadsBackTo steps m p

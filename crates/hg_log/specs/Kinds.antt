-- Of which kind a changeset is.
use Rattle.std.specs.Prelude.{ℕ, ◌⊎◌, List, codes}
use Rattle.hg_changeset.specs.declared.node.Node.{Node}
use Rattle.hg_replica.specs.Content.{Content}
use Rattle.hg_replica.specs.Evolution.{IsObsolete, IsOrphan, IsPhaseDivergent}
use Rattle.hg_instab.specs.Instabilities.{IsContentDivergent}
use Rattle.hg_view.specs.Pins.{IsVisibleUnder}
use Rattle.hg_log.specs.declared.kind.Kind.{Kind}
use Rattle.hg_log.specs.declared.kind.Kind.TheVariants.{Ordinary, Unstable, Obsolete, Hidden}

-- an orphan, phase-divergent or content-divergent
abbrev pub IsUnstable : Content → Node → Type 0
IsUnstable f n = IsOrphan f n ⊎ (IsPhaseDivergent f n ⊎ IsContentDivergent f n)

-- what is visible is of the first kind that is so of it, from the third to the first
abbrev pub IsOfKind : Content → List Node → Node → Kind → Type 0
IsOfKind f pins n Ordinary = IsVisibleUnder f pins n × ¬ (IsObsolete f n) × ¬ (IsUnstable f n)
IsOfKind f pins n Unstable = IsVisibleUnder f pins n × ¬ (IsObsolete f n) × IsUnstable f n
IsOfKind f pins n Obsolete = IsVisibleUnder f pins n × IsObsolete f n
IsOfKind f pins n Hidden = ¬ (IsVisibleUnder f pins n)

-- its mark in a drawing
abbrev pub mark_of : Kind → List ℕ
mark_of Ordinary = codes "o"
mark_of Unstable = codes "*"
mark_of Obsolete = codes "x"
mark_of Hidden = codes "#"

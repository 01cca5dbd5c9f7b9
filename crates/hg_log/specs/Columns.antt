-- How rows follow one another.
use Rattle.std.specs.Prelude.{ℕ, ◌≡◌, ◌⊎◌, ◌+◌, ◌<◌, ◌≤◌, List, Option, Some, slice_get, length, IfSome}
use Rattle.hg_graph.specs.declared.graph.ParentPlaces.{ParentPlaces}
use Rattle.hg_log.specs.declared.columns.Change.{Change}
use Rattle.hg_log.specs.declared.columns.Change.TheVariants.{Closing, Staying, Opening}
use Rattle.hg_log.specs.declared.columns.Found.{Found}
use Rattle.hg_log.specs.declared.columns.Row.{Row}

-- below a row with so many columns there are so many
abbrev pub HasBelow : Change → ℕ → ℕ → Type 0
HasBelow Closing width below = below + 1 ≡ width
HasBelow Staying width below = below ≡ width
HasBelow Opening width below = below ≡ width + 1

-- the parents are these, in one order or the other
abbrev pub IsSameParents : ParentPlaces → ParentPlaces → Type 0
IsSameParents given parents =
    (parents ≡ given) ⊎ ((parents.first ≡ given.second) × (parents.second ≡ given.first))

-- of two parents the lower one is the first
abbrev pub IsInOrder : ParentPlaces → Type 0
IsInOrder parents = (p : ℕ) (q : ℕ) → parents.first ≡ Some p → parents.second ≡ Some q → p ≤ q

-- the column stands for this changeset
abbrev pub StandsFor : List ℕ → Option ℕ → ℕ → Type 0
StandsFor places changeset column = (column < length places) × (slice_get places column ≡ changeset)

-- each column that was found is that of the changeset, or of the parent
pub record AreFound (places : List ℕ) (place : ℕ) (parents : ParentPlaces) (found : Found) : Type 0 where
  pub own : IfSome found.own (StandsFor places (Some place))
  pub first : IfSome found.first (StandsFor places parents.first)
  pub second : IfSome found.second (StandsFor places parents.second)

-- a row has its own column among its columns, and those below are as many as it leaves
pub record IsRow (row : Row) : Type 0 where
  pub own : row.turn.column < row.width
  pub below : HasBelow row.turn.change row.width row.width_below

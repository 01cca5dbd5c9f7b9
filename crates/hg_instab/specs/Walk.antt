-- Steps over markers, as a walk along them keeps what it met.
use Rattle.std.specs.Prelude.{◌≡◌, ◌≢◌, ◌++◌, ◌↔◌, ◌⊎◌, ℕ, List, slice_get, Some, Contains}
use Rattle.hg_changeset.specs.declared.node.Node.{Node}
use Rattle.hg_marker.specs.Fields.{Fields}
use Rattle.hg_obsstore.specs.Markers.{IsAt}
use Rattle.hg_replica.specs.Evolution.{IsBumpedFix}
use Rattle.hg_instab.specs.declared.walk.Followed.{Followed}
use Rattle.hg_instab.specs.declared.walk.Followed.TheVariants.{Every, NotBumpedFix}
use Rattle.hg_instab.specs.declared.walk.Way.{Way}
use Rattle.hg_instab.specs.declared.walk.Way.TheVariants.{ToSuccessors, Both}

-- the markers that a walk to successors follows
abbrev pub IsFollowed : Followed → Fields → Type 0
IsFollowed Every = λ m. Unit {0}
IsFollowed NotBumpedFix = λ m. ¬ (IsBumpedFix m)

-- a marker among these, of this kind, has the one as its predecessor and the other as a successor
abbrev pub IsNext : (Fields → Type 0) → List Fields → Node → Node → Type 0
IsNext Kind ms p n = (m : Fields) × Contains ms m × (m.predecessor ≡ p) × Kind m × Contains m.successors n

-- a marker among these has the one as a successor and the other as its predecessor
abbrev pub IsBefore : List Fields → Node → Node → Type 0
IsBefore ms p n = (m : Fields) × Contains ms m × Contains m.successors p × (m.predecessor ≡ n)

-- a step of the way leads from the one to the other
abbrev pub IsStep : Way → List Fields → Node → Node → Type 0
IsStep (ToSuccessors followed) ms = IsNext (IsFollowed followed) ms
IsStep Both ms = λ p n. IsNext (IsFollowed Every) ms p n ⊎ IsBefore ms p n

-- two of the markers, at different places, have it as their predecessor
abbrev pub IsFork : List Fields → Node → Type 0
IsFork ms n = (i : ℕ) × (j : ℕ) × (i ≢ j) × IsAt (λ m. m.predecessor ≡ n) ms i × IsAt (λ m. m.predecessor ≡ n) ms j

-- n is so of a marker at one of the places
abbrev pub IsOfOneAt : (Fields → Node → Type 0) → List Fields → List ℕ → Node → Type 0
IsOfOneAt Of ms places n = (k : ℕ) × Contains places k × (m : Fields) × (slice_get ms k ≡ Some m) × Of m n

-- one or more steps lead from p to n
pub data Leads (Step : Node → Node → Type 0) (p : Node) : Node → Type 0 where
  one : {n : Node} → Step p n → Leads Step p n
  further : {q n : Node} → Leads Step p q → Step q n → Leads Step p n

-- one of the starts, or what steps from one of them lead to
abbrev pub IsReached : (Node → Node → Type 0) → List Node → Node → Type 0
IsReached Step starts n = Contains starts n ⊎ ((p : Node) × Contains starts p × Leads Step p n)

-- the first nodes stand where they stood, and behind them what is so and wasn't there
pub record Adds (P : Node → Type 0) (old new : List Node) : Type 0 where
  pub kept : (more : List Node) × (new ≡ old ++ more)
  pub members : (n : Node) → Contains new n ↔ (Contains old n ⊎ P n)

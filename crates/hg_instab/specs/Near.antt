-- What divergence comes from, and the ids near which it can begin.
use Rattle.std.specs.Prelude.{◌≡◌, ◌≢◌, ◌⊎◌, List, Contains}
use Rattle.hg_changeset.specs.declared.node.Node.{Node}
use Rattle.hg_marker.specs.Fields.{Fields}
use Rattle.hg_phases.specs.declared.phase.Phase.TheVariants.{Public}
use Rattle.hg_replica.specs.Content.{Content}
use Rattle.hg_replica.specs.Change.{ChangeValue}
use Rattle.hg_replica.specs.Evolution.{HasPhase, IsMarker, Precedes, IsBumpedFix}
use Rattle.hg_succ.specs.Successors.{IsAny, HasSeveral}
use Rattle.hg_instab.specs.Changed.{IsFresh}

-- a public changeset precedes it, over markers that aren't the answer to that
abbrev pub IsAfterPublic : Content → Node → Type 0
IsAfterPublic f n = (p : Node) × HasPhase f p Public × Precedes f (λ m. ¬ (IsBumpedFix m)) p n

-- something that has several successors sets or is overfull precedes it, over any markers
abbrev pub IsAfterSeveral : Content → Node → Type 0
IsAfterSeveral f n = (p : Node) × HasSeveral f p × Precedes f IsAny p n

-- two markers rewrote it
abbrev pub IsForked : Content → Node → Type 0
IsForked f n = (a b : Fields) × (a ≢ b) × IsMarker f a × IsMarker f b × (a.predecessor ≡ n) × (b.predecessor ≡ n)

-- the marker rewrote it, or rewrote something to it
abbrev pub IsNamed : Fields → Node → Type 0
IsNamed m n = (m.predecessor ≡ n) ⊎ Contains m.successors n

-- of the ids that a marker names either all are so, or none
abbrev pub IsClosed : Content → (Node → Type 0) → Type 0
IsClosed f P = (m : Fields) (a b : Node) → IsMarker f m → IsNamed m a → IsNamed m b → P a → P b

-- what two markers rewrote is so, and of the ids that a marker names all are or none: so nothing else has several
-- successors sets, or comes from what has
pub record AreNearForks (f : Content) (P : Node → Type 0) : Type 0 where
  pub forks : (n : Node) → IsForked f n → P n
  pub closed : IsClosed f P

-- what is asked again where g is what follows the change: with an id all that g's markers name with it; what a fresh
-- marker names, where one of that was near, or the marker makes a fork; and what was added where it was near
pub record IsRegion (g : Content) (change : ChangeValue) (ms : List Fields) (near region : List Node) : Type 0 where
  pub closed : IsClosed g (Contains region)
  pub fresh : (m : Fields) (n : Node) → IsFresh ms change m → IsNamed m n → Contains near n
      → Contains region m.predecessor
  pub forked : (m : Fields) → IsFresh ms change m → IsForked g m.predecessor → Contains region m.predecessor
  pub added : (n : Node) → Contains change.added n → Contains near n → Contains region n

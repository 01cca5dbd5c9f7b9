-- A change that is one plain amend.
use Rattle.std.specs.Prelude.{◌≡◌, ℕ, List, [], ◌∷◌, Contains, slice_get, Some}
use Rattle.hg_changeset.specs.declared.node.Node.{Node}
use Rattle.hg_marker.specs.Fields.{Fields}
use Rattle.hg_obsstore.specs.Markers.{IsAt}
use Rattle.hg_replica.specs.Change.{ChangeValue}
use Rattle.hg_replica.specs.Content.{content_of}
use Rattle.hg_replica.specs.Evolution.{IsObsolete}
use Rattle.hg_replica.specs.State.{ReplicaState}
use Rattle.hg_instab.specs.declared.amend.Amend.{Amend}
use Rattle.hg_instab.specs.Walk.{IsFork}

-- the changeset is the only one that was added, and none went down
abbrev pub IsOnlyAdded : ChangeValue → Node → Type 0
IsOnlyAdded change n = (change.added ≡ n ∷ []) × (change.lowered ≡ [])

-- of these markers it is the only new one
abbrev pub IsOnlyFresh : List Fields → ChangeValue → Fields → Type 0
IsOnlyFresh ms change m = (place : ℕ) × (change.markers ≡ place ∷ []) × (slice_get ms place ≡ Some m)

-- the change added one changeset, and one marker that rewrote one to it alone
pub record IsRewrite (ms : List Fields) (change : ChangeValue) (amend : Amend) : Type 0 where
  pub added : IsOnlyAdded change amend.to
  pub fresh : Fields
  pub only : IsOnlyFresh ms change fresh
  pub predecessor : fresh.predecessor ≡ amend.from
  pub successors : fresh.successors ≡ amend.to ∷ []

-- no marker rewrote it, and of no two places does a marker have it as a successor
pub record IsNamedOnce (ms : List Fields) (n : Node) : Type 0 where
  pub last : (i : ℕ) → ¬ (IsAt (λ m. m.predecessor ≡ n) ms i)
  pub once : (i j : ℕ) → IsAt (λ m. Contains m.successors n) ms i → IsAt (λ m. Contains m.successors n) ms j → i ≡ j

-- no other marker rewrote the one, which isn't public and was near forks, or names the other
pub record IsPlain (t : ReplicaState) (near : List Node) (amend : Amend) : Type 0 where
  pub close : Contains near amend.from
  pub obsolete : IsObsolete (content_of t) amend.from
  pub once : ¬ (IsFork t.markers amend.from)
  pub named : IsNamedOnce t.markers amend.to

-- the change, which left t, is this amend
abbrev pub IsPlainAmend : ReplicaState → ChangeValue → List Node → Amend → Type 0
IsPlainAmend t change near amend = IsRewrite t.markers change amend × IsPlain t near amend

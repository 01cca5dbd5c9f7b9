-- How far two lists of changesets were compared.
use Rattle.std.specs.Prelude.{◌≡◌, ◌≤◌, ◌<◌, ℕ, List, length, slice_get, Some}
use Rattle.hg_changeset.specs.Contents.{Contents}
use Rattle.hg_changeset.specs.Changeset.{node_of}
use Rattle.hg_phases.specs.State.{changesets}
use Rattle.hg_view.specs.Common.{IsFree}
use Rattle.hg_view.specs.Kept.{KeptValue}
use Rattle.hg_discovery.specs.declared.compared.Compared.{Compared}

-- none of the first from this place on collides with one of the second
abbrev pub AreFreeFrom : List Contents → ℕ → List Contents → Type 0
AreFreeFrom cs from ds = (j : ℕ) (c : Contents) → from ≤ j → slice_get cs j ≡ Some c → IsFree c ds

-- none of so many of the first collides with one of so many of the second
pub record AreCompared (cs ds : List Contents) (x : Compared) : Type 0 where
  pub ours : x.ours ≤ length cs
  pub theirs : x.theirs ≤ length ds
  pub free : (j k : ℕ) (c d : Contents) → j < x.ours → k < x.theirs → slice_get cs j ≡ Some c → slice_get ds k ≡ Some d
      → node_of c ≡ node_of d → c ≡ d

-- all of the first were compared with all of the second
abbrev pub AreAllCompared : List Contents → List Contents → Compared → Type 0
AreAllCompared cs ds x = (x.ours ≡ length cs) × (x.theirs ≡ length ds)

-- what two replicas hold was compared so far
abbrev pub WereCompared : KeptValue → KeptValue → Compared → Type 0
WereCompared ours theirs x = AreCompared (changesets ours.replica.history) (changesets theirs.replica.history) x

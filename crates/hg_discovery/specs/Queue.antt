-- What a walk decides, and its queue.
use Rattle.std.specs.Prelude.{◌≡◌, ℕ, ◌+◌, List, ◌++◌, length, slice_get, ◌⊎◌, Contains}
use Rattle.hg_discovery.specs.declared.finding.Finding.{Finding}
use Rattle.hg_discovery.specs.declared.finding.Finding.TheVariants.{Undecided}
use Rattle.hg_discovery.specs.Search.{Is}
use Rattle.hg_discovery.specs.Rounds.{undecided}

-- some undecided places of which P holds are decided so now, and queued; all else is as it was
pub record Grows (P : ℕ → Type 0) (d : Finding) (old : List Finding) (queue : List ℕ) (new : List Finding)
    (next : List ℕ) : Type 0 where
  pub more : List ℕ
  pub longer : next ≡ queue ++ more
  pub len : length new ≡ length old
  pub changed : (k : ℕ) → (slice_get new k ≡ slice_get old k)
      ⊎ (Is old Undecided k × Is new d k × P k × Contains more k)
  pub queued : (k : ℕ) → Contains more k → Is old Undecided k × Is new d k × P k
  pub count : undecided new + length next ≡ undecided old + length queue

-- all undecided places of which P holds are decided so now
abbrev pub AreTaken : (ℕ → Type 0) → Finding → List Finding → List Finding → Type 0
AreTaken P d old new = (k : ℕ) → P k → Is old Undecided k → Is new d k

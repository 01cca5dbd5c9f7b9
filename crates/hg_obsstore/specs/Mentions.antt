-- What a store tells of one id.
use Rattle.std.specs.Prelude.{ℕ, List}

-- the places of the markers that name it, in each role
pub record MentionLists : Type 0 where
  pub as_predecessor : List ℕ
  pub as_successor : List ℕ
  pub as_parent : List ℕ

-- All that is so of one changeset.
use Rattle.std.specs.Prelude.{◌↔◌, IsTrue, MatchOption}
use Rattle.hg_changeset.specs.declared.node.Node.{Node}
use Rattle.hg_history.specs.Content.{IsHeld}
use Rattle.hg_replica.specs.Content.{content_of}
use Rattle.hg_replica.specs.Evolution.{HasPhase, IsObsolete, IsOrphan, IsSuspended, IsExtinct, IsPhaseDivergent}
use Rattle.hg_instab.specs.Instabilities.{IsContentDivergent}
use Rattle.hg_view.specs.Kept.{KeptValue}
use Rattle.hg_view.specs.Pins.{IsVisibleUnder}
use Rattle.hg_view.specs.declared.status.Status.{Status}

-- its phase, where it is held; which kinds it is of; and whether it is visible under the pins
pub record IsStatus (s : KeptValue) (n : Node) (status : Status) : Type 0 where
  pub phase : MatchOption status.phase (¬ (IsHeld (content_of s.replica).0 n)) (HasPhase (content_of s.replica) n)
  pub obsolete : IsTrue status.obsolete ↔ IsObsolete (content_of s.replica) n
  pub orphan : IsTrue status.orphan ↔ IsOrphan (content_of s.replica) n
  pub suspended : IsTrue status.suspended ↔ IsSuspended (content_of s.replica) n
  pub extinct : IsTrue status.extinct ↔ IsExtinct (content_of s.replica) n
  pub phase_divergent : IsTrue status.phase_divergent ↔ IsPhaseDivergent (content_of s.replica) n
  pub content_divergent : IsTrue status.content_divergent ↔ IsContentDivergent (content_of s.replica) n
  pub visible : IsTrue status.visible ↔ IsVisibleUnder (content_of s.replica) s.pins n

-- What peers agree on that have one content, and what they see under their pins.
use Rattle.std.specs.Prelude.{◌↔◌}
use Rattle.hg_changeset.specs.declared.node.Node.{Node}
use Rattle.hg_changeset.specs.Contents.{Contents}
use Rattle.hg_phases.specs.declared.phase.Phase.{Phase}
use Rattle.hg_marker.specs.Fields.{Fields}
use Rattle.hg_history.specs.Content.{IsHeldAs}
use Rattle.hg_replica.specs.Content.{Content, content_of}
use Rattle.hg_replica.specs.Evolution.{HasPhase, IsMarker, IsObsolete, IsOrphan, IsSuspended, IsExtinct}
use Rattle.hg_replica.specs.Evolution.{IsPhaseDivergent, IsVisible}
use Rattle.hg_instab.specs.Instabilities.{IsContentDivergent}
use Rattle.hg_view.specs.Kept.{KeptValue}
use Rattle.hg_view.specs.Pins.{IsVisibleUnder, IsServedUnder}

-- the same changesets, phases, markers and instabilities, and the same visible set where nothing is pinned
pub record Agree (f g : Content) : Type 0 where
  pub changesets : (n : Node) (c : Contents) → IsHeldAs f.0 n c ↔ IsHeldAs g.0 n c
  pub phases : (n : Node) (k : Phase) → HasPhase f n k ↔ HasPhase g n k
  pub markers : (m : Fields) → IsMarker f m ↔ IsMarker g m
  pub obsolete : (n : Node) → IsObsolete f n ↔ IsObsolete g n
  pub orphan : (n : Node) → IsOrphan f n ↔ IsOrphan g n
  pub suspended : (n : Node) → IsSuspended f n ↔ IsSuspended g n
  pub extinct : (n : Node) → IsExtinct f n ↔ IsExtinct g n
  pub phase_divergent : (n : Node) → IsPhaseDivergent f n ↔ IsPhaseDivergent g n
  pub content_divergent : (n : Node) → IsContentDivergent f n ↔ IsContentDivergent g n
  pub visible : (n : Node) → IsVisible f n ↔ IsVisible g n

-- the same visible set, each under its own pins, and the same that is served
pub record SeeTheSame (s t : KeptValue) : Type 0 where
  pub visible :
      (n : Node) → IsVisibleUnder (content_of s.replica) s.pins n ↔ IsVisibleUnder (content_of t.replica) t.pins n
  pub served :
      (n : Node) → IsServedUnder (content_of s.replica) s.pins n ↔ IsServedUnder (content_of t.replica) t.pins n

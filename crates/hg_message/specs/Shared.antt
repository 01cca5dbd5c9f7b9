-- What two replicas share: all that isn't secret, and every marker.
use Rattle.std.specs.Prelude.{◌≡◌, ◌≢◌, ◌↔◌, Some}
use Rattle.hg_changeset.specs.declared.node.Node.{Node}
use Rattle.hg_phases.specs.declared.phase.Phase.TheVariants.{Secret}
use Rattle.hg_phases.specs.State.{Held}
use Rattle.hg_marker.specs.Fields.{Fields}
use Rattle.hg_replica.specs.Content.{Content}
use Rattle.hg_replica.specs.Evolution.{IsMarker, IsObsolete, IsOrphan, IsPhaseDivergent}
use Rattle.hg_view.specs.Share.{IsShared}

-- held so under this id, and not secret
abbrev pub IsSharedAs : Content → Node → Held → Type 0
IsSharedAs f n h = (f.0 n ≡ Some h) × (h.phase ≢ Secret)

-- the same changesets that aren't secret, with the same phases, and the same markers
pub record ShareTheSame (f g : Content) : Type 0 where
  pub changesets : (n : Node) (h : Held) → IsSharedAs f n h ↔ IsSharedAs g n h
  pub markers : (m : Fields) → IsMarker f m ↔ IsMarker g m

-- of the changesets that both share, the same are obsolete, orphan and phase-divergent
pub record AgreeOnShared (f g : Content) : Type 0 where
  pub obsolete : (n : Node) → IsShared f n → IsObsolete f n ↔ IsObsolete g n
  pub orphan : (n : Node) → IsShared f n → IsOrphan f n ↔ IsOrphan g n
  pub phase_divergent : (n : Node) → IsShared f n → IsPhaseDivergent f n ↔ IsPhaseDivergent g n

-- no changeset that is held is secret
abbrev pub HasNoSecret : Content → Type 0
HasNoSecret f = (n : Node) (h : Held) → f.0 n ≡ Some h → h.phase ≢ Secret

-- What a few look-ups tell of a change: one that came with one new marker at most.
use Rattle.std.specs.Prelude.{◌⊎◌, List, Contains}
use Rattle.hg_changeset.specs.declared.node.Node.{Node}
use Rattle.hg_marker.specs.Fields.{Fields}
use Rattle.hg_replica.specs.Content.{Content, content_of}
use Rattle.hg_replica.specs.State.{ReplicaState}
use Rattle.hg_replica.specs.Evolution.{IsMutable, IsObsolete, IsPredecessor}
use Rattle.hg_instab.specs.Instabilities.{InstabilitySets}
use Rattle.hg_instab.specs.Local.{IsParentOf}
use Rattle.hg_instab.specs.Near.{IsNamed}
use Rattle.hg_instab.specs.Region.{IsOneNear}
use Rattle.hg_instab.specs.Walk.{IsFork}

-- it is in none of the sets of what is unstable or suspended, nor after something public
pub record IsInNoSet (sets : InstabilitySets) (n : Node) : Type 0 where
  pub orphan : ¬ (Contains sets.orphan n)
  pub suspended : ¬ (Contains sets.suspended n)
  pub after_public : ¬ (Contains sets.after_public n)
  pub content_divergent : ¬ (Contains sets.content_divergent n)

-- each of its parents is neither obsolete nor an orphan
abbrev pub StandsStably : Content → List Node → Node → Type 0
StandsStably g orphan n = (p : Node) → IsParentOf g p n → ¬ (IsObsolete g p ⊎ Contains orphan p)

-- it isn't public, and nothing stands on it
abbrev pub IsLeaf : Content → Node → Type 0
IsLeaf g n = IsMutable g n × ((c : Node) → ¬ (IsParentOf g n c))

-- no marker rewrote it, and it stands on nothing unstable
pub record IsStable (g : Content) (sets : InstabilitySets) (n : Node) : Type 0 where
  pub last : ¬ (IsPredecessor g n)
  pub stands : StandsStably g sets.orphan n

-- it was neither after something public nor near forks
pub record IsAway (sets : InstabilitySets) (n : Node) : Type 0 where
  pub after_public : ¬ (Contains sets.after_public n)
  pub near : ¬ (Contains sets.near_forks n)

-- what was added is stable, and was away from what can be divergent
abbrev pub AreStable : Content → InstabilitySets → List Node → Type 0
AreStable g sets added = (n : Node) → Contains added n → IsStable g sets n × IsAway sets n

-- what was lowered is stable, and was in no set of what is unstable
abbrev pub AreUnchanged : Content → InstabilitySets → List Node → Type 0
AreUnchanged g sets lowered = (n : Node) → Contains lowered n → IsStable g sets n × IsInNoSet sets n

-- what this marker rewrote, and no other did, is a leaf that was in no set of what is unstable; and the marker names
-- nothing that was near forks
pub record IsRewrittenLeaf (t : ReplicaState) (sets : InstabilitySets) (m : Fields) : Type 0 where
  pub leaf : IsLeaf (content_of t) m.predecessor
  pub once : ¬ (IsFork t.markers m.predecessor)
  pub in_no_set : IsInNoSet sets m.predecessor
  pub away : ¬ (IsOneNear (IsNamed m) sets.near_forks)

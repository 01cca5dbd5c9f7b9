-- What pins no longer uphold once one of them is taken away.
use Rattle.std.specs.Prelude.{◌≢◌, ◌⊎◌, ℕ, List, Contains}
use Rattle.hg_changeset.specs.declared.node.Node.{Node}
use Rattle.hg_changeset.specs.Contents.{Contents}
use Rattle.hg_graph.specs.Places.{IsAt}
use Rattle.hg_phases.specs.State.{changesets}
use Rattle.hg_replica.specs.State.{ReplicaState}
use Rattle.hg_replica.specs.Content.{Content, content_of}
use Rattle.hg_instab.specs.Local.{IsParentOf}

-- it is pinned, and isn't the one whose pin is taken away
abbrev pub IsPinnedBut : List Node → Node → Node → Type 0
IsPinnedBut pins but n = Contains pins n × (n ≢ but)

-- it was upheld, and doesn't go
abbrev pub IsLeft : List Node → List Node → Node → Type 0
IsLeft upheld gone n = Contains upheld n × ¬ (Contains gone n)

-- what stands at the place is left
abbrev pub IsLeftAt : List Contents → List Node → List Node → ℕ → Type 0
IsLeftAt cs upheld gone k = (n : Node) × IsAt cs n k × IsLeft upheld gone n

-- another pin upholds it, or a child that is left
abbrev pub IsUpheldStill : Content → List Node → Node → List Node → List Node → Node → Type 0
IsUpheldStill f pins but upheld gone n =
    IsPinnedBut pins but n ⊎ ((c : Node) × IsLeft upheld gone c × IsParentOf f n c)

-- what goes isn't upheld still, and what is left is
pub record AreReleased (f : Content) (pins : List Node) (but : Node) (upheld gone : List Node) : Type 0 where
  pub not_upheld : (n : Node) → Contains gone n → ¬ (IsUpheldStill f pins but upheld gone n)
  pub upheld_still : (n : Node) → IsLeft upheld gone n → IsUpheldStill f pins but upheld gone n

-- on the way there: what is left is upheld still, or waits
pub record AreReleasing (s : ReplicaState) (pins : List Node) (but : Node) (upheld gone : List Node)
    (waiting : List ℕ) : Type 0 where
  pub not_upheld : (n : Node) → Contains gone n → ¬ (IsUpheldStill (content_of s) pins but upheld gone n)
  pub upheld_still : (n : Node) (k : ℕ) → IsAt (changesets s.history) n k → IsLeft upheld gone n
      → ¬ (Contains waiting k) → IsUpheldStill (content_of s) pins but upheld gone n

-- A whole discovery, while the other side and its pins stand still.
use Rattle.std.specs.Prelude.{◌≡◌, Bool, List}
use Rattle.hg_changeset.specs.declared.node.Node.{Node}
use Rattle.hg_replica.specs.State.{ReplicaState}
use Rattle.hg_replica.specs.Content.{content_of}
use Rattle.hg_discovery.specs.Search.{Search}
use Rattle.hg_discovery.specs.Start.{IsStart, AreCommonHeads}
use Rattle.hg_discovery.specs.Rounds.{AreKnownRounds, undecided}

-- the answers from first to last, under the pins of the other side, and what was known before and after them
pub record IsDiscovery (ours theirs : ReplicaState) (pins : List Node) (end : Search) : Type 0 where
  pub start : Search
  pub rounds : List (List Bool)
  pub starts : IsStart ours.history start
  pub answered : AreKnownRounds (content_of theirs) pins start rounds end
  pub done : undecided end.decided ≡ 0

-- the heads of what is common once nothing is undecided
abbrev pub AreHeadsInCommon : ReplicaState → ReplicaState → List Node → List Node → Type 0
AreHeadsInCommon ours theirs pins heads =
    (end : Search) × IsDiscovery ours theirs pins end × AreCommonHeads end heads

-- What the other side serves is closed under the asker's ancestors.
use Rattle.std.proofs.Common.{◌≡◌, ◌↔◌, List, Bool}
use Rattle.hg_changeset.specs.declared.node.Node.{Node}
use Rattle.hg_graph.specs.Graph.{Holds}
use Rattle.hg_phases.specs.declared.phase.Phase.TheVariants.{Secret}
use Rattle.hg_phases.specs.State.{changesets, IsPhaseOf}
use Rattle.hg_replica.specs.State.{ReplicaState, IsValid}
use Rattle.hg_replica.specs.Content.{content_of}
use Rattle.hg_view.specs.Common.{AreFree}
use Rattle.hg_view.specs.Pins.{IsServedUnder}
use Rattle.hg_view.proofs.CommonLemmas.{parent_served}
use Rattle.hg_discovery.specs.Search.{Search}
use Rattle.hg_discovery.specs.Start.{IsStart}
use Rattle.hg_discovery.specs.Rounds.{AreKnownRounds, IsCommon, undecided}
use Rattle.hg_discovery.proofs.CountLemmas.{some_undecided}
use Rattle.hg_discovery.proofs.RoundLemmas.{common_is_served}

module _ (ours theirs : ReplicaState) (pins : List Node) (valid : IsValid theirs)
    (free : AreFree (changesets ours.history) (changesets theirs.history)) where
  pub common_is_known : (start t : Search) (rounds : List (List Bool)) → IsStart ours.history start
      → AreKnownRounds (content_of theirs) pins start rounds t → undecided t.decided ≡ 0
      → (n : Node) → IsCommon t n ↔ (Holds (changesets ours.history) n × (IsPhaseOf ours.history n Secret → ⊥)
      × IsServedUnder (content_of theirs) pins n)
  common_is_known start t rounds is run done = common_is_served ours.history start is
      (IsServedUnder (content_of theirs) pins) (parent_served ours theirs pins valid free) rounds t run
      (some_undecided t.decided done)

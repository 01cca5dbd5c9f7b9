-- What a message keeps back.
use Rattle.std.specs.Prelude.{◌≡◌, ℕ, List, Ok, Contains}
use Rattle.hg_changeset.specs.declared.node.Node.{Node}
use Rattle.hg_changeset.specs.Contents.{Contents}
use Rattle.hg_changeset.specs.Changeset.{node_of}
use Rattle.hg_phases.specs.declared.phase.Phase.{Phase}
use Rattle.hg_phases.specs.declared.phase.Phase.TheVariants.{Secret}
use Rattle.hg_replica.specs.Content.{Content, content_of}
use Rattle.hg_replica.specs.Evolution.{HasPhase}
use Rattle.hg_message.specs.Value.{MessageValue}
use Rattle.hg_message.specs.Message.{message_at}
use Rattle.hg_world.specs.Made.{IsMade}
use Rattle.hg_peer.specs.Words.{PeerWorld, PeerTrace, peer_state, peer_words}

-- neither a record nor a bound of the message is of a changeset that is secret
pub record HoldsNoSecret (f : Content) (m : MessageValue) : Type 0 where
  pub changesets : (c : Contents) → Contains m.changesets c → ¬ (HasPhase f (node_of c) Secret)
  pub bounds : (b : Node × Phase) → Contains m.bounds b → ¬ (HasPhase f b.0 Secret)

-- an Offer of the run made the message; the bytes say one, and that holds no changeset that was secret at the state
-- which the Offer read
pub record IsMadeWithoutSecrets (old : PeerWorld) (t : PeerTrace) (number : ℕ) (bytes : List ℕ) : Type 0 where
  pub made : IsMade peer_state peer_words old t number bytes
  pub message : MessageValue
  pub says : message_at bytes ≡ Ok message
  pub secrets : HoldsNoSecret (content_of made.maker.replica) message

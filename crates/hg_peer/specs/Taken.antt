-- Messages that a peer can take, since it held what they were offered above.
use Rattle.std.specs.Prelude.{◌≡◌, ℕ, List, Some, slice_get}
use Rattle.hg_replica.specs.Content.{content_of}
use Rattle.hg_view.specs.Kept.{KeptValue}
use Rattle.hg_message.specs.Offer.{AreHeld}
use Rattle.hg_message.specs.Taken.{DontCollide}
use Rattle.hg_world.specs.Runs.{AllValid}
use Rattle.hg_peer.specs.declared.ask.Ask.{Ask}
use Rattle.hg_peer.specs.Peers.{Offers}
use Rattle.hg_peer.specs.Words.{PeerWorld, PeerTrace, PeersRan, peer_state}

-- the message with this number was offered above common nodes, and the peer at the place held these before some events,
-- or holds them now. No id stands for two changesets
pub record IsAboveHeld (now : PeerWorld) (place number : ℕ) : Type 0 where
  pub maker : KeptValue
  pub ask : Ask
  pub bytes : List ℕ
  pub offered : Offers maker ask bytes
  pub message : slice_get now.messages number ≡ Some bytes
  pub earlier : PeerWorld
  pub since : PeerTrace
  pub valid : AllValid peer_state earlier
  pub ran : PeersRan earlier since now
  pub before : KeptValue
  pub was : slice_get earlier.nodes place ≡ Some before
  pub held : AreHeld (content_of before.replica) ask.common.items
  pub node : KeptValue
  pub there : slice_get now.nodes place ≡ Some node
  pub free : DontCollide (content_of maker.replica) (content_of node.replica)

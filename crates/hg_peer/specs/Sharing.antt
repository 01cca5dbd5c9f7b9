-- Two whole offers, one each way.
use Rattle.std.specs.Prelude.{◌≡◌, ◌⊎◌, ℕ, List, Some, Contains, slice_get}
use Rattle.hg_message.specs.declared.scope.Scope.TheVariants.{Whole}
use Rattle.hg_message.specs.Offer.{AreHeld}
use Rattle.hg_message.specs.Shared.{ShareTheSame, AgreeOnShared, HasNoSecret}
use Rattle.hg_message.specs.Taken.{DontCollide}
use Rattle.hg_replica.specs.State.{IsValid, IsSameState}
use Rattle.hg_replica.specs.Least.{PartValue}
use Rattle.hg_replica.specs.Content.{content_of, ContentCovers}
use Rattle.hg_view.specs.Kept.{KeptValue}
use Rattle.hg_view.specs.Pins.{AreSamePins}
use Rattle.hg_world.specs.Runs.{AllValid, joined}
use Rattle.hg_peer.specs.declared.ask.Ask.{Ask}
use Rattle.hg_peer.specs.Agreement.{Agree, SeeTheSame}
use Rattle.hg_peer.specs.Peers.{Offers, SpellsPart}
use Rattle.hg_peer.specs.Words.{PeerWorld, PeerTrace, PeersRan, accepted_by, peer_state}

-- a peer offered its whole scope, with these bytes, which say this part
pub record OffersWhole (maker : KeptValue) (ask : Ask) (bytes : List ℕ) (part : PartValue) : Type 0 where
  pub whole : ask.scope ≡ Whole
  pub offers : Offers maker ask bytes
  pub says : SpellsPart bytes part

-- in the old world the peer at a offered its whole scope. The one at b accepted that, and then, in the middle, offered
-- its own, and the one at a accepted that. From its own offer on each accepted nothing else but what it covered
-- already, as repeats are. Each held the common nodes above which the other offered, and no id stands for two
-- changesets
pub record ExchangeWhole (old new : PeerWorld) (a b : ℕ) : Type 0 where
  pub first : KeptValue
  pub first_there : slice_get old.nodes a ≡ Some first
  pub ask : Ask
  pub bytes : List ℕ
  pub part : PartValue
  pub offered : OffersWhole first ask bytes part
  pub middle : PeerWorld
  pub until : PeerTrace
  pub ran : PeersRan old until middle
  pub accepted : Contains (accepted_by until b) part
  pub second : KeptValue
  pub second_there : slice_get middle.nodes b ≡ Some second
  pub held : AreHeld (content_of second.replica) ask.common.items
  pub ask_back : Ask
  pub bytes_back : List ℕ
  pub part_back : PartValue
  pub offered_back : OffersWhole second ask_back bytes_back part_back
  pub held_back : AreHeld (content_of first.replica) ask_back.common.items
  pub since : PeerTrace
  pub ran_back : PeersRan middle since new
  pub accepted_back : Contains (accepted_by (joined until since) a) part_back
  pub nothing_else : (k : PartValue) → Contains (accepted_by (joined until since) a) k →
      (k ≡ part_back) ⊎ ContentCovers (content_of first.replica) k
  pub nothing_new : (k : PartValue) → Contains (accepted_by since b) k → ContentCovers (content_of second.replica) k
  pub free : DontCollide (content_of first.replica) (content_of second.replica)

-- afterwards both share the same
abbrev pub WholeOffersShareTheSame : Type 0
WholeOffersShareTheSame =
    (old new : PeerWorld) (a b : ℕ) (x y : KeptValue) → AllValid peer_state old → ExchangeWhole old new a b →
    slice_get new.nodes a ≡ Some x → slice_get new.nodes b ≡ Some y → IsValid x.replica →
    ShareTheSame (content_of x.replica) (content_of y.replica)

-- so they agree on what is obsolete, orphan and phase-divergent among what isn't secret
abbrev pub WholeOffersAgreeOnShared : Type 0
WholeOffersAgreeOnShared =
    (old new : PeerWorld) (a b : ℕ) (x y : KeptValue) → AllValid peer_state old → ExchangeWhole old new a b →
    slice_get new.nodes a ≡ Some x → slice_get new.nodes b ≡ Some y → IsValid x.replica →
    AgreeOnShared (content_of x.replica) (content_of y.replica)

-- all that two peers in one state agree on
pub record AreOne (x y : KeptValue) : Type 0 where
  pub sets : Agree (content_of x.replica) (content_of y.replica)
  pub state : IsValid y.replica → IsSameState x.replica y.replica
  pub views : AreSamePins x.pins y.pins → SeeTheSame x y

-- and where neither holds a secret changeset, they are in one state
abbrev pub WholeOffersWithoutSecretsAreAll : Type 0
WholeOffersWithoutSecretsAreAll =
    (old new : PeerWorld) (a b : ℕ) (x y : KeptValue) → AllValid peer_state old → ExchangeWhole old new a b →
    slice_get new.nodes a ≡ Some x → slice_get new.nodes b ≡ Some y → IsValid x.replica →
    HasNoSecret (content_of x.replica) → HasNoSecret (content_of y.replica) → AreOne x y

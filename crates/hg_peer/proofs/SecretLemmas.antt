-- What was secret at its maker stands in no message.
use Rattle.std.proofs.Common.{◌≡◌, ◌+◌, ◌++◌, ℕ, Some, List, [], ◌∷◌, length, slice_get, suc, sym, arith, ap, subst}
use Rattle.std.proofs.Common.{◌∙◌}
use Rattle.hg_changeset.specs.declared.node.Node.{Node}
use Rattle.hg_changeset.specs.Changeset.{node_of}
use Rattle.hg_replica.specs.Content.{Content, content_of}
use Rattle.hg_message.specs.Value.{MessageValue}
use Rattle.hg_message.specs.Offer.{SaysOffer}
use Rattle.hg_message.proofs.NamedLemmas.{named-not_secret}
use Rattle.hg_message.proofs.OfferLawLemmas.{named-changesets, named-bounds}
use Rattle.hg_world.specs.Made.{IsMade}
use Rattle.hg_peer.specs.Peers.{Offers}
use Rattle.hg_peer.specs.OfferLaws.{bytes_say_offer}
use Rattle.hg_peer.specs.Words.{PeerWorld, PeerTrace, peer_state, peer_words}
use Rattle.hg_peer.specs.Secrets.{HoldsNoSecret, IsMadeWithoutSecrets}

-- an offer names what its scope does, and nothing that is secret
no_secret : (f : Content) (pins common : List Node) (m : MessageValue) → SaysOffer f pins common m → HoldsNoSecret f m
no_secret f pins common m says = record {
  changesets = λ c at.
      named-not_secret f pins m.scope (node_of c) (named-changesets f pins common m says c at);
  bounds = λ b at. named-not_secret f pins m.scope b.0 (named-bounds f pins common m says b at);
}

from_first : (i : ℕ) → 0 + i ≡ i
from_first i = omega arith

one_later : (j i : ℕ) → suc j + i ≡ suc (j + i)
one_later j i = omega arith

get_after : {X : Type 0} (xs ys : List X) (i : ℕ) → slice_get (xs ++ ys) (length xs + i) ≡ slice_get ys i
get_after [] ys i = ap (slice_get ys) (from_first i)
get_after (x ∷ xs) ys i = ap (slice_get (x ∷ (xs ++ ys))) (one_later (length xs) i) ∙ get_after xs ys i

module _ (old new : PeerWorld) (t : PeerTrace) where
  without-secrets : (number : ℕ) (bytes : List ℕ) → IsMade peer_state peer_words old t number bytes →
      IsMadeWithoutSecrets old t number bytes
  without-secrets number bytes made =
      let h : Offers made.maker made.ask bytes = made.offers in
      record {
        made = made;
        message = h.message;
        says = bytes_say_offer made.maker made.ask bytes h;
        secrets =
            no_secret (content_of made.maker.replica) made.maker.pins made.ask.common.items h.message
            h.offered.0.says;
      }

  module _ (added : List (List ℕ)) (longer : new.messages ≡ old.messages ++ added) (made : (i : ℕ) (bytes : List ℕ) →
      slice_get added i ≡ Some bytes → IsMade peer_state peer_words old t (length old.messages + i) bytes) where
    pub added-keep : (i : ℕ) (bytes : List ℕ) → slice_get new.messages (length old.messages + i) ≡ Some bytes →
        IsMadeWithoutSecrets old t (length old.messages + i) bytes
    added-keep i bytes at =
        let found : slice_get added i ≡ Some bytes =
        sym (get_after old.messages added i) ∙ ap (λ (ms : List (List ℕ)). slice_get ms (length old.messages + i))
        (sym longer) ∙ at in
        without-secrets (length old.messages + i) bytes (made i bytes found)

    pub pool-keeps : (number : ℕ) (bytes : List ℕ) → old.messages ≡ [] → slice_get new.messages number ≡ Some bytes →
        IsMadeWithoutSecrets old t number bytes
    pool-keeps number bytes empty at =
        let same : length old.messages + number ≡ number =
        ap (λ (ms : List (List ℕ)). length ms + number) empty ∙ from_first number in
        subst (λ (k : ℕ). IsMadeWithoutSecrets old t k bytes) same
        (added-keep number bytes (subst (λ (k : ℕ). slice_get new.messages k ≡ Some bytes) (sym same) at))

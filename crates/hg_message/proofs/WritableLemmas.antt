-- What a replica offers can be written, unless it is too large, and what is written is read back.
use Rattle.std.proofs.Common.{◌≡◌, false, List, Some, Ok, All, subst}
use Rattle.std.proofs.lemmas.List.Elements.{All-contains}
use Rattle.hg_changeset.specs.declared.node.Node.{Node}
use Rattle.hg_changeset.specs.Node.{IsNode}
use Rattle.hg_changeset.specs.Changeset.{node_of, IsChangeset}
use Rattle.hg_marker.specs.Grammar.{IsMarker}
use Rattle.hg_phases.specs.State.{Held}
use Rattle.hg_replica.specs.State.{ReplicaState, IsValid}
use Rattle.hg_replica.specs.Content.{content_of}
use Rattle.hg_replica.proofs.ContentLemmas.{content-valid}
use Rattle.hg_replica.proofs.MarkerLemmas.{in_from_holds}
use Rattle.hg_message.specs.Value.{MessageValue, is_too_large}
use Rattle.hg_message.specs.Message.{message_at}
use Rattle.hg_message.specs.Spelling.{HasNode, IsWritable, message_spelling}
use Rattle.hg_message.specs.Offer.{IsOffer}
use Rattle.hg_message.proofs.ExistLemmas.{all_by_members}
use Rattle.hg_message.proofs.OfferLemmas.{not-too-large}
use Rattle.hg_message.proofs.NamedLemmas.{named_marker-held}
use Rattle.hg_message.proofs.SpellingLemmas.{spelling_is_read}
use Rattle.hg_message.proofs.WritingLemmas.{writable_spells}

module _ (s : ReplicaState) (valid : IsValid s) (markers : All IsMarker s.markers) where
  -- what is held is a changeset, under its id
  held_is : (n : Node) (h : Held) → (content_of s).0 n ≡ Some h → IsNode n × IsChangeset h.changeset
  held_is n h e =
      let named = (content-valid s valid).named n h e in
      (subst IsNode named.0 named.1.node, named.1)

  pub offer-writable : (pins common : List Node) (m : MessageValue) → IsOffer s pins common m → is_too_large m ≡ false
      → IsWritable m
  offer-writable pins common m offer e = record {
    message = not-too-large m e;
    changesets = all_by_members IsChangeset m.changesets (λ c at.
        let held = ((offer.says.changesets c).0 at).0 in
        subst IsChangeset held.2 (held_is (node_of c) held.0 held.1).1);
    bounds = all_by_members HasNode m.bounds (λ b at.
        let held = ((offer.says.bounds b).0 at).0.1 in
        record { is_node = (held_is b.0 held.0 held.1).0 });
    markers = all_by_members IsMarker m.markers (λ k at.
        All-contains IsMarker s.markers k markers (in_from_holds s.markers k
        (named_marker-held (content_of s) pins m.scope k ((offer.says.markers k).0 at))));
  }

  -- and is read back from its bytes
  pub offer-read : (pins common : List Node) (m : MessageValue) → IsOffer s pins common m → is_too_large m ≡ false
      → message_at (message_spelling m) ≡ Ok m
  offer-read pins common m offer e = spelling_is_read m (message_spelling m)
      (writable_spells m (offer-writable pins common m offer e))

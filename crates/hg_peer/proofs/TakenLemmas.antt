-- What becomes of a message that was offered above what its taker holds.
use Rattle.std.proofs.Common.{◌≡◌, ℕ, inl, inr, List, Some, slice_get, refl, sym, ap, subst, ◌∙◌}
use Rattle.std.proofs.lemmas.Option.{none-some, same_Some}
use Rattle.hg_history.specs.declared.fault.Fault.{Fault}
use Rattle.hg_history.specs.ContentLaws.{admitted_faultless}
use Rattle.hg_replica.specs.Least.{PartValue}
use Rattle.hg_replica.specs.Change.{ChangeValue}
use Rattle.hg_replica.specs.Content.{content_of, IsValidContent, ContentBelow, ContentAdmits, ContentAfter}
use Rattle.hg_view.specs.Kept.{KeptValue}
use Rattle.hg_message.specs.declared.scope.Scope.{Scope}
use Rattle.hg_message.specs.Part.{part_of}
use Rattle.hg_message.specs.Offer.{AreHeld}
use Rattle.hg_message.specs.Taken.{HoldsNamed}
use Rattle.hg_message.proofs.TakenLemmas.{taken-admitted, taken-named, common_later}
use Rattle.hg_world.specs.declared.event.Event.TheVariants.{Take}
use Rattle.hg_world.specs.declared.event.EventRefusal.{EventRefusal}
use Rattle.hg_world.specs.declared.event.EventRefusal.TheVariants.{NoNode, NoMessage, ByActor, ByState}
use Rattle.hg_world.specs.Runs.{Snapshot, AllLeast, Accepts, Refuses, IsReason, IsMemory}
use Rattle.hg_world.proofs.Places.{get_set_same}
use Rattle.hg_peer.specs.declared.refusal.PeerRefusal.{PeerRefusal}
use Rattle.hg_peer.specs.Peers.{SpellsPart}
use Rattle.hg_peer.specs.BytesLaws.{spelled_not_refused}
use Rattle.hg_peer.specs.OfferLaws.{part_offered, bytes_say_offer}
use Rattle.hg_peer.specs.Words.{peer_state, peer_words}
use Rattle.hg_peer.specs.Taken.{IsAboveHeld}

module _ (now : Snapshot KeptValue) (place number : ℕ) (h : IsAboveHeld now place number)
    (least : AllLeast peer_state h.earlier h.since.events h.since.parts now) where
  there_valid : IsValidContent (content_of h.node.replica)
  there_valid =
      let l = least place h.before h.was in
      subst (λ (s : KeptValue). IsValidContent (content_of s.replica)) (same_Some l.0 h.node (sym l.1 ∙ h.there))
      l.2.valid

  there_held : AreHeld (content_of h.node.replica) h.ask.common.items
  there_held =
      let l = least place h.before h.was in
      let up : ContentBelow (content_of h.before.replica) (content_of h.node.replica) =
      subst (λ (s : KeptValue). ContentBelow (content_of h.before.replica) (content_of s.replica))
      (same_Some l.0 h.node (sym l.1 ∙ h.there)) l.2.above in
      common_later h.ask.common.items (content_of h.before.replica) (content_of h.node.replica) h.held up

  -- the part of the message, whoever reads it
  part_is : (bytes : List ℕ) (part : PartValue) → slice_get now.messages number ≡ Some bytes → SpellsPart bytes part →
      part_of h.offered.message ≡ part
  part_is bytes part at spells =
      let same : bytes ≡ h.bytes = same_Some bytes h.bytes (sym at ∙ h.message) in
      part_offered h.maker h.ask h.bytes part h.offered (subst (λ (b : List ℕ). SpellsPart b part) same spells)

  admitted : (bytes : List ℕ) (part : PartValue) → slice_get now.messages number ≡ Some bytes → SpellsPart bytes part →
      ContentAdmits (content_of h.node.replica) part
  admitted bytes part at spells =
      subst (ContentAdmits (content_of h.node.replica)) (part_is bytes part at spells)
      (taken-admitted h.maker.replica h.offered.valid h.maker.pins h.ask.common.items h.offered.message
      h.offered.offered.0 (content_of h.node.replica) there_valid there_held h.free)

  reason : (refusal : EventRefusal PeerRefusal Fault) →
      IsReason peer_state peer_words now.messages h.node (Take place number) refusal →
      IsMemory peer_state peer_words refusal
  reason NoNode r = absurd r
  reason NoMessage r = absurd (none-some h.bytes (sym r ∙ h.message))
  reason (ByActor refusal) r = elim r.2 [
    | inl against ↦
        let same : h.bytes ≡ r.0 = same_Some h.bytes r.0 (sym h.message ∙ r.1) in
        absurd (spelled_not_refused r.0 (part_of h.offered.message) refusal
        (subst (λ (b : List ℕ). SpellsPart b (part_of h.offered.message)) same
        (h.offered.message, bytes_say_offer h.maker h.ask h.bytes h.offered, refl)) against)
    | inr memory ↦ memory
  ]
  reason (ByState fault) r = elim r.4 [
    | inl is ↦
        absurd
        (admitted_faultless (content_of h.node.replica).0 r.2.history fault there_valid (admitted r.0 r.2 r.1 r.3) is)
    | inr memory ↦ memory
  ]

  pub only_memory : (refusal : EventRefusal PeerRefusal Fault) (new : Snapshot KeptValue) →
      Refuses peer_state peer_words now (Take place number) refusal new → IsMemory peer_state peer_words refusal
  only_memory refusal new r = elim r.0 [
    | inl gone ↦ absurd (none-some h.node (sym gone.1 ∙ h.there))
    | inr w ↦
        reason refusal
        (subst (λ (s : KeptValue). IsReason peer_state peer_words now.messages s (Take place number) refusal)
        (same_Some w.0 h.node (sym w.1 ∙ h.there)) w.2)
  ]

  pub taken_there : (change : ChangeValue) (part : PartValue) (new : Snapshot KeptValue) →
      Accepts peer_state peer_words now (Take place number) change part new →
      (next : KeptValue) × (slice_get new.nodes place ≡ Some next)
      × HoldsNamed (content_of h.maker.replica) h.maker.pins h.ask.scope (content_of next.replica)
  taken_there change part new a =
      let same : a.0 ≡ h.node = same_Some a.0 h.node (sym a.2 ∙ h.there) in
      let after : ContentAfter (content_of h.node.replica) part (content_of a.1.replica) =
      subst (λ (s : KeptValue). ContentAfter (content_of s.replica) part (content_of a.1.replica)) same a.4.after in
      let told : ContentAfter (content_of h.node.replica) (part_of h.offered.message) (content_of a.1.replica) =
      subst (λ (p : PartValue). ContentAfter (content_of h.node.replica) p (content_of a.1.replica))
      (sym (part_is a.3.0 part a.3.1 a.3.2)) after in (
        a.1,
        ap (λ (nodes : List KeptValue). slice_get nodes place) a.5 ∙ get_set_same now.nodes place a.0 a.1 a.2,
        subst (λ (scope : Scope). HoldsNamed (content_of h.maker.replica) h.maker.pins scope (content_of a.1.replica))
            h.offered.offered.1
            (taken-named h.maker.replica h.offered.valid h.maker.pins h.ask.common.items h.offered.message
            h.offered.offered.0 (content_of h.node.replica) there_valid there_held h.free (content_of a.1.replica)
            told),
      )

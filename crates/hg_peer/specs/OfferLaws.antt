-- The laws of what a peer offers.
use Rattle.std.specs.Prelude.{◌≡◌, ◌↔◌, ℕ, List, Ok, refl}
use Rattle.std.proofs.Common.{sym, ap, subst, ◌∙◌}
use Rattle.hg_join.specs.Order.{SaySame}
use Rattle.hg_graph.proofs.GraphLemmas.{Contains-from_place}
use Rattle.hg_replica.specs.Least.{PartValue}
use Rattle.hg_replica.specs.Content.{Content, content_of, IsValidContent, ContentCovers}
use Rattle.hg_view.specs.Kept.{KeptValue}
use Rattle.hg_message.specs.declared.scope.Scope.{Scope}
use Rattle.hg_message.specs.declared.refusal.OfferRefusal.TheVariants.{UnknownCommon, TooLarge}
use Rattle.hg_message.specs.declared.refusal.OfferRefusal.TheVariants as offer
use Rattle.hg_message.specs.Message.{message_at}
use Rattle.hg_message.specs.Spelling.{message_spelling}
use Rattle.hg_message.specs.Part.{part_of}
use Rattle.hg_message.specs.Offer.{SaysOffer, SayTheSame}
use Rattle.hg_message.proofs.SpellingLemmas.{said_once}
use Rattle.hg_message.specs.Value.{IsMessage}
use Rattle.hg_message.proofs.OfferLemmas.{small-or-large}
use Rattle.hg_message.proofs.OfferLawLemmas.{offer-once, offer-covered, offers-say_the_same, same-covered}
use Rattle.hg_message.proofs.OfferLawLemmas.{says-members}
use Rattle.hg_peer.specs.declared.refusal.PeerRefusal.{PeerRefusal}
use Rattle.hg_peer.specs.declared.refusal.PeerRefusal.TheVariants.{Rewrite, Offer, Message, View, NoMemory}
use Rattle.hg_peer.specs.declared.ask.Ask.{Ask}
use Rattle.hg_peer.specs.Marks.{own}
use Rattle.hg_peer.specs.MarkLaws.{same_pins}
use Rattle.hg_peer.specs.Peers.{Offers, IsAgainstOffer, SpellsPart, IsMemory}

-- ---- one offer, and its bytes say it

-- what is asked for one scope has one
one_scope : {j k scope : Scope} → j ≡ scope → k ≡ scope → j ≡ k
one_scope a b = a ∙ sym b

pub offered_once : (s : KeptValue) (ask : Ask) (bytes others : List ℕ) →
    IsValidContent (content_of s.replica) → Offers s ask bytes → Offers s ask others → bytes ≡ others
offered_once s ask bytes others v h k =
    h.written
    ∙ ap message_spelling (offer-once s.replica s.pins ask.common.items h.message k.message
    (one_scope h.offered.1 k.offered.1) h.offered.0 k.offered.0)
    ∙ sym k.written

pub bytes_say_offer : (s : KeptValue) (ask : Ask) (bytes : List ℕ) (h : Offers s ask bytes) →
    message_at bytes ≡ Ok h.message
bytes_say_offer s ask bytes h = subst (λ (b : List ℕ). message_at b ≡ Ok h.message) (sym h.written) h.writable.1

pub offered_spelled : (s : KeptValue) (ask : Ask) (bytes : List ℕ) →
    IsValidContent (content_of s.replica) → Offers s ask bytes → (p : PartValue) × SpellsPart bytes p
offered_spelled s ask bytes v h = (part_of h.message, (h.message, bytes_say_offer s ask bytes h, refl))

-- the part that is read of an offer's bytes is that of the offer
pub part_offered : (s : KeptValue) (ask : Ask) (bytes : List ℕ) (p : PartValue)
    (h : Offers s ask bytes) → SpellsPart bytes p → part_of h.message ≡ p
part_offered s ask bytes p h k =
    ap part_of (said_once h.message k.0 bytes (bytes_say_offer s ask bytes h) k.1) ∙ sym k.2

-- ---- no more than the state says, and the same for one content

pub offered_covered : (s : KeptValue) (ask : Ask) (bytes : List ℕ) (p : PartValue) →
    IsValidContent (content_of s.replica) → Offers s ask bytes → SpellsPart bytes p →
    ContentCovers (content_of s.replica) p
offered_covered s ask bytes p v h k =
    subst (ContentCovers (content_of s.replica)) (part_offered s ask bytes p h k)
    (offer-covered (content_of s.replica) s.pins ask.common.items h.message h.offered.0.says v)

pub offered_alike : (s t : KeptValue) (ask : Ask) (bytes others : List ℕ) (p q : PartValue) →
    IsValidContent (content_of s.replica) → content_of s.replica ≡ content_of t.replica → own s ≡ own t →
    Offers s ask bytes → Offers t ask others → SpellsPart bytes p → SpellsPart others q →
    SaySame IsValidContent ContentCovers p q
offered_alike s t ask bytes others p q v e pins h k x y c w =
    let one : part_of h.message ≡ p = part_offered s ask bytes p h x in
    let two : part_of k.message ≡ q = part_offered t ask others q k y in
    let moved : SaysOffer (content_of s.replica) t.pins ask.common.items k.message =
    subst (λ (f : Content). SaysOffer f t.pins ask.common.items k.message) (sym e) k.offered.0.says in
    let says : SaysOffer (content_of s.replica) s.pins ask.common.items k.message =
    says-members (content_of s.replica) s.pins t.pins ask.common.items k.message (same_pins s t pins) moved in
    let same : SayTheSame h.message k.message =
    offers-say_the_same (content_of s.replica) s.pins ask.common.items h.message k.message
    (one_scope h.offered.1 k.offered.1) h.offered.0.says says in
    let covered : ContentCovers c p ↔ ContentCovers c (part_of k.message) =
    subst (λ (r : PartValue). ContentCovers c r ↔ ContentCovers c (part_of k.message)) one
    (same-covered h.message k.message same c) in
    subst (λ (r : PartValue). ContentCovers c p ↔ ContentCovers c r) two covered

-- ---- an offer and a refusal exclude each other

pub offered_not_refused : (s : KeptValue) (ask : Ask) (bytes : List ℕ) (refusal : PeerRefusal) →
    IsValidContent (content_of s.replica) → Offers s ask bytes → IsAgainstOffer s ask refusal → ⊥
offered_not_refused s ask bytes (Rewrite refusal) v h k = k
offered_not_refused s ask bytes (Offer (UnknownCommon node)) v h k =
    k.2 (h.held node (Contains-from_place ask.common.items k.0 node k.1))
offered_not_refused s ask bytes (Offer TooLarge) v h k =
    small-or-large k.1.0
    (subst IsMessage (offer-once s.replica s.pins ask.common.items h.message k.1.0
    (one_scope h.offered.1 k.1.1.1) h.offered.0 k.1.1.0) h.writable.0) k.1.2
offered_not_refused s ask bytes (Offer offer.NoMemory) v h k = k
offered_not_refused s ask bytes (Message fault) v h k = k
offered_not_refused s ask bytes (View refusal) v h k = k
offered_not_refused s ask bytes NoMemory v h k = k

pub memory_not_against_offer : (s : KeptValue) (ask : Ask) (refusal : PeerRefusal) →
    IsMemory refusal → IsAgainstOffer s ask refusal → ⊥
memory_not_against_offer s ask (Rewrite refusal) h k = k
memory_not_against_offer s ask (Offer refusal) h k = cc
memory_not_against_offer s ask (Message fault) h k = k
memory_not_against_offer s ask (View refusal) h k = k
memory_not_against_offer s ask NoMemory h k = k

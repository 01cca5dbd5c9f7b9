-- Two whole offers, one each way, make two peers share one history.
use Rattle.std.proofs.Common.{◌≡◌, ◌<◌, ℕ, List, [], ◌∷◌, length, Some, Contains, inl, inr, sym, subst, ◌∙◌, slice_get}
use Rattle.std.proofs.lemmas.Option.{slice_get_within}
use Rattle.std.specs.List.{AllByRecursion}
use Rattle.std.proofs.lemmas.List.Elements.{All-contains, All-from_recursion}
use Rattle.hg_join.specs.Order.{IsLeastCovering}
use Rattle.hg_history.proofs.ContentLemmas.{admits_from_content}
use Rattle.hg_message.specs.declared.scope.Scope.{Scope}
use Rattle.hg_message.specs.declared.scope.Scope.TheVariants.{Whole}
use Rattle.hg_message.specs.Part.{part_of}
use Rattle.hg_message.specs.Shared.{ShareTheSame, AgreeOnShared, HasNoSecret}
use Rattle.hg_message.specs.Taken.{DontCollide, HoldsNamed}
use Rattle.hg_message.proofs.SharedLemmas.{shared-same, shared-agree, shared-all, flipped}
use Rattle.hg_message.proofs.ExistLemmas.{all_by_members}
use Rattle.hg_message.proofs.TakenLemmas.{covering-named, taken-admitted, taken-named}
use Rattle.hg_replica.specs.State.{IsValid}
use Rattle.hg_replica.specs.Least.{PartValue, IsAdmitted, AreAdmitted}
use Rattle.hg_replica.specs.Content.{Content, content_of, IsValidContent, ContentBelow, ContentCovers, ContentAdmits}
use Rattle.hg_replica.specs.Content.{ContentAfter}
use Rattle.hg_replica.specs.ContentLaws.{replicas_ordered, replicas_stay_covered}
use Rattle.hg_replica.proofs.ContentLemmas.{content-valid, content-after, same_from_content}
use Rattle.hg_replica.proofs.LeastLemmas.{forms-same}
use Rattle.hg_view.specs.Kept.{KeptValue}
use Rattle.hg_world.specs.Laws.{NodesAreLeast, NodesStayValid, NodesStayAsMany, RunsCompose}
use Rattle.hg_world.specs.Runs.{AllLeast, AllValid, joined}
use Rattle.hg_world.proofs.Places.{one_at, some_at}
use Rattle.hg_peer.specs.OfferLaws.{part_offered}
use Rattle.hg_peer.specs.Sharing.{ExchangeWhole, AreOne}
use Rattle.hg_peer.specs.Words.{PeerWorld, PeerTrace, PeersRan, accepted_by, peer_state, peer_words}
use Rattle.hg_peer.proofs.AgreeLemmas.{one_agrees, same_seen}
use Rattle.hg_peer.proofs.SmallestLemmas.{smallest}

-- what a peer is after a run: the least that covers what it accepted
least_at : (old new : PeerWorld) (t : PeerTrace) (place : ℕ) (before after : KeptValue) →
    AllLeast peer_state old t.events t.parts new → slice_get old.nodes place ≡ Some before →
    slice_get new.nodes place ≡ Some after → IsLeastCovering IsValidContent ContentBelow ContentCovers
    (content_of before.replica) (accepted_by t place) (content_of after.replica)
least_at old new t place before after all at_b at_a =
    let found = all place before at_b in
    subst (λ (s : KeptValue). IsLeastCovering IsValidContent ContentBelow ContentCovers (content_of before.replica)
    (accepted_by t place) (content_of s.replica)) (one_at new.nodes place found.0 after found.1 at_a) found.2

-- what accepts nothing new stays as it was
stays : (old new : PeerWorld) (t : PeerTrace) (place : ℕ) (before after : KeptValue) →
    AllLeast peer_state old t.events t.parts new → slice_get old.nodes place ≡ Some before →
    slice_get new.nodes place ≡ Some after → IsValidContent (content_of before.replica) →
    ((k : PartValue) → Contains (accepted_by t place) k → ContentCovers (content_of before.replica) k) →
    content_of after.replica ≡ content_of before.replica
stays old new t place before after all at_b at_a v none =
    let f = content_of before.replica in
    let least = least_at old new t place before after all at_b at_a in
    replicas_ordered.antisymmetric (content_of after.replica) f least.valid v
    (least.least f v (replicas_ordered.reflexive f v) (all_by_members (ContentCovers f) (accepted_by t place) none))
    least.above

-- the parts of what was accepted are covered
covers_one : (g : Content) (ks : List PartValue) (k : PartValue) → AllByRecursion (ContentCovers g) ks →
    Contains ks k → ContentCovers g k
covers_one g ks k all at = All-contains (ContentCovers g) ks k (All-from_recursion (ContentCovers g) ks all) at

apart_back : (f g : Content) → DontCollide f g → DontCollide g f
apart_back f g free n h k at_g at_f = sym (free n k h at_f at_g)

module _ (old new : PeerWorld) (a b : ℕ) (h : ExchangeWhole old new a b) (x y : KeptValue)
    (x_there : slice_get new.nodes a ≡ Some x) (y_there : slice_get new.nodes b ≡ Some y) (w : IsValid x.replica)
    (valid : AllValid peer_state old) (all_least : NodesAreLeast peer_state peer_words)
    (stay : NodesStayValid peer_state peer_words) (many : NodesStayAsMany peer_state peer_words)
    (compose : RunsCompose peer_state peer_words) where
  first_run : AllLeast peer_state old h.until.events h.until.parts h.middle
  first_run = all_least old h.middle h.until valid h.ran

  second_run : AllLeast peer_state h.middle h.since.events h.since.parts new
  second_run = all_least h.middle new h.since (stay old h.middle h.until valid h.ran) h.ran_back

  both : PeersRan old (joined h.until h.since) new
  both = compose old h.middle new h.until h.since h.ran h.ran_back

  abbrev f : Content
  f = content_of h.first.replica

  abbrev g : Content
  g = content_of h.second.replica

  valid_f : IsValidContent f
  valid_f = content-valid h.first.replica h.offered.offers.valid

  valid_g : IsValidContent g
  valid_g = content-valid h.second.replica h.offered_back.offers.valid

  -- ---- the first offer is taken

  covers : ContentCovers g (part_of h.offered.offers.message)
  covers =
      let within : b < length old.nodes = subst (λ (n : ℕ). b < n) (many old h.middle h.until h.ran)
      (slice_get_within h.middle.nodes b h.second h.second_there) in
      let before = some_at old.nodes b within in
      let least = least_at old h.middle h.until b before.0 h.second first_run before.1 h.second_there in
      subst (ContentCovers g)
      (sym (part_offered h.first h.ask h.bytes h.part h.offered.offers h.offered.says))
      (covers_one g (accepted_by h.until b) h.part least.covers h.accepted)

  there : HoldsNamed f h.first.pins Whole g
  there = subst (λ (scope : Scope). HoldsNamed f h.first.pins scope g)
      (h.offered.offers.offered.1 ∙ h.offered.whole)
      (covering-named h.first.replica h.offered.offers.valid h.first.pins h.ask.common.items h.offered.offers.message
      h.offered.offers.offered.0 g valid_g h.held h.free covers)

  -- ---- and then the second

  abbrev back_part : PartValue
  back_part = part_of h.offered_back.offers.message

  back_is : back_part ≡ h.part_back
  back_is = part_offered h.second h.ask_back h.bytes_back h.part_back h.offered_back.offers h.offered_back.says

  admits : ContentAdmits f back_part
  admits = taken-admitted h.second.replica h.offered_back.offers.valid h.second.pins h.ask_back.common.items
      h.offered_back.offers.message h.offered_back.offers.offered.0 f valid_f h.held_back (apart_back f g h.free)

  -- what it accepted is no more than that part, above what it covered
  least_with : IsLeastCovering IsValidContent ContentBelow ContentCovers f (back_part ∷ []) (content_of x.replica)
  least_with =
      let ks = accepted_by (joined h.until h.since) a in
      let least = least_at old new (joined h.until h.since) a h.first x
      (all_least old new (joined h.until h.since) valid both) h.first_there x_there in
      record {
        valid = least.valid;
        above = least.above;
        covers = (
          subst (ContentCovers (content_of x.replica)) (sym back_is)
              (covers_one (content_of x.replica) ks h.part_back least.covers h.accepted_back),
          tt,
        );
        least = λ u v up c. least.least u v up (all_by_members (ContentCovers u) ks (λ k at.
            elim (h.nothing_else k at) [
              | inl same ↦ subst (ContentCovers u) (back_is ∙ sym same) c.0
              | inr old ↦ replicas_stay_covered f u k valid_f v up old
            ]));
      }

  taken : ContentAfter f back_part (content_of x.replica)
  taken =
      let s = h.first.replica in
      let v = h.offered.offers.valid in
      let admitted : IsAdmitted s back_part = admits_from_content s.history back_part.history v.graph admits in
      let all : AreAdmitted s (back_part ∷ []) = (admitted, admits.each, λ t least. tt) in
      content-after s x.replica back_part v w admitted
      ((forms-same s x.replica (back_part ∷ []) v all).1
      (smallest s x.replica (back_part ∷ []) v w least_with))

  whole_back : h.offered_back.offers.message.scope ≡ Whole
  whole_back = h.offered_back.offers.offered.1 ∙ h.offered_back.whole

  back : HoldsNamed g h.second.pins Whole (content_of x.replica)
  back = subst (λ (scope : Scope). HoldsNamed g h.second.pins scope (content_of x.replica)) whole_back
      (taken-named h.second.replica h.offered_back.offers.valid h.second.pins h.ask_back.common.items
      h.offered_back.offers.message h.offered_back.offers.offered.0 f valid_f h.held_back (apart_back f g h.free)
      (content_of x.replica) taken)

  y_is : content_of y.replica ≡ g
  y_is = stays h.middle new h.since b h.second y second_run h.second_there y_there valid_g h.nothing_new

  pub shares : ShareTheSame (content_of x.replica) (content_of y.replica)
  shares = flipped (content_of y.replica) (content_of x.replica)
      (subst (λ (c : Content). ShareTheSame c (content_of x.replica)) (sym y_is)
      (shared-same f g (content_of x.replica) valid_g h.second.pins h.ask_back.common.items
      h.offered_back.offers.message h.offered_back.offers.offered.0.says whole_back there.changesets there.markers
      taken back))

  valid_y : IsValidContent (content_of y.replica)
  valid_y = subst IsValidContent (sym y_is) valid_g

  pub agrees : AgreeOnShared (content_of x.replica) (content_of y.replica)
  agrees = shared-agree (content_of x.replica) (content_of y.replica) (content-valid x.replica w) valid_y shares

  pub are_one : HasNoSecret (content_of x.replica) → HasNoSecret (content_of y.replica) → AreOne x y
  are_one none nor =
      let below = shared-all (content_of x.replica) (content_of y.replica) shares none nor in
      let same : content_of x.replica ≡ content_of y.replica =
      replicas_ordered.antisymmetric (content_of x.replica) (content_of y.replica) (content-valid x.replica w) valid_y
      below.0 below.1 in
      record {
        sets = one_agrees (content_of x.replica) (content_of y.replica) same;
        state = λ v. same_from_content x.replica y.replica w v same;
        views = same_seen x y same;
      }

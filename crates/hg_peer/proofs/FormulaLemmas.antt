-- What a peer accepted is admitted part after part, so its state is by the formula of the least state.
use Rattle.std.proofs.Common.{◌≡◌, ◌<◌, ℕ, ◌==◌, Option, Some, None, List, [], ◌∷◌, length, inl, inr, refl, sym, ap}
use Rattle.std.proofs.Common.{subst, ◌∙◌, arith}
use Rattle.std.specs.Prelude.{slice_get, slice_set}
use Rattle.std.proofs.lemmas.Bool.{cond-true, cond-false}
use Rattle.std.proofs.lemmas.Bool.Decides.{eqb_tells}
use Rattle.std.proofs.lemmas.Option.{slice_get_within}
use Rattle.hg_join.specs.Order.{IsLeastCovering, IsLeastOf}
use Rattle.hg_join.proofs.Least.{one_after}
use Rattle.hg_graph.proofs.GraphLemmas.{IsGraph-nil}
use Rattle.hg_history.proofs.ContentLemmas.{admits_from_content}
use Rattle.hg_replica.specs.State.{ReplicaState, IsValid, nothing_held}
use Rattle.hg_replica.specs.Least.{PartValue, IsAdmitted, AreAdmitted, IsSmallest}
use Rattle.hg_replica.specs.Content.{Content, content_of, IsValidContent, ContentBelow, ContentCovers, ContentAfter}
use Rattle.hg_replica.specs.ContentLaws.{replicas_ordered, replicas_stay_covered, replicas_absorbed}
use Rattle.hg_replica.proofs.ContentLemmas.{content-valid, content-after}
use Rattle.hg_replica.proofs.LeastLemmas.{least-valid, forms-same}
use Rattle.hg_view.specs.Kept.{KeptValue}
use Rattle.hg_world.specs.declared.event.Event.TheVariants.{Local, Offer, Take, Mark}
use Rattle.hg_world.specs.declared.event.Answer.TheVariants.{Accepted, Offered, Marked, Refused}
use Rattle.hg_world.specs.Runs.{place_of, Happens, Runs, accepted_at, AllLeast, AllEmpty}
use Rattle.hg_world.proofs.Places.{some_at, one_at, get_set_same, get_set_other}
use Rattle.hg_peer.proofs.PeerLemmas.{empty_is_least}
use Rattle.hg_peer.proofs.SmallestLemmas.{smallest}
use Rattle.hg_peer.specs.Laws.{IsLeastByFormula}
use Rattle.hg_peer.specs.MarkLaws.{marked_says_the_same}
use Rattle.hg_peer.specs.Words.{peer_words, peer_state, PeerEvent, PeerAnswer, PeerWorld, PeerTrace, PeersRan}
use Rattle.hg_peer.specs.Words.{accepted_by}

-- from any state with the content of the node at a place, what it accepts is admitted part after part
abbrev AdmittedFrom : ℕ → PeerWorld → List PartValue → Type 0
AdmittedFrom place w ks =
    (node : KeptValue) (s : ReplicaState) → slice_get w.nodes place ≡ Some node → IsValid s →
    content_of s ≡ content_of node.replica → AreAdmitted s ks

-- one part, and then the others
admitted_part : (s next : ReplicaState) (part : PartValue) (rest : List PartValue) → IsValid s →
    ContentAfter (content_of s) part (content_of next) →
    ((t : ReplicaState) → IsValid t → content_of t ≡ content_of next → AreAdmitted t rest) → AreAdmitted s (part ∷ rest)
admitted_part s next part rest v after k =
    let admitted : IsAdmitted s part = admits_from_content s.history part.history v.graph after.0.admitted in (
      admitted,
      after.0.admitted.each,
      λ t least.
          let w = least-valid s (part ∷ []) t least v in
          let same : content_of t ≡ content_of next =
          one_after replicas_ordered replicas_stay_covered replicas_absorbed (content_of s) (content_of t)
          (content_of next) part (content-valid s v) (content-after s t part v w admitted least) after in
          k t w same,
    )

admitted_step : (old mid : PeerWorld) (event : PeerEvent) (answer : PeerAnswer) (part : Option PartValue)
    (events : List PeerEvent) (parts : List (Option PartValue)) (place : ℕ) →
    Happens peer_state peer_words old event answer part mid →
    AdmittedFrom place mid (accepted_at peer_state place events parts) →
    AdmittedFrom place old (accepted_at peer_state place (event ∷ events) (part ∷ parts))
admitted_step old mid event (Accepted change) None events parts place h k = absurd h
admitted_step old mid event (Accepted change) (Some part) events parts place h k = λ node s at v e.
    let rest : List PartValue = accepted_at peer_state place events parts in
    elim (eqb_tells (place_of event) place) [
      | inl t ↦
          let got : slice_get mid.nodes place ≡ Some h.1 =
          rw h.5 (subst (λ (i : ℕ). slice_get (slice_set old.nodes (place_of event) h.1) i ≡ Some h.1) t.1
          (get_set_same old.nodes (place_of event) h.0 h.1 h.2)) in
          let there : slice_get old.nodes place ≡ Some h.0 =
          subst (λ (i : ℕ). slice_get old.nodes i ≡ Some h.0) t.1 h.2 in
          let same : node ≡ h.0 = one_at old.nodes place node h.0 at there in
          let from : content_of s ≡ content_of h.0.replica =
          e ∙ ap (λ (peer : KeptValue). content_of peer.replica) same in
          let after : ContentAfter (content_of s) part (content_of h.1.replica) =
          subst (λ (c : Content). ContentAfter c part (content_of h.1.replica)) (sym from) h.4.after in
          subst (AreAdmitted s) (sym (cond-true (place_of event == place) (part ∷ rest) rest t.0))
          (admitted_part s h.1.replica part rest v after (λ u w same_u. k h.1 u got w same_u))
      | inr ne ↦
          let got : slice_get mid.nodes place ≡ Some node =
          rw h.5 (get_set_other old.nodes (place_of event) place h.1 ne.1 ∙ at) in
          subst (AreAdmitted s) (sym (cond-false (place_of event == place) (part ∷ rest) rest ne.0)) (k node s got v e)
    ]
admitted_step old mid (Local i op) (Offered number) None events parts place h k = absurd h
admitted_step old mid (Take i m) (Offered number) None events parts place h k = absurd h
admitted_step old mid (Mark i mark) (Offered number) None events parts place h k = absurd h
admitted_step old mid (Offer i ask) (Offered number) None events parts place h k =
    λ node s at v e. k node s (rw h.5 at) v e
admitted_step old mid event (Offered number) (Some part) events parts place h k = absurd h
admitted_step old mid (Local i op) Marked None events parts place h k = absurd h
admitted_step old mid (Offer i ask) Marked None events parts place h k = absurd h
admitted_step old mid (Take i m) Marked None events parts place h k = absurd h
admitted_step old mid (Mark i mark) Marked None events parts place h k = λ node s at v e.
    elim (eqb_tells i place) [
      | inl t ↦
          let got : slice_get mid.nodes place ≡ Some h.1 =
          rw h.4 (subst (λ (j : ℕ). slice_get (slice_set old.nodes i h.1) j ≡ Some h.1) t.1
          (get_set_same old.nodes i h.0 h.1 h.2)) in
          let there : slice_get old.nodes place ≡ Some h.0 =
          subst (λ (j : ℕ). slice_get old.nodes j ≡ Some h.0) t.1 h.2 in
          let same : node ≡ h.0 = one_at old.nodes place node h.0 at there in
          let from : content_of s ≡ content_of h.1.replica =
          e ∙ ap (λ (peer : KeptValue). content_of peer.replica) same ∙ sym (marked_says_the_same h.0 h.1 mark h.3) in
          k h.1 s got v from
      | inr ne ↦
          let got : slice_get mid.nodes place ≡ Some node =
          rw h.4 (get_set_other old.nodes i place h.1 ne.1 ∙ at) in
          k node s got v e
    ]
admitted_step old mid event Marked (Some part) events parts place h k = absurd h
admitted_step old mid event (Refused refusal) None events parts place h k = λ node s at v e. k node s (rw h.1 at) v e
admitted_step old mid event (Refused refusal) (Some part) events parts place h k = absurd h

pub admitted_each : (old new : PeerWorld) (events : List PeerEvent) (answers : List PeerAnswer)
    (parts : List (Option PartValue)) (place : ℕ) → Runs peer_state peer_words old events answers parts new →
    AdmittedFrom place old (accepted_at peer_state place events parts)
admitted_each old new [] [] [] place h = λ node s at v e. tt
admitted_each old new [] [] (part ∷ parts) place h = absurd h
admitted_each old new [] (answer ∷ answers) parts place h = absurd h
admitted_each old new (event ∷ events) [] parts place h = absurd h
admitted_each old new (event ∷ events) (answer ∷ answers) [] place h = absurd h
admitted_each old new (event ∷ events) (answer ∷ answers) (part ∷ parts) place h =
    admitted_step old h.0 event answer part events parts place h.1
    (admitted_each h.0 new events answers parts place h.2)

pub by_formula : (old new : PeerWorld) (t : PeerTrace) (place : ℕ) (before after : KeptValue) → PeersRan old t new →
    AllLeast peer_state old t.events t.parts new → slice_get old.nodes place ≡ Some before →
    slice_get new.nodes place ≡ Some after → IsValid before.replica → IsValid after.replica →
    IsLeastByFormula before.replica (accepted_by t place) after.replica
by_formula old new t place before after h all at_b at_a v w =
    let ks : List PartValue = accepted_by t place in
    let found = all place before at_b in
    let same : found.0 ≡ after = one_at new.nodes place found.0 after found.1 at_a in
    let covering : IsLeastCovering IsValidContent ContentBelow ContentCovers (content_of before.replica) ks
    (content_of after.replica) =
    subst (λ (s : KeptValue). IsLeastCovering IsValidContent ContentBelow ContentCovers (content_of before.replica) ks
    (content_of s.replica))
    same found.2 in
    let small = smallest before.replica after.replica ks v w covering in
    let admitted : AreAdmitted before.replica ks =
    admitted_each old new t.events t.answers t.parts place h before before.replica at_b v refl in
    (admitted, (forms-same before.replica after.replica ks v admitted).1 small)

-- ---- from a new world on

nothing_valid : IsValid nothing_held
nothing_valid = record { graph = IsGraph-nil; phases = λ child parent at. absurd (omega (arith, at.1)) }

-- the least of all that cover the parts is the smallest above what holds nothing
smallest_of_all : (t : ReplicaState) (ks : List PartValue) → IsValid t →
    IsLeastOf IsValidContent ContentBelow ContentCovers ks (content_of t) → IsSmallest nothing_held ks t
smallest_of_all t ks w h = smallest nothing_held t ks nothing_valid w (record {
  valid = h.valid;
  above = (empty_is_least nothing_held refl).least (content_of t) h.valid;
  covers = h.covers;
  least = λ other v up covers. h.least other v covers;
})

pub by_formula_of_all : (old new : PeerWorld) (t : PeerTrace) (place : ℕ) (after : KeptValue) →
    AllEmpty peer_state old → PeersRan old t new → length new.nodes ≡ length old.nodes →
    IsLeastOf IsValidContent ContentBelow ContentCovers (accepted_by t place) (content_of after.replica) →
    slice_get new.nodes place ≡ Some after → IsValid after.replica →
    IsLeastByFormula nothing_held (accepted_by t place) after.replica
by_formula_of_all old new t place after e h count least at w =
    let ks : List PartValue = accepted_by t place in
    let within : place < length old.nodes =
    subst (λ (n : ℕ). place < n) count (slice_get_within new.nodes place after at) in
    let before = some_at old.nodes place within in
    let there = e place before.0 before.1 in
    let nothing = empty_is_least nothing_held refl in
    let same : content_of nothing_held ≡ content_of before.0.replica =
    replicas_ordered.antisymmetric (content_of nothing_held) (content_of before.0.replica) nothing.valid there.valid
    (nothing.least (content_of before.0.replica) there.valid) (there.least (content_of nothing_held) nothing.valid) in
    let admitted : AreAdmitted nothing_held ks =
    admitted_each old new t.events t.answers t.parts place h before.0 nothing_held before.1 nothing_valid same in (
      admitted,
      (forms-same nothing_held after.replica ks nothing_valid admitted).1 (smallest_of_all after.replica ks w least),
    )

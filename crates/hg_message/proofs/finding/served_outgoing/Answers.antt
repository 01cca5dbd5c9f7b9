use Rattle.std.proofs.Common.{◌≡◌, ◌↔◌, ◌<◌, ℕ, List, Contains, length, sym, subst, ap, ◌∙◌}
use Rattle.std.proofs.lemmas.Result.{IfOk-weaker}
use Rattle.hg_changeset.specs.Contents.{Contents}
use Rattle.hg_graph.specs.Places.{IsPlaceOfOne}
use Rattle.hg_graph.proofs.PlaceLemmas.{placed_within}
use Rattle.hg_phases.specs.State.{changesets}
use Rattle.hg_replica.specs.State.{ReplicaState}
use Rattle.hg_view.specs.Above.{IsAbove}
use Rattle.hg_message.proofs.OfferLemmas.{if_ok_both}
use Rattle.hg_message.proofs.ServedLemmas.{served-outgoing}
use Rattle.hg_message.proofs.finding.served_outgoing.Goals as goal

pub places_above-requires-clause-heads : goal.places_above-requires-clause-heads
places_above-requires-clause-heads c k h =
    let here : c.graph-graph.result.now ≡ changesets c.args.kept.now.replica.history =
    c.graph-graph.ensures.graph ∙ ap (λ (s : ReplicaState). changesets s.history) c.replica.ensures.replica in
    let so = ((c.requires.heads.exact k).0 h).0 in
    subst (λ (cs : List Contents). k < length cs) (sym here)
    (placed_within (changesets c.args.kept.now.replica.history) so.0 k so.1)

pub places_above-requires-clause-common : goal.places_above-requires-clause-common
places_above-requires-clause-common c k h =
    let one = (c.in_ok-known.ensures.answer k).0 (subst (λ (ks : List ℕ). Contains ks k) c.deref.ensures.value h) in
    placed_within c.graph-graph.result.now one.0 k one.2

pub returns : goal.returns
returns c =
    let k = c.args.kept.now in
    let cs = changesets k.replica.history in
    let known = c.deref.result.now in
    let here : c.graph-graph.result.now ≡ cs =
    c.graph-graph.ensures.graph ∙ ap (λ (s : ReplicaState). changesets s.history) c.replica.ensures.replica in
    let known_are : (i : ℕ) → Contains known i ↔ IsPlaceOfOne cs c.args.common.now i =
    subst (λ (ks : List ℕ). (i : ℕ) → Contains ks i ↔ IsPlaceOfOne cs c.args.common.now i) (sym c.deref.ensures.value)
    (subst (λ (ds : List Contents). (i : ℕ) → Contains c.in_ok-known.known.items i
    ↔ IsPlaceOfOne ds c.args.common.now i) here c.in_ok-known.ensures.answer) in
    IfOk-weaker c.places_above.result _ _
    (λ found both. served-outgoing k c.replica.ensures.valid c.args.common.now c.requires.common c.args.heads.now known
    c.requires.heads known_are found.items
    (subst (λ (ds : List Contents). (i : ℕ) → Contains found.items i ↔ IsAbove ds c.args.heads.now known i) here
    both.0)
    both.1)
    (if_ok_both _ _ c.places_above.result c.places_above.ensures.exact c.places_above.ensures.ascending)

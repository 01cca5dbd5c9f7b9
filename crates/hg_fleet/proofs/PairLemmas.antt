-- What is noted of two peers stays true, since replicas only grow.
use Rattle.std.proofs.Common.{◌≡◌, ◌++◌, ℕ, true, inl, inr, List, [], slice_get, slice_set, Option, Some, None}
use Rattle.std.proofs.Common.{Result, Ok, Err, IfOk, OnErr, refl, sym, ap, subst, ◌∙◌}
use Rattle.std.specs.BTreeMap.{get, is_at}
use Rattle.std.specs.Cmp.{Equal-is}
use Rattle.std.specs.Map.{lookup}
use Rattle.std.specs.Ordering.{nat_cmp}
use Rattle.std.proofs.lemmas.Bool.{cases_Bool}
use Rattle.std.proofs.lemmas.Bool.Decides.{eqb_tells}
use Rattle.std.proofs.lemmas.List.{append-nil}
use Rattle.std.proofs.lemmas.Map.Lookups.{exact_pairs, exact_unsigned}
use Rattle.std.proofs.lemmas.Option.{same_Some}
use Rattle.hg_changeset.specs.Contents.{Contents}
use Rattle.hg_phases.specs.State.{changesets}
use Rattle.hg_history.specs.Change.{unheld}
use Rattle.hg_replica.specs.State.{ReplicaState}
use Rattle.hg_replica.specs.Least.{PartValue}
use Rattle.hg_view.specs.Kept.{KeptValue}
use Rattle.hg_world.specs.Runs.{Snapshot, Happens, place_of}
use Rattle.hg_world.specs.declared.event.Event.TheVariants.{Local, Offer, Take, Mark}
use Rattle.hg_world.specs.declared.event.Answer.TheVariants.{Accepted, Offered, Marked, Refused}
use Rattle.hg_world.proofs.Places.{get_set_same, get_set_other, one_at}
use Rattle.hg_peer.specs.declared.mark.Mark.{Mark as PeerMark}
use Rattle.hg_peer.specs.declared.mark.Mark.TheVariants.{Pin, Unpin}
use Rattle.hg_peer.specs.Marks.{Marks}
use Rattle.hg_peer.specs.Words.{peer_state, peer_words}
use Rattle.hg_discovery.specs.declared.compared.Compared.{Compared}
use Rattle.hg_discovery.specs.Compared.{WereCompared}
use Rattle.hg_discovery.proofs.ComparedLemmas.{compared-longer}
use Rattle.hg_peer.specs.Words.{PeerEvent, PeerAnswer}
use Rattle.hg_fleet.specs.Pairs.{Pair, Pairs, AreTruePairs, IsNoted, pair_cmp}

-- ---- replicas only grow

-- what the one holds stands first in the other
abbrev HasGrown : KeptValue → KeptValue → Type 0
HasGrown before after = (more : List Contents)
    × (changesets after.replica.history ≡ changesets before.replica.history ++ more)

-- each peer that is there was there, and has grown
abbrev HaveGrown : Snapshot KeptValue → Snapshot KeptValue → Type 0
HaveGrown old new = (place : ℕ) (after : KeptValue) → slice_get new.nodes place ≡ Some after
    → (before : KeptValue) × (slice_get old.nodes place ≡ Some before) × HasGrown before after

same_replica : (before after : KeptValue) → after.replica ≡ before.replica → HasGrown before after
same_replica before after e =
    ([], ap (λ (s : ReplicaState). changesets s.history) e ∙ sym (append-nil (changesets before.replica.history)))

same_nodes : (old new : Snapshot KeptValue) → new.nodes ≡ old.nodes → HaveGrown old new
same_nodes old new e place after at =
    (after, ap (λ (ns : List KeptValue). slice_get ns place) (sym e) ∙ at, same_replica after after refl)

one_grown : (old new : Snapshot KeptValue) (at : ℕ) (node next : KeptValue) → slice_get old.nodes at ≡ Some node
    → HasGrown node next → new.nodes ≡ slice_set old.nodes at next → HaveGrown old new
one_grown old new at node next there grown e place after is =
    let now : slice_get (slice_set old.nodes at next) place ≡ Some after =
    ap (λ (ns : List KeptValue). slice_get ns place) (sym e) ∙ is in
    elim (eqb_tells at place) [
      | inl same ↦
          let got : slice_get (slice_set old.nodes at next) place ≡ Some next =
          subst (λ (i : ℕ). slice_get (slice_set old.nodes at next) i ≡ Some next) same.1
          (get_set_same old.nodes at node next there) in (
            node,
            subst (λ (i : ℕ). slice_get old.nodes i ≡ Some node) same.1 there,
            subst (HasGrown node) (one_at (slice_set old.nodes at next) place next after got now) grown,
          )
      | inr ne ↦ (
        after,
        sym (get_set_other old.nodes at place next ne.1) ∙ now,
        same_replica after after refl,
      )
    ]

marked_grown : (before : KeptValue) (mark : PeerMark) (after : KeptValue) → Marks before mark after
    → HasGrown before after
marked_grown before (Pin n) after h = same_replica before after h.0
marked_grown before (Unpin n) after h = same_replica before after h.0

-- an event at one of them leaves the others
grown_by : (old : Snapshot KeptValue) (event : PeerEvent) (answer : PeerAnswer) (part : Option PartValue)
    (new : Snapshot KeptValue) → Happens peer_state peer_words old event answer part new → HaveGrown old new
grown_by old event (Accepted change) None new h = absurd h
grown_by old event (Accepted change) (Some part) new h =
    one_grown old new (place_of event) h.0 h.1 h.2
    (unheld (changesets h.0.replica.history) part.history.changesets, h.4.tells.0.order) h.5
grown_by old (Local at op) (Offered number) None new h = absurd h
grown_by old (Take at m) (Offered number) None new h = absurd h
grown_by old (Mark at m) (Offered number) None new h = absurd h
grown_by old (Offer at ask) (Offered number) None new h = same_nodes old new h.5
grown_by old event (Offered number) (Some part) new h = absurd h
grown_by old event Marked (Some part) new h = absurd h
grown_by old (Local at op) Marked None new h = absurd h
grown_by old (Offer at ask) Marked None new h = absurd h
grown_by old (Take at m) Marked None new h = absurd h
grown_by old (Mark at m) Marked None new h = one_grown old new at h.0 h.1 h.2 (marked_grown h.0 m h.1 h.3) h.4
grown_by old event (Refused refusal) (Some part) new h = absurd h
grown_by old event (Refused refusal) None new h = same_nodes old new (ap (λ (w : Snapshot KeptValue). w.nodes) h.1)

-- ---- so what was compared stays so

compared_grown : (ours theirs after others : KeptValue) (x : Compared) → HasGrown ours after → HasGrown theirs others
    → WereCompared ours theirs x → WereCompared after others x
compared_grown ours theirs after others x more many so_far = rw (more.1, many.1)
    (compared-longer (changesets ours.replica.history) (changesets theirs.replica.history) more.0 many.0 x so_far)

pub true_after : (old : Snapshot KeptValue) (event : PeerEvent) (answer : PeerAnswer) (part : Option PartValue)
    (new : Snapshot KeptValue) (pairs : Pairs) → Happens peer_state peer_words old event answer part new
    → AreTruePairs old pairs → AreTruePairs new pairs
true_after old event answer part new pairs h were pair ours theirs at_ours at_theirs x noted =
    let here = grown_by old event answer part new h pair.0 ours at_ours in
    let there = grown_by old event answer part new h pair.1 theirs at_theirs in
    compared_grown here.0 there.0 ours theirs x here.2 there.2 (were pair here.0 there.0 here.1 there.1 x noted)

-- ---- what is noted

at_pair : (pair q : Pair) → is_at (pair_cmp pair) q ≡ true → pair ≡ q
at_pair pair q e = exact_pairs nat_cmp nat_cmp exact_unsigned exact_unsigned pair q ((Equal-is (pair_cmp pair q)).0 e)

-- another note, or the same ones
pub true_noted : (w : Snapshot KeptValue) (before after : Pairs) (pair : Pair) (ours theirs : KeptValue)
    → AreTruePairs w before → slice_get w.nodes pair.0 ≡ Some ours → slice_get w.nodes pair.1 ≡ Some theirs
    → IsNoted before pair ours theirs after → AreTruePairs w after
true_noted w before after pair ours theirs were at_ours at_theirs (inl same) = λ q asker other asks_at asked_at y got.
    were q asker other asks_at asked_at y (ap (lookup (is_at (pair_cmp q))) (sym same) ∙ got)
true_noted w before after pair ours theirs were at_ours at_theirs (inr (x, is, up)) =
    λ q asker other asks_at asked_at y got. elim (cases_Bool (is_at (pair_cmp pair) q)) [
      | inl e ↦
          let same = at_pair pair q e in
          let here = subst (λ (p : Pair). get pair_cmp after p ≡ Some y) (sym same) got in
          let compared : x ≡ y = same_Some x y (sym up.1 ∙ here) in
          let asks : ours ≡ asker = one_at w.nodes q.0 ours asker
          (subst (λ (p : Pair). slice_get w.nodes p.0 ≡ Some ours) same at_ours) asks_at in
          let asked : theirs ≡ other = one_at w.nodes q.1 theirs other
          (subst (λ (p : Pair). slice_get w.nodes p.1 ≡ Some theirs) same at_theirs) asked_at in
          subst (WereCompared asker other) compared (subst (λ (s : KeptValue). WereCompared asker s x) asked
          (subst (λ (s : KeptValue). WereCompared s theirs x) asks is))
      | inr e ↦ were q asker other asks_at asked_at y (sym (up.2 q e) ∙ got)
    ]

-- whatever an event is answered, if it is
pub true_run : {E : Type 0} (old : Snapshot KeptValue) (event : PeerEvent) (new : Snapshot KeptValue) (pairs : Pairs)
    (r : Result PeerAnswer E)
    → IfOk r (λ answer. (part : Option PartValue) × Happens peer_state peer_words old event answer part new)
    → OnErr r (new ≡ old) → AreTruePairs old pairs → AreTruePairs new pairs
true_run old event new pairs (Ok answer) happens same were =
    true_after old event answer happens.0 new pairs happens.1 were
true_run old event new pairs (Err e) happens same were =
    subst (λ (w : Snapshot KeptValue). AreTruePairs w pairs) (sym same) were

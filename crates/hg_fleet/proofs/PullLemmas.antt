-- What a pull finds: both peers, and the message that was offered.
use Rattle.std.proofs.Common.{◌≡◌, ℕ, inl, inr, List, [], ◌∷◌, ◌++◌, slice_get, Option, Some, None, refl, sym}
use Rattle.std.proofs.Common.{ap, subst, ◌∙◌}
use Rattle.std.specs.declared.vec.Vec.{Vec}
use Rattle.std.specs.declared.alloc.Global.{Global}
use Rattle.std.specs.List.{AllByRecursion}
use Rattle.hg_changeset.specs.declared.node.Node.{Node}
use Rattle.hg_changeset.proofs.ListLemmas.{slice_get-append_seam}
use Rattle.hg_history.specs.declared.fault.Fault.{Fault}
use Rattle.hg_replica.specs.Least.{PartValue}
use Rattle.hg_view.specs.Kept.{KeptValue}
use Rattle.hg_message.specs.declared.scope.Scope.{Scope}
use Rattle.hg_world.specs.Runs.{Snapshot, IsReason, Makes, Happens, Runs}
use Rattle.hg_world.specs.declared.event.Event.TheVariants.{Local, Offer, Take, Mark}
use Rattle.hg_world.specs.declared.event.EventRefusal.{EventRefusal}
use Rattle.hg_world.specs.declared.event.EventRefusal.TheVariants.{NoNode, NoMessage, ByActor, ByState}
use Rattle.hg_world.specs.declared.event.Answer.TheVariants.{Accepted, Offered, Marked, Refused}
use Rattle.hg_peer.specs.declared.refusal.PeerRefusal.{PeerRefusal}
use Rattle.hg_peer.specs.Words.{PeerAnswer, PeerEvent, peer_state, peer_words}
use Rattle.hg_fleet.specs.Pulls.{AreLeftOutAt, IsAbsence, IsNowhere, LacksMessage, Pulls, TakesOffered, TellsAbsence}
use Rattle.hg_fleet.specs.Pulls.{asking, if_taken, taken}

reason_absent : (world : Snapshot KeptValue) (node : KeptValue) (asked : PeerEvent)
    (refusal : EventRefusal PeerRefusal Fault)
    → IsReason peer_state peer_words world.messages node asked refusal → IsAbsence refusal → LacksMessage world asked
reason_absent world node (Local at op) NoNode h absent = h
reason_absent world node (Local at op) NoMessage h absent = h
reason_absent world node (Local at op) (ByActor r) h absent = absent
reason_absent world node (Local at op) (ByState r) h absent = absent
reason_absent world node (Offer at ask) NoNode h absent = h
reason_absent world node (Offer at ask) NoMessage h absent = h
reason_absent world node (Offer at ask) (ByActor r) h absent = absent
reason_absent world node (Offer at ask) (ByState r) h absent = absent
reason_absent world node (Take at message) NoNode h absent = absurd h
reason_absent world node (Take at message) NoMessage h absent = h
reason_absent world node (Take at message) (ByActor r) h absent = absurd absent
reason_absent world node (Take at message) (ByState r) h absent = absurd absent
reason_absent world node (Mark at mark) NoNode h absent = h
reason_absent world node (Mark at mark) NoMessage h absent = h
reason_absent world node (Mark at mark) (ByActor r) h absent = absent
reason_absent world node (Mark at mark) (ByState r) h absent = absent

-- an answer that tells of an absence has no node or no message
pub nowhere : (world : Snapshot KeptValue) (asked : PeerEvent) (answer : PeerAnswer) (part : Option PartValue)
    (new : Snapshot KeptValue) → Happens peer_state peer_words world asked answer part new → TellsAbsence answer
    → IsNowhere world asked
nowhere world asked (Accepted change) part new h absent = absurd absent
nowhere world asked (Offered number) part new h absent = absurd absent
nowhere world asked Marked part new h absent = absurd absent
nowhere world asked (Refused refusal) (Some part) new h absent = absurd h
nowhere world asked (Refused refusal) None new (inl is, same) absent = inl is.1
nowhere world asked (Refused refusal) None new (inr is, same) absent =
    inr (reason_absent world is.0 asked refusal is.2 absent)

-- the giver and the taker of a pull are there, and so is what was offered
giver_is_there : (old new : Snapshot KeptValue) (scope : Scope) (giver taker : ℕ) (common : Vec Node Global)
    (answer : PeerAnswer) (part : Option PartValue) → AreLeftOutAt scope old taker giver common.items
    → Happens peer_state peer_words old (Offer giver (asking scope common)) answer part new → ¬ (TellsAbsence answer)
giver_is_there old new scope giver taker common answer part heads h absent =
    elim (nowhere old (Offer giver (asking scope common)) answer part new h absent) [
      | inl none ↦ let at = heads.3 in cc
      | inr lacks ↦ absurd lacks
    ]

message_is_there : (old mid : Snapshot KeptValue) (scope : Scope) (giver taker number : ℕ) (common : Vec Node Global)
    → AreLeftOutAt scope old taker giver common.items
    → Makes peer_state peer_words old (Offer giver (asking scope common)) number mid
    → ¬ (IsNowhere mid (Take taker number))
message_is_there old mid scope giver taker number common heads m (inl none) =
    let at = heads.2 in
    let same : slice_get mid.nodes taker ≡ slice_get old.nodes taker =
    ap (λ (ns : List KeptValue). slice_get ns taker) m.5 in
    cc
message_is_there old mid scope giver taker number common heads m (inr none) =
    let there : slice_get mid.messages number ≡ Some m.1 =
    ap (λ (ms : List (List ℕ)). slice_get ms number) m.6
    ∙ ap (λ (k : ℕ). slice_get (old.messages ++ m.1 ∷ []) k) m.4 ∙ slice_get-append_seam old.messages m.1 [] in
    cc

-- so no answer of a pull tells of an absence
pub pulled : (old mid new : Snapshot KeptValue) (taker giver : ℕ) (scope : Scope) (common : Vec Node Global)
    (offered : PeerAnswer) (part : Option PartValue) (answer : Option PeerAnswer)
    → AreLeftOutAt scope old taker giver common.items
    → Happens peer_state peer_words old (Offer giver (asking scope common)) offered part mid
    → TakesOffered mid taker offered answer new
    → Pulls old taker giver scope (offered ∷ if_taken answer) new
    × AllByRecursion (λ a. ¬ (TellsAbsence a)) (offered ∷ if_taken answer)
pulled old mid new taker giver scope common offered part answer heads h (parts, ran) = (
  record { common = common; left_out = heads; parts = part ∷ parts; ran = (mid, h, ran) },
  (giver_is_there old mid scope giver taker common offered part heads h, none_absent offered part answer parts h ran),
)
  where
    none_absent : (offered : PeerAnswer) (part : Option PartValue) (answer : Option PeerAnswer)
        (parts : List (Option PartValue))
        → Happens peer_state peer_words old (Offer giver (asking scope common)) offered part mid
        → Runs peer_state peer_words mid (taken taker (offered ∷ if_taken answer)) (if_taken answer) parts new
        → AllByRecursion (λ a. ¬ (TellsAbsence a)) (if_taken answer)
    none_absent offered part None parts h ran = tt
    none_absent (Accepted change) part (Some answer) parts h ran = absurd ran
    none_absent Marked part (Some answer) parts h ran = absurd ran
    none_absent (Refused refusal) part (Some answer) parts h ran = absurd ran
    none_absent (Offered number) (Some part) (Some answer) parts h ran = absurd h
    none_absent (Offered number) None (Some answer) [] h ran = absurd ran
    none_absent (Offered number) None (Some answer) (took ∷ parts) h (last, happens, more) = (
      λ absent. message_is_there old mid scope giver taker number common heads h
          (nowhere mid (Take taker number) answer took last happens absent),
      tt,
    )

-- what the taker takes of an offer
pub takes : (old : Snapshot KeptValue) (taker number : ℕ) (offered answer : PeerAnswer) (new : Snapshot KeptValue)
    → offered ≡ Offered number
    → (part : Option PartValue) × Happens peer_state peer_words old (Take taker number) answer part new
    → TakesOffered old taker offered (Some answer) new
takes old taker number offered answer new e (part, h) =
    subst (λ (a : PeerAnswer). TakesOffered old taker a (Some answer) new) (sym e) (part ∷ [], (new, h, refl))

pub takes_nothing : (old : Snapshot KeptValue) (taker : ℕ) (offered : PeerAnswer) → taken taker (offered ∷ []) ≡ []
    → TakesOffered old taker offered None old
takes_nothing old taker offered e =
    ([], subst (λ (es : List PeerEvent). Runs peer_state peer_words old es [] [] old) (sym e) refl)

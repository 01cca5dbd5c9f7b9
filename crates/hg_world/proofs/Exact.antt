-- What may be accepted, offered or marked is refused for want of memory alone, and what is missing is told.
use Rattle.std.proofs.Common.{◌≡◌, ℕ, Option, Some, None, List, refl, ap, subst, inl, inr}
use Rattle.std.specs.Prelude.{slice_get}
use Rattle.hg_join.specs.declared.state.JoinState.{Ghosts as StateWords}
use Rattle.hg_join.specs.declared.actor.Actor.{Ghosts as ActorWords}
use Rattle.hg_world.specs.declared.event.Event.{Event}
use Rattle.hg_world.specs.declared.event.Event.TheVariants.{Local, Offer, Take, Mark}
use Rattle.hg_world.specs.declared.event.EventRefusal.{EventRefusal}
use Rattle.hg_world.specs.declared.event.EventRefusal.TheVariants.{NoNode, NoMessage, ByActor, ByState}
use Rattle.hg_world.specs.declared.event.Answer.{Answer}
use Rattle.hg_world.specs.declared.event.Answer.TheVariants.{Accepted, Offered, Marked, Refused}
use Rattle.hg_world.specs.Runs.{Snapshot, place_of, IsPartOf, IsReason, IsMemory}
use Rattle.hg_world.specs.Laws.{NoNodeIsExact, NoMessageIsExact, AcceptedIsExact, OfferedIsExact, MarkedIsExact}
use Rattle.hg_world.proofs.Places.{one_at}

some_is_not_none : {X : Type 0} (o : Option X) (x : X) → o ≡ Some x → o ≡ None → ⊥
some_is_not_none o x e f = cc

refused_same : {C R F : Type 0} (a b : Answer C R F) (r q : EventRefusal R F) → a ≡ Refused r → b ≡ Refused q → a ≡ b →
    r ≡ q
refused_same a b r q h k e = cc

module _ {S O A M R P C F : Type 0} (J : StateWords S P C F) (W : ActorWords S O A M R P C F) where
  no_node_is_no_reason : (messages : List (List ℕ)) (node : S) (event : Event O A M) →
      IsReason J W messages node event NoNode → ⊥
  no_node_is_no_reason messages node (Local at op) h = h
  no_node_is_no_reason messages node (Offer at ask) h = h
  no_node_is_no_reason messages node (Take at message) h = h
  no_node_is_no_reason messages node (Mark at mark) h = h

  pub no_node_exact : NoNodeIsExact J W
  no_node_exact old new event (Accepted change) None h = absurd h
  no_node_exact old new event (Accepted change) (Some part) h =
      (λ e. absurd cc, λ e. absurd (some_is_not_none (slice_get old.nodes (place_of event)) h.0 h.2 e))
  no_node_exact old new event (Offered number) (Some part) h = absurd h
  no_node_exact old new (Local at op) (Offered number) None h = absurd h
  no_node_exact old new (Take at message) (Offered number) None h = absurd h
  no_node_exact old new (Mark at mark) (Offered number) None h = absurd h
  no_node_exact old new (Offer at ask) (Offered number) None h =
      (λ e. absurd cc, λ e. absurd (some_is_not_none (slice_get old.nodes at) h.0 h.2 e))
  no_node_exact old new event Marked (Some part) h = absurd h
  no_node_exact old new (Local at op) Marked None h = absurd h
  no_node_exact old new (Offer at ask) Marked None h = absurd h
  no_node_exact old new (Take at message) Marked None h = absurd h
  no_node_exact old new (Mark at mark) Marked None h =
      (λ e. absurd cc, λ e. absurd (some_is_not_none (slice_get old.nodes at) h.0 h.2 e))
  no_node_exact old new event (Refused refusal) (Some part) h = absurd h
  no_node_exact old new event (Refused refusal) None h = (
    λ e.
        elim h.0 [
          | inl k ↦ k.1
          | inr k ↦
              absurd (no_node_is_no_reason old.messages k.0 event
              (subst (λ (r : EventRefusal R F). IsReason J W old.messages k.0 event r)
              (refused_same {C = C} (Refused refusal) (Refused NoNode) refusal NoNode refl refl e) k.2))
        ],
    λ e. elim h.0 [
      | inl k ↦ ap Refused k.0
      | inr k ↦ absurd (some_is_not_none (slice_get old.nodes (place_of event)) k.0 k.1 e)
    ],
  )

  missing_is_told : (old : Snapshot S) (at message : ℕ) (node : S) (refusal : EventRefusal R F) →
      IsReason J W old.messages node (Take at message) refusal → slice_get old.messages message ≡ None →
      refusal ≡ NoMessage
  missing_is_told old at message node NoNode h e = absurd h
  missing_is_told old at message node NoMessage h e = refl
  missing_is_told old at message node (ByActor r) h e =
      absurd (some_is_not_none (slice_get old.messages message) h.0 h.1 e)
  missing_is_told old at message node (ByState f) h e =
      absurd (some_is_not_none (slice_get old.messages message) h.0 h.1 e)

  pub no_message_exact : NoMessageIsExact J W
  no_message_exact old new at message node (Accepted change) None h there = absurd h
  no_message_exact old new at message node (Accepted change) (Some part) h there =
      (λ e. absurd cc, λ e. absurd (some_is_not_none (slice_get old.messages message) h.3.0 h.3.1 e))
  no_message_exact old new at message node (Offered number) None h there = absurd h
  no_message_exact old new at message node (Offered number) (Some part) h there = absurd h
  no_message_exact old new at message node Marked None h there = absurd h
  no_message_exact old new at message node Marked (Some part) h there = absurd h
  no_message_exact old new at message node (Refused refusal) (Some part) h there = absurd h
  no_message_exact old new at message node (Refused refusal) None h there = (
    λ e.
        elim h.0 [
          | inl k ↦ absurd (some_is_not_none (slice_get old.nodes at) node there k.1)
          | inr k ↦ subst (λ (r : EventRefusal R F). IsReason J W old.messages k.0 (Take at message) r)
              (refused_same {C = C} (Refused refusal) (Refused NoMessage) refusal NoMessage refl refl e) k.2
        ],
    λ e.
        elim h.0 [
          | inl k ↦ absurd (some_is_not_none (slice_get old.nodes at) node there k.1)
          | inr k ↦ ap Refused (missing_is_told old at message k.0 refusal k.2 e)
        ],
  )

  module _ (after_is_admitted : (a b : J.Content) (p : J.PartContent) → J.IsValid a → J.After a p b → J.Admits a p)
      (faultless : (a : J.Content) (p : J.PartContent) (f : F) → J.IsValid a → J.Admits a p → J.IsFirstFault a p f → ⊥)
      (decided_is_not_refused : (s : S) (op : O) (p : P) (r : R) → J.IsValid (J.content s) → W.Decides s op p →
      W.IsAgainstOp s op r → ⊥)
      (offered_is_not_refused : (s : S) (ask : A) (bytes : List ℕ) (r : R) → J.IsValid (J.content s) →
      W.Offers s ask bytes → W.IsAgainstAsk s ask r → ⊥)
      (spelled_once : (bytes : List ℕ) (p q : P) → W.Spells bytes p → W.Spells bytes q →
      J.part_content p ≡ J.part_content q)
      (spelled_is_not_refused : (bytes : List ℕ) (p : P) (r : R) → W.Spells bytes p → W.IsAgainstBytes bytes r →
      ⊥) where
    -- the reason why a node does not take what it takes
    only_memory : (messages : List (List ℕ)) (node next : S) (event : Event O A M) (part : P)
        (refusal : EventRefusal R F) → J.IsValid (J.content node) → IsPartOf J W messages node event part →
        J.After (J.content node) (J.part_content part) (J.content next) → IsReason J W messages node event refusal →
        IsMemory J W refusal
    only_memory messages node next (Offer at ask) part refusal v h after k = absurd h
    only_memory messages node next (Mark at mark) part refusal v h after k = absurd h
    only_memory messages node next (Local at op) part NoNode v h after k = absurd k
    only_memory messages node next (Local at op) part NoMessage v h after k = absurd k
    only_memory messages node next (Local at op) part (ByActor r) v h after k = elim k [
      | inl against ↦ absurd (decided_is_not_refused node op part r v h against)
      | inr memory ↦ memory
    ]
    only_memory messages node next (Local at op) part (ByState f) v h after k = k.2
    only_memory messages node next (Take at message) part NoNode v h after k = absurd k
    only_memory messages node next (Take at message) part NoMessage v h after k =
        absurd (some_is_not_none (slice_get messages message) h.0 h.1 k)
    only_memory messages node next (Take at message) part (ByActor r) v h after k =
        let same : h.0 ≡ k.0 = one_at messages message h.0 k.0 h.1 k.1 in
        elim k.2 [
          | inl against ↦
              absurd (spelled_is_not_refused k.0 part r (subst (λ (b : List ℕ). W.Spells b part) same h.2) against)
          | inr memory ↦ memory
        ]
    only_memory messages node next (Take at message) part (ByState f) v h after k =
        let same : h.0 ≡ k.0 = one_at messages message h.0 k.0 h.1 k.1 in
        let one : J.part_content k.2 ≡ J.part_content part =
        spelled_once k.0 k.2 part k.3 (subst (λ (b : List ℕ). W.Spells b part) same h.2) in
        elim k.4 [
          | inl fault ↦
              absurd
              (faultless (J.content node) (J.part_content part) f v
              (after_is_admitted (J.content node) (J.content next) (J.part_content part) v after)
              (subst (λ (p : J.PartContent). J.IsFirstFault (J.content node) p f) one fault))
          | inr memory ↦ memory
        ]

    pub accepted_exact : AcceptedIsExact J W
    accepted_exact old new event change refusal None other next v h k = absurd h
    accepted_exact old new event change refusal (Some part) (Some other) next v h k = absurd k
    accepted_exact old new event change refusal (Some part) None next v h k = elim k.0 [
      | inl missing ↦ absurd (some_is_not_none (slice_get old.nodes (place_of event)) h.0 h.2 missing.1)
      | inr why ↦
          let same : why.0 ≡ h.0 = one_at old.nodes (place_of event) why.0 h.0 why.1 h.2 in
          only_memory old.messages h.0 h.1 event part refusal (v (place_of event) h.0 h.2) h.3 h.4.after
          (subst (λ (s : S). IsReason J W old.messages s event refusal) same why.2)
    ]

    -- the reason why a node does not offer what it offers
    only_memory_to_offer : (messages : List (List ℕ)) (node : S) (at : ℕ) (ask : A) (bytes : List ℕ)
        (refusal : EventRefusal R F) → J.IsValid (J.content node) → W.Offers node ask bytes →
        IsReason J W messages node (Offer at ask) refusal → IsMemory J W refusal
    only_memory_to_offer messages node at ask bytes NoNode v h k = absurd k
    only_memory_to_offer messages node at ask bytes NoMessage v h k = absurd k
    only_memory_to_offer messages node at ask bytes (ByActor r) v h k = elim k [
      | inl against ↦ absurd (offered_is_not_refused node ask bytes r v h against)
      | inr memory ↦ memory
    ]
    only_memory_to_offer messages node at ask bytes (ByState f) v h k = absurd k

    pub offered_exact : OfferedIsExact J W
    offered_exact old new event number refusal (Some part) other next v h k = absurd h
    offered_exact old new (Local at op) number refusal None other next v h k = absurd h
    offered_exact old new (Take at message) number refusal None other next v h k = absurd h
    offered_exact old new (Mark at mark) number refusal None other next v h k = absurd h
    offered_exact old new (Offer at ask) number refusal None (Some other) next v h k = absurd k
    offered_exact old new (Offer at ask) number refusal None None next v h k = elim k.0 [
      | inl missing ↦ absurd (some_is_not_none (slice_get old.nodes at) h.0 h.2 missing.1)
      | inr why ↦
          let same : why.0 ≡ h.0 = one_at old.nodes at why.0 h.0 why.1 h.2 in
          only_memory_to_offer old.messages h.0 at ask h.1 refusal (v at h.0 h.2) h.3
          (subst (λ (s : S). IsReason J W old.messages s (Offer at ask) refusal) same why.2)
    ]

  module _ (marked_is_not_refused : (s t : S) (mark : M) (r : R) → W.Marks s mark t → W.IsAgainstMark s mark r →
      ⊥) where
    -- the reason why a node is not marked so as it is marked
    only_memory_to_mark : (messages : List (List ℕ)) (node next : S) (at : ℕ) (mark : M)
        (refusal : EventRefusal R F) → W.Marks node mark next →
        IsReason J W messages node (Mark at mark) refusal → IsMemory J W refusal
    only_memory_to_mark messages node next at mark NoNode h k = absurd k
    only_memory_to_mark messages node next at mark NoMessage h k = absurd k
    only_memory_to_mark messages node next at mark (ByActor r) h k = elim k [
      | inl against ↦ absurd (marked_is_not_refused node next mark r h against)
      | inr memory ↦ memory
    ]
    only_memory_to_mark messages node next at mark (ByState f) h k = absurd k

    pub marked_exact : MarkedIsExact J W
    marked_exact old new event refusal (Some part) other next h k = absurd h
    marked_exact old new (Local at op) refusal None other next h k = absurd h
    marked_exact old new (Offer at ask) refusal None other next h k = absurd h
    marked_exact old new (Take at message) refusal None other next h k = absurd h
    marked_exact old new (Mark at mark) refusal None (Some other) next h k = absurd k
    marked_exact old new (Mark at mark) refusal None None next h k = elim k.0 [
      | inl missing ↦ absurd (some_is_not_none (slice_get old.nodes at) h.0 h.2 missing.1)
      | inr why ↦
          let same : why.0 ≡ h.0 = one_at old.nodes at why.0 h.0 why.1 h.2 in
          only_memory_to_mark old.messages h.0 h.1 at mark refusal h.3
          (subst (λ (s : S). IsReason J W old.messages s (Mark at mark) refusal) same why.2)
    ]

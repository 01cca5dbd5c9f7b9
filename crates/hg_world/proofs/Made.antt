-- Each message that a run adds was offered at an event of it.
use Rattle.std.proofs.Common.{◌≡◌, ℕ, zero, suc, ◌+◌, Option, Some, None, List, [], ◌∷◌, ◌++◌, length, refl, sym, ap}
use Rattle.std.proofs.Common.{subst, ◌∙◌, arith, append_assoc}
use Rattle.std.specs.Prelude.{slice_get}
use Rattle.std.proofs.lemmas.List.{append-nil, length-append}
use Rattle.hg_join.specs.declared.state.JoinState.{Ghosts as StateWords}
use Rattle.hg_join.specs.declared.actor.Actor.{Ghosts as ActorWords}
use Rattle.hg_world.specs.declared.event.Event.{Event}
use Rattle.hg_world.specs.declared.event.Event.TheVariants.{Local, Offer, Take, Mark}
use Rattle.hg_world.specs.declared.event.Answer.{Answer}
use Rattle.hg_world.specs.declared.event.Answer.TheVariants.{Accepted, Offered, Marked, Refused}
use Rattle.hg_world.specs.Runs.{Snapshot, Trace, Happens, Runs}
use Rattle.hg_world.specs.Made.{IsMade}
use Rattle.hg_world.proofs.Places.{none_there}

module _ {S O A M R P C F : Type 0} (J : StateWords S P C F) (W : ActorWords S O A M R P C F) where
  abbrev trace : List (Event O A M) → List (Answer C R F) → List (Option P) → Trace O A M P C R F
  trace events answers parts = record { events = events; answers = answers; parts = parts }

  -- the messages that a run adds to those that were there, each with its maker
  abbrev Adds : Snapshot S → List (Event O A M) → List (Answer C R F) → List (Option P) → Snapshot S → Type 0
  Adds old events answers parts new =
      (added : List (List ℕ)) × (new.messages ≡ old.messages ++ added)
      × ((i : ℕ) (bytes : List ℕ) → slice_get added i ≡ Some bytes →
      IsMade J W old (trace events answers parts) (length old.messages + i) bytes)

  -- what was made later was made in the whole
  made_later : (old mid : Snapshot S) (event : Event O A M) (answer : Answer C R F) (part : Option P)
      (events : List (Event O A M)) (answers : List (Answer C R F)) (parts : List (Option P)) (number : ℕ)
      (bytes : List ℕ) →
      Happens J W old event answer part mid → IsMade J W mid (trace events answers parts) number bytes →
      IsMade J W old (trace (event ∷ events) (answer ∷ answers) (part ∷ parts)) number bytes
  made_later old mid event answer part events answers parts number bytes h k = record {
    event = suc k.event;
    at = k.at;
    ask = k.ask;
    asked = k.asked;
    answered = k.answered;
    before = k.before;
    ran = (mid, h, k.ran);
    maker = k.maker;
    there = k.there;
    offers = k.offers;
  }

  -- an event that adds no message
  adds_none : (old mid new : Snapshot S) (event : Event O A M) (answer : Answer C R F) (part : Option P)
      (events : List (Event O A M)) (answers : List (Answer C R F)) (parts : List (Option P)) →
      mid.messages ≡ old.messages → Happens J W old event answer part mid → Adds mid events answers parts new →
      Adds old (event ∷ events) (answer ∷ answers) (part ∷ parts) new
  adds_none old mid new event answer part events answers parts same h k = (
    k.0,
    k.1 ∙ ap (λ (ms : List (List ℕ)). ms ++ k.0) same,
    λ i bytes at. subst (λ (n : ℕ). IsMade J W old (trace (event ∷ events) (answer ∷ answers) (part ∷ parts)) n bytes)
        (ap (λ (ms : List (List ℕ)). length ms + i) same)
        (made_later old mid event answer part events answers parts (length mid.messages + i) bytes h (k.2 i bytes at)),
  )

  -- an event that adds one
  made_of : (old mid new : Snapshot S) (at : ℕ) (ask : A) (number : ℕ) (events : List (Event O A M))
      (answers : List (Answer C R F)) (parts : List (Option P)) →
      (h : Happens J W old (Offer at ask) (Offered number) None mid) → (k : Adds mid events answers parts new) →
      (i : ℕ) (bytes : List ℕ) → slice_get (h.1 ∷ k.0) i ≡ Some bytes →
      IsMade J W old (trace (Offer at ask ∷ events) (Offered number ∷ answers) (None ∷ parts)) (length old.messages + i)
      bytes
  made_of old mid new at ask number events answers parts h k zero bytes e =
      let same : h.1 ≡ bytes = cc in
      let count : number ≡ length old.messages + 0 = omega (arith, h.4) in
      record {
        event = 0;
        at = at;
        ask = ask;
        asked = refl;
        answered = ap (λ (n : ℕ). Some (Offered n)) count;
        before = old;
        ran = refl;
        maker = h.0;
        there = h.2;
        offers = subst (λ (b : List ℕ). W.Offers h.0 ask b) same h.3;
      }
  made_of old mid new at ask number events answers parts h k (suc i) bytes e =
      let longer : length mid.messages ≡ length old.messages + 1 = ap length h.6 ∙ simp length-append in
      let count : length mid.messages + i ≡ length old.messages + suc i = omega (arith, longer) in
      subst (λ (n : ℕ). IsMade J W old (trace (Offer at ask ∷ events) (Offered number ∷ answers) (None ∷ parts)) n
      bytes) count
      (made_later old mid (Offer at ask) (Offered number) None events answers parts (length mid.messages + i) bytes h
      (k.2 i bytes e))

  adds_more : (old mid new : Snapshot S) (event : Event O A M) (answer : Answer C R F) (part : Option P)
      (events : List (Event O A M)) (answers : List (Answer C R F)) (parts : List (Option P)) →
      Happens J W old event answer part mid → Adds mid events answers parts new →
      Adds old (event ∷ events) (answer ∷ answers) (part ∷ parts) new
  adds_more old mid new event (Accepted change) None events answers parts h k = absurd h
  adds_more old mid new event (Accepted change) (Some part) events answers parts h k =
      adds_none old mid new event (Accepted change) (Some part) events answers parts h.6 h k
  adds_more old mid new (Local at op) (Offered number) None events answers parts h k = absurd h
  adds_more old mid new (Take at m) (Offered number) None events answers parts h k = absurd h
  adds_more old mid new (Mark at m) (Offered number) None events answers parts h k = absurd h
  adds_more old mid new (Offer at ask) (Offered number) None events answers parts h k = (
    h.1 ∷ k.0,
    k.1 ∙ ap (λ (ms : List (List ℕ)). ms ++ k.0) h.6 ∙ append_assoc old.messages (h.1 ∷ []) k.0,
    made_of old mid new at ask number events answers parts h k,
  )
  adds_more old mid new event (Offered number) (Some part) events answers parts h k = absurd h
  adds_more old mid new event Marked (Some part) events answers parts h k = absurd h
  adds_more old mid new (Local at op) Marked None events answers parts h k = absurd h
  adds_more old mid new (Offer at ask) Marked None events answers parts h k = absurd h
  adds_more old mid new (Take at m) Marked None events answers parts h k = absurd h
  adds_more old mid new (Mark at m) Marked None events answers parts h k =
      adds_none old mid new (Mark at m) Marked None events answers parts h.5 h k
  adds_more old mid new event (Refused refusal) None events answers parts h k =
      adds_none old mid new event (Refused refusal) None events answers parts (ap (λ (w : Snapshot S). w.messages) h.1)
      h k
  adds_more old mid new event (Refused refusal) (Some part) events answers parts h k = absurd h

  pub adds_all : (old new : Snapshot S) (events : List (Event O A M)) (answers : List (Answer C R F))
      (parts : List (Option P)) → Runs J W old events answers parts new → Adds old events answers parts new
  adds_all old new [] [] [] h = (
    [],
    ap (λ (w : Snapshot S). w.messages) h ∙ sym (append-nil old.messages),
    λ i bytes e. absurd (none_there i bytes e),
  )
  adds_all old new [] [] (part ∷ parts) h = absurd h
  adds_all old new [] (answer ∷ answers) parts h = absurd h
  adds_all old new (event ∷ events) [] parts h = absurd h
  adds_all old new (event ∷ events) (answer ∷ answers) [] h = absurd h
  adds_all old new (event ∷ events) (answer ∷ answers) (part ∷ parts) h =
      adds_more old h.0 new event answer part events answers parts h.1 (adds_all h.0 new events answers parts h.2)

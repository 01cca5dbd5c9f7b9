-- A run goes on by one event, and by another run.
use Rattle.std.proofs.Common.{◌≡◌, Option, List, [], ◌∷◌, ◌++◌, length, take, drop, vec_len, refl, subst}
use Rattle.std.specs.declared.vec.Vec.{Vec}
use Rattle.std.specs.declared.alloc.Global.{Global}
use Rattle.std.specs.Prelude.{Result, Ok, Err, IfOk, OnErr}
use Rattle.std.proofs.Math.Seq.{take-append_seam}
use Rattle.hg_join.specs.declared.state.JoinState.{Ghosts as StateWords}
use Rattle.hg_join.specs.declared.actor.Actor.{Ghosts as ActorWords}
use Rattle.hg_world.specs.declared.event.Event.{Event}
use Rattle.hg_world.specs.declared.event.Answer.{Answer}
use Rattle.hg_world.specs.Runs.{Snapshot, Happens, Runs}

module _ {S O A M R P C F : Type 0} (J : StateWords S P C F) (W : ActorWords S O A M R P C F) where
  pub run_on : (old mid new : Snapshot S) (events more : List (Event O A M)) (answers others : List (Answer C R F))
      (parts next : List (Option P)) →
      Runs J W old events answers parts mid → Runs J W mid more others next new →
      Runs J W old (events ++ more) (answers ++ others) (parts ++ next) new
  run_on old mid new [] more [] others [] next h k = subst (λ (s : Snapshot S). Runs J W s more others next new) h k
  run_on old mid new [] more [] others (part ∷ parts) next h k = absurd h
  run_on old mid new [] more (answer ∷ answers) others parts next h k = absurd h
  run_on old mid new (event ∷ events) more [] others parts next h k = absurd h
  run_on old mid new (event ∷ events) more (answer ∷ answers) others [] next h k = absurd h
  run_on old mid new (event ∷ events) more (answer ∷ answers) others (part ∷ parts) next h k =
      (h.0, h.1, run_on h.0 mid new events more answers others parts next h.2 k)

  pub run_last : (old mid new : Snapshot S) (events : List (Event O A M)) (event : Event O A M)
      (answers : List (Answer C R F)) (answer : Answer C R F) (parts : List (Option P)) (part : Option P) →
      Runs J W old events answers parts mid → Happens J W mid event answer part new →
      Runs J W old (events ++ event ∷ []) (answers ++ answer ∷ []) (parts ++ part ∷ []) new
  run_last old mid new events event answers answer parts part h k =
      run_on old mid new events (event ∷ []) answers (answer ∷ []) parts (part ∷ []) h (new, k, refl)

-- a vector's items, all of them written
pub all_written : {X : Type 0} (v : Vec X Global) (xs : List X) → length xs ≡ vec_len v
    → take (vec_len v) (xs ++ drop (length xs) v.items) ≡ xs
all_written v xs e = rw (← e) (take-append_seam xs (drop (length xs) v.items))

pub if_ok_then : {T E : Type 0} (r : Result T E) (Q R : T → Type 0) → ((x : T) → Q x → R x) → IfOk r Q → IfOk r R
if_ok_then (Ok x) Q R f h = f x h
if_ok_then (Err e) Q R f h = tt

pub either_way : {T E : Type 0} {Q : T → Type 0} {X : Type 0} (r : Result T E) (Y : Type 0) → ((x : T) → Q x → Y) →
    (X → Y) → IfOk r Q → OnErr r X → Y
either_way (Ok x) Y f g h k = f x h
either_way (Err e) Y f g h k = g k

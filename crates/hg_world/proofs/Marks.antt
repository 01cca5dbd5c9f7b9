-- A mark changes what is one node's own, and nothing else does.
use Rattle.std.proofs.Common.{◌≡◌, ℕ, Some, None, length, refl, sym, ap, ◌∙◌}
use Rattle.std.specs.Prelude.{slice_get}
use Rattle.std.proofs.lemmas.List.{length-set}
use Rattle.hg_join.specs.declared.state.JoinState.{Ghosts as StateWords}
use Rattle.hg_join.specs.declared.actor.Actor.{Ghosts as ActorWords}
use Rattle.hg_world.specs.declared.event.Event.{Event}
use Rattle.hg_world.specs.declared.event.Event.TheVariants.{Local, Offer, Take, Mark}
use Rattle.hg_world.specs.declared.event.Answer.TheVariants.{Accepted, Offered, Marked, Refused}
use Rattle.hg_world.specs.Runs.{Snapshot, place_of, Accepts, IsMarked}
use Rattle.hg_world.specs.Alike.{HaveSameOwn}
use Rattle.hg_world.specs.Laws.{MarksSayNothing, OthersLeaveOwn}
use Rattle.hg_world.proofs.Places.{one_at, get_set_other, changed_same}

module _ {S O A M R P C F : Type 0} (J : StateWords S P C F) (W : ActorWords S O A M R P C F)
    (marked : (s t : S) (mark : M) → W.Marks s mark t → J.content t ≡ J.content s) where
  -- each node has the content that it had
  pub mark_leaves_contents : (old new : Snapshot S) (at : ℕ) (mark : M) → IsMarked J W old (Mark at mark) new →
      (place : ℕ) (after before : S) → slice_get new.nodes place ≡ Some after →
      slice_get old.nodes place ≡ Some before → J.content after ≡ J.content before
  mark_leaves_contents old new at mark h =
      changed_same J.content old.nodes new.nodes at h.0 h.1 h.2 (marked h.0 h.1 mark h.3) h.4

  pub mark_leaves_count : (old new : Snapshot S) (at : ℕ) (mark : M) → IsMarked J W old (Mark at mark) new →
      length new.nodes ≡ length old.nodes
  mark_leaves_count old new at mark h = ap length h.4 ∙ simp length-set

  pub mark_says_nothing : MarksSayNothing J W
  mark_says_nothing old new at mark (Accepted change) None h = absurd h
  mark_says_nothing old new at mark (Accepted change) (Some part) h = absurd h.3
  mark_says_nothing old new at mark (Offered number) (Some part) h = absurd h
  mark_says_nothing old new at mark (Offered number) None h = absurd h
  mark_says_nothing old new at mark Marked (Some part) h = absurd h
  mark_says_nothing old new at mark Marked None h = (
    (mark_leaves_count old new at mark h, mark_leaves_contents old new at mark h),
    λ place ne. rw h.4 (get_set_other old.nodes at place h.1 (λ e. ne (sym e))),
    h.5,
  )
  mark_says_nothing old new at mark (Refused refusal) (Some part) h = absurd h
  mark_says_nothing old new at mark (Refused refusal) None h =
      rw h.1 (
        (refl, λ place a b at_a at_b. ap J.content (one_at old.nodes place a b at_a at_b)),
        (λ place ne. refl),
        refl,
      )

module _ {S O A M R P C F : Type 0} (J : StateWords S P C F) (W : ActorWords S O A M R P C F)
    (told_leaves_own : (s t : S) (part : P) (change : C) → J.Tells s part change t → W.owned t ≡ W.owned s) where
  own_itself : (old : Snapshot S) → HaveSameOwn J W old old
  own_itself old place a b at_a at_b = ap W.owned (one_at old.nodes place a b at_a at_b)

  pub accepting_leaves_own : (old new : Snapshot S) (event : Event O A M) (change : C) (part : P) →
      Accepts J W old event change part new → HaveSameOwn J W new old
  accepting_leaves_own old new event change part h =
      changed_same W.owned old.nodes new.nodes (place_of event) h.0 h.1 h.2
      (told_leaves_own h.0 h.1 part change h.4.tells) h.5

  pub others_leave_own : OthersLeaveOwn J W
  others_leave_own old new event (Accepted change) None n h = absurd h
  others_leave_own old new event (Accepted change) (Some part) n h =
      accepting_leaves_own old new event change part h
  others_leave_own old new event (Offered number) (Some part) n h = absurd h
  others_leave_own old new (Local at op) (Offered number) None n h = absurd h
  others_leave_own old new (Take at message) (Offered number) None n h = absurd h
  others_leave_own old new (Mark at mark) (Offered number) None n h = absurd n
  others_leave_own old new (Offer at ask) (Offered number) None n h = rw h.5 (own_itself old)
  others_leave_own old new event Marked (Some part) n h = absurd h
  others_leave_own old new (Local at op) Marked None n h = absurd h
  others_leave_own old new (Offer at ask) Marked None n h = absurd h
  others_leave_own old new (Take at message) Marked None n h = absurd h
  others_leave_own old new (Mark at mark) Marked None n h = absurd n
  others_leave_own old new event (Refused refusal) (Some part) n h = absurd h
  others_leave_own old new event (Refused refusal) None n h = rw h.1 (own_itself old)

-- Who made each message of a run.
use Rattle.std.specs.Prelude.{◌≡◌, ℕ, Some, List, slice_get}
use Rattle.hg_join.specs.declared.state.JoinState.{Ghosts as StateWords}
use Rattle.hg_join.specs.declared.actor.Actor.{Ghosts as ActorWords}
use Rattle.hg_world.specs.declared.event.Event.TheVariants.{Offer}
use Rattle.hg_world.specs.declared.event.Answer.TheVariants.{Offered}
use Rattle.hg_world.specs.Runs.{Snapshot, Trace, front, Ran}

module _ {S O A M R P C F : Type 0} (J : StateWords S P C F) (W : ActorWords S O A M R P C F) where
  -- an event of the run made the message: an offer, answered with its number, of a node as the events before it had
  -- left it
  pub record IsMade (old : Snapshot S) (t : Trace O A M P C R F) (number : ℕ) (bytes : List ℕ) : Type 0 where
    pub event : ℕ
    pub at : ℕ
    pub ask : A
    pub asked : slice_get t.events event ≡ Some (Offer at ask)
    pub answered : slice_get t.answers event ≡ Some (Offered number)
    pub before : Snapshot S
    pub ran : Ran J W old (front event t) before
    pub maker : S
    pub there : slice_get before.nodes at ≡ Some maker
    pub offers : W.Offers maker ask bytes

-- The texts of refusals.
use Rattle.std.specs.Prelude.{ℕ, Option, Some, List, codes}
use Rattle.hg_world.specs.declared.event.EventRefusal.{EventRefusal}
use Rattle.hg_world.specs.declared.event.EventRefusal.TheVariants.{NoNode, NoMessage, ByActor, ByState}

-- the name of what is missing, or the text of the node's refusal
abbrev pub refusal_text : {R F : Type 0} → (R → Option (List ℕ)) → (F → Option (List ℕ)) → EventRefusal R F →
    Option (List ℕ)
refusal_text actor_text state_text NoNode = Some (codes "NoNode")
refusal_text actor_text state_text NoMessage = Some (codes "NoMessage")
refusal_text actor_text state_text (ByActor refusal) = actor_text refusal
refusal_text actor_text state_text (ByState fault) = state_text fault

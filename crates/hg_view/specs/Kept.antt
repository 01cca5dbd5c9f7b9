-- What is kept beside a replica that absorbs.
use Rattle.std.specs.Prelude.{◌≡◌, ◌⊎◌, List, Contains, Result, Ok, Err}
use Rattle.hg_changeset.specs.declared.node.Node.{Node}
use Rattle.hg_join.specs.declared.absorbed.Absorbed.{Absorbed}
use Rattle.hg_history.specs.declared.fault.Fault.{Fault}
use Rattle.hg_history.specs.declared.fault.Fault.TheVariants.{NoMemory}
use Rattle.hg_replica.specs.State.{ReplicaState}
use Rattle.hg_replica.specs.Change.{ChangeValue, IsNothing}
use Rattle.hg_replica.specs.Content.{content_of}
use Rattle.hg_replica.specs.Undo.{LeadsBack, UndoValue}
use Rattle.hg_instab.specs.Changed.{IsChangedTo}
use Rattle.hg_instab.specs.Instabilities.{AreInstabilities, InstabilitySets}
use Rattle.hg_view.specs.declared.head_places.HeadPlaces.{HeadPlaces}
use Rattle.hg_view.specs.HeadPlaces.{AreHeadPlaces}
use Rattle.hg_view.specs.declared.refusal.PinRefusal.{PinRefusal}
use Rattle.hg_view.specs.declared.refusal.PinRefusal.TheVariants.{Unknown, NotPinned}
use Rattle.hg_view.specs.declared.refusal.PinRefusal.TheVariants as pin
use Rattle.hg_view.specs.Pins.{UnpinAnswer}

-- a replica, and what its node pins
pub record KeptValue : Type 0 where
  pub replica : ReplicaState
  pub pins : List Node

-- the answer to `Kept::unpin`: as that to `Pins::unpin`, but memory can be wanting where there is a pin
abbrev pub KeptUnpinAnswer : List Node → Node → Result (Unit {0}) PinRefusal → List Node → Type 0
KeptUnpinAnswer before node (Ok done) after = UnpinAnswer before node (Ok done) after
KeptUnpinAnswer before node (Err (NotPinned n)) after = UnpinAnswer before node (Err (NotPinned n)) after
KeptUnpinAnswer before node (Err (Unknown n)) after = ⊥
KeptUnpinAnswer before node (Err pin.NoMemory) after = Contains before node × (after ≡ before)

-- where the replica, now t, answered so: it stays, and the sets follow the change that it told, or stay where that is
-- nothing; or memory was refused, where it is something, and both are as they were before that. Where it refused,
-- neither is touched
abbrev pub KeepsUp : Result (Absorbed ChangeValue UndoValue) Fault → ReplicaState → InstabilitySets →
    Result ChangeValue Fault → ReplicaState → InstabilitySets → Type 0
KeepsUp (Ok absorbed) t sets (Ok change) after sets_after =
    (change ≡ absorbed.change) × (after ≡ t)
    × ((IsNothing change × (sets_after ≡ sets)) ⊎ ((s : ReplicaState) → IsChangedTo s change t
    → AreInstabilities (content_of s) sets → AreInstabilities (content_of t) sets_after))
KeepsUp (Ok absorbed) t sets (Err fault) after sets_after =
    (fault ≡ NoMemory) × ¬ (IsNothing absorbed.change) × (sets_after ≡ sets)
    × ((s : ReplicaState) → LeadsBack t absorbed.undo s → after ≡ s)
KeepsUp (Err fault) t sets result after sets_after = (result ≡ Err fault) × (after ≡ t) × (sets_after ≡ sets)

-- where the replica, now t, joined another and answered so: it stays, and the sets are its; or memory was refused, and
-- both are as they were before that. Where it refused, neither is touched
abbrev pub FindsAgain : Result UndoValue Fault → ReplicaState → InstabilitySets → Result (Unit {0}) Fault →
    ReplicaState → InstabilitySets → Type 0
FindsAgain (Ok undo) t sets (Ok done) after sets_after = (after ≡ t) × AreInstabilities (content_of t) sets_after
FindsAgain (Ok undo) t sets (Err fault) after sets_after =
    (fault ≡ NoMemory) × (sets_after ≡ sets) × ((s : ReplicaState) → LeadsBack t undo s → after ≡ s)
FindsAgain (Err fault) t sets result after sets_after = (result ≡ Err fault) × (after ≡ t) × (sets_after ≡ sets)

-- where the replica, now t, answered so, the heads that were kept beside it: they follow the change that it told, or
-- stay where that is nothing, or where it or they were refused
abbrev pub KeepsHeads : Result (Absorbed ChangeValue UndoValue) Fault → ReplicaState → HeadPlaces →
    Result ChangeValue Fault → HeadPlaces → Type 0
KeepsHeads (Ok absorbed) t heads (Ok change) after =
    (IsNothing change × (after ≡ heads)) ⊎ AreHeadPlaces t.history after
KeepsHeads (Ok absorbed) t heads (Err fault) after = after ≡ heads
KeepsHeads (Err fault) t heads result after = after ≡ heads

-- where the replica, now t, joined another and answered so: the heads are its, or stay where it or they were refused
abbrev pub FindsHeadsAgain : Result UndoValue Fault → ReplicaState → HeadPlaces → Result (Unit {0}) Fault →
    HeadPlaces → Type 0
FindsHeadsAgain (Ok undo) t heads (Ok done) after = AreHeadPlaces t.history after
FindsHeadsAgain (Ok undo) t heads (Err fault) after = after ≡ heads
FindsHeadsAgain (Err fault) t heads result after = after ≡ heads

-- What taking messages in answers, and what is held then.
use Rattle.std.specs.Prelude.{◌≡◌, ◌⊎◌, ◌++◌, ℕ, List, [], ◌∷◌, Result, Ok, Err}
use Rattle.hg_phases.specs.State.{changesets}
use Rattle.hg_history.specs.declared.fault.Fault.{Fault}
use Rattle.hg_history.specs.Answer.{IsFirstFault}
use Rattle.hg_replica.specs.Answer.{AbsorbAnswer, IsAbsorbed}
use Rattle.hg_replica.specs.Change.{ChangeValue}
use Rattle.hg_replica.specs.Content.{Content, content_of}
use Rattle.hg_replica.specs.Evolution.{IsHidden}
use Rattle.hg_replica.specs.Least.{PartValue, IsLeast, IsSmallest}
use Rattle.hg_replica.specs.State.{ReplicaState, nothing_held}
use Rattle.hg_instab.specs.Instabilities.{AreInstabilities}
use Rattle.hg_message.specs.declared.error.MessageFault.{MessageFault}
use Rattle.hg_message.specs.Value.{MessageValue}
use Rattle.hg_message.specs.Message.{message_at}
use Rattle.hg_message.specs.Part.{part_of as message_part}
use Rattle.hg_trial.specs.declared.refusal.Refusal.{Refusal}
use Rattle.hg_trial.specs.declared.refusal.Refusal.TheVariants.{Message, Part, NoMemory}
use Rattle.hg_trial.specs.declared.trial.Taken.{Taken}
use Rattle.hg_trial.specs.declared.tried.Answer.{Answer}
use Rattle.hg_trial.specs.declared.tried.Answer.TheVariants as answer
use Rattle.hg_trial.specs.Moved.{AreTurned, IsMoved}
use Rattle.hg_trial.specs.Refusals.{part_refusal}

-- ---- one message

-- the bytes say this message
abbrev pub Says : List ℕ → MessageValue → Type 0
Says bytes m = message_at bytes ≡ Ok m

-- the bytes say a message, which was absorbed: t is the least state above s that covers it, and the change tells all
-- that is new and lower
abbrev pub IsTaken : ReplicaState → List ℕ → ChangeValue → ReplicaState → Type 0
IsTaken s bytes change t = (m : MessageValue) × Says bytes m × IsAbsorbed s (message_part m) change t

-- nothing of the bytes was taken: they are no message, by their first fault; or they say one whose part has this first
-- fault; or memory was wanting for one
abbrev pub IsRefused : ReplicaState → List ℕ → Refusal → Type 0
IsRefused s bytes (Message fault) = message_at bytes ≡ Err fault
IsRefused s bytes (Part fault) =
    (m : MessageValue) × Says bytes m × IsFirstFault (changesets s.history) (message_part m).history fault
IsRefused s bytes NoMemory = (m : MessageValue) × Says bytes m

-- what taking the bytes in answers at s, and the state after it
abbrev pub TakeAnswer : ReplicaState → List ℕ → Result Taken Refusal → ReplicaState → Type 0
TakeAnswer s bytes (Ok taken) t = IsTaken s bytes taken.change t × AreInstabilities (content_of s) taken.before
TakeAnswer s bytes (Err refusal) t = IsRefused s bytes refusal × (t ≡ s)

-- what is told of an absorption at what contains f
abbrev pub Tells : Content → Result ChangeValue Fault → Result Taken Refusal → Type 0
Tells f (Ok change) (Ok taken) = (taken.change ≡ change) × AreInstabilities f taken.before
Tells f (Ok change) (Err refusal) = ⊥
Tells f (Err fault) (Ok taken) = ⊥
Tells f (Err fault) (Err refusal) = refusal ≡ part_refusal fault

-- what absorbing a part answers at s, and the state after it
abbrev pub AbsorbsPart : ReplicaState → PartValue → Result Taken Refusal → ReplicaState → Type 0
AbsorbsPart s part result t =
    (answer : Result ChangeValue Fault) × AbsorbAnswer s part answer t × Tells (content_of s) answer result

-- memory was wanting: for the message that the bytes say, and nothing was taken; or for what is told of it, once it was
abbrev pub WantsMemory : ReplicaState → List ℕ → ReplicaState → Type 0
WantsMemory s bytes t =
    (IsRefused s bytes NoMemory × (t ≡ s)) ⊎ ((change : ChangeValue) × IsTaken s bytes change t)

-- the refusal isn't want of memory
abbrev pub IsFault : Refusal → Type 0
IsFault (Message fault) = Unit {0}
IsFault (Part fault) = Unit {0}
IsFault NoMemory = ⊥

-- ---- many messages

-- the answer tells what the message changed that was taken, where t is what is held now
abbrev pub TellsTaken : Taken → ReplicaState → Answer → Type 0
TellsTaken taken t (answer.Taken change turned) =
    (change ≡ taken.change)
    × ((f : Content) → AreInstabilities f taken.before → AreTurned f (content_of t) turned)
TellsTaken taken t (answer.Refused refusal) = ⊥

-- a message was taken, and this came to each kind of changesets and went from it, and to what is hidden; or it was
-- refused, for another reason than want of memory, and nothing changed
abbrev pub IsAnswerTo : ReplicaState → List ℕ → Answer → ReplicaState → Type 0
IsAnswerTo s bytes (answer.Taken change turned) t =
    IsTaken s bytes change t × AreTurned (content_of s) (content_of t) turned
    × IsMoved (IsHidden (content_of s)) (IsHidden (content_of t)) turned.extinct
IsAnswerTo s bytes (answer.Refused NoMemory) t = ⊥
IsAnswerTo s bytes (answer.Refused (Message fault)) t = IsRefused s bytes (Message fault) × (t ≡ s)
IsAnswerTo s bytes (answer.Refused (Part fault)) t = IsRefused s bytes (Part fault) × (t ≡ s)

-- each message was answered so in turn, and t is what is held in the end
abbrev pub AnswersTo : ReplicaState → List (List ℕ) → List Answer → ReplicaState → Type 0
AnswersTo s [] [] t = t ≡ s
AnswersTo s (bytes ∷ messages) (answer ∷ answers) t =
    (u : ReplicaState) × IsAnswerTo s bytes answer u × AnswersTo u messages answers t
AnswersTo s [] (answer ∷ answers) t = ⊥
AnswersTo s (bytes ∷ messages) [] t = ⊥

-- the part of the message that the bytes say, none where they say none
abbrev pub part_said : Result MessageValue MessageFault → List PartValue
part_said (Ok m) = message_part m ∷ []
part_said (Err fault) = []

-- the parts of the messages that were taken, in their order
abbrev pub parts_taken : List (List ℕ) → List Answer → List PartValue
parts_taken [] answers = []
parts_taken (bytes ∷ messages) [] = []
parts_taken (bytes ∷ messages) (answer.Taken change turned ∷ answers) =
    part_said (message_at bytes) ++ parts_taken messages answers
parts_taken (bytes ∷ messages) (answer.Refused refusal ∷ answers) = parts_taken messages answers

-- what is held is the least state, by the formula, of the messages that were taken: it covers them, and is below each
-- valid state that does
pub record IsLeastOfTaken (messages : List (List ℕ)) (answers : List Answer) (t : ReplicaState) : Type 0 where
  pub formula : IsLeast nothing_held (parts_taken messages answers) t
  pub smallest : IsSmallest nothing_held (parts_taken messages answers) t

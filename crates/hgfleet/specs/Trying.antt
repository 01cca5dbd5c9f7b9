-- What is answered of files of messages.
use Rattle.std.specs.Prelude.{◌≡◌, ◌⊎◌, ◌≤◌, ◌++◌, ◌∷◌, [], ℕ, List, All, Bool, Contains, Option, None, Some, IfSome}
use Rattle.std.specs.Prelude.{Err, Ok, Result, String, codes, false, length, option_map, string_bytes, true}
use Rattle.std.specs.declared.alloc.Global.{Global}
use Rattle.std.specs.Io.KnownBytes.{Appends}
use Rattle.hg_log.specs.Drawings.{Text}
use Rattle.hg_log.specs.Graphs.{IsGraphOf}
use Rattle.hg_log.specs.Objects.{IsArray, NodeState}
use Rattle.hg_message.specs.declared.refusal.OfferRefusal.{OfferRefusal}
use Rattle.hg_message.specs.declared.scope.Scope.TheVariants.{Whole}
use Rattle.hg_message.specs.Offer.{IsOfferOf}
use Rattle.hg_message.specs.Outgoing.{FindAnswer, WriteAnswer}
use Rattle.hg_message.specs.Spelling.{message_spelling}
use Rattle.hg_message.specs.Value.{MessageValue}
use Rattle.hg_preview.specs.Answers.{AreAnswersText}
use Rattle.hg_preview.specs.Comparisons.{ComparesMessages}
use Rattle.hg_replica.specs.State.{ReplicaState, nothing_held}
use Rattle.hg_line.specs.declared.fault.RunFault.TheVariants.{NoMemory, Read, Write}
use Rattle.hg_trial.specs.declared.tried.Answer.{Answer}
use Rattle.hg_trial.specs.declared.tried.Answer.TheVariants.{Taken, Refused}
use Rattle.hg_trial.specs.Trials.{AnswersTo, IsLeastOfTaken}
use Rattle.hg_view.specs.Kept.{KeptValue}
use Rattle.hg_why.specs.Blocks.{IsWhy}
use Rattle.hgfleet.specs.declared.failure.Failure.{Failure}
use Rattle.hgfleet.specs.declared.failure.Failure.TheVariants.{Differ, File, NotTaken, Run}
use Rattle.hgfleet.specs.declared.try_arguments.Account.{Account}
use Rattle.hgfleet.specs.declared.try_arguments.Account.TheVariants.{Answers, Log, Why, Graph, Array}
use Rattle.hgfleet.specs.declared.try_arguments.WantedTrial.{WantedTrial}
use Rattle.hgfleet.specs.Drawings.{IsHistory}
use Rattle.hgfleet.specs.Limits.{file_limit}

-- no more bytes than a file may have, and what the reader had, where that is known
abbrev pub IsFileRead : Option Text → Text → Type 0
IsFileRead known bytes = (length bytes ≤ file_limit) × IfSome known (λ all. all ≡ bytes)

-- the same of the file of this name, or of what the reader had where the name stands for that; what a file had isn't
-- known
abbrev pub IsNamedRead : Text → Option Text → Text → Type 0
IsNamedRead name known bytes = (length bytes ≤ file_limit) × (name ≡ codes "-" → IsFileRead known bytes)

-- the message was taken
abbrev pub IsMessageTaken : Answer → Type 0
IsMessageTaken (Taken change turned) = Unit {0}
IsMessageTaken (Refused refusal) = ⊥

-- each message was taken
abbrev pub AreMessagesTaken : List Answer → Type 0
AreMessagesTaken = All IsMessageTaken

-- what messages were answered is told but where a graph or an array is all that is printed
abbrev pub tells_answers : Account → Bool
tells_answers Answers = true
tells_answers (Log shows_hidden) = true
tells_answers Why = true
tells_answers (Graph shows_hidden) = false
tells_answers Array = false

-- what messages were answered, where that is told, and else nothing
abbrev pub AreAnswersToldIf : Bool → List Answer → Text → Type 0
AreAnswersToldIf true answers text = AreAnswersText answers text
AreAnswersToldIf false answers text = text ≡ []

abbrev pub AreAnswersTold : Account → List Answer → Text → Type 0
AreAnswersTold account answers text = AreAnswersToldIf (tells_answers account) answers text

-- what stands after a trial, where nothing is pinned, and what it is called
abbrev pub standing : ReplicaState → NodeState
standing trial = (codes "trial", record { replica = trial; pins = [] })

-- what is shown of what stands after a trial
abbrev pub IsShownOf : Account → ReplicaState → Text → Type 0
IsShownOf Answers trial text = text ≡ []
IsShownOf (Log shows_hidden) trial text = IsHistory shows_hidden (standing trial).0 (standing trial).1 text
IsShownOf Why trial text = IsWhy (standing trial).0 (standing trial).1 text
IsShownOf (Graph shows_hidden) trial text = IsGraphOf shows_hidden (standing trial ∷ []) text
IsShownOf Array trial text = IsArray true (standing trial ∷ []) text

-- what messages were answered, and below it what stands then
abbrev pub IsAccount : Account → List Answer → ReplicaState → Text → Type 0
IsAccount account answers trial text =
    (told : Text) × (shown : Text) × AreAnswersTold account answers told × IsShownOf account trial shown
    × (text ≡ told ++ shown)

-- as many messages as files are named were answered so, one after the other, and the account was written of it
abbrev pub IsTrial : WantedTrial → List Answer → Option Text → Option Text → Type 0
IsTrial wanted answers held holds =
    (messages : List Text) × (trial : ReplicaState) × (text : Text) × (length messages ≡ length wanted.files.items)
    × AnswersTo nothing_held messages answers trial × IsLeastOfTaken messages answers trial
    × IsAccount wanted.account answers trial text × Appends held holds text

-- the messages were taken
abbrev pub IsTakenTrial : WantedTrial → Option Text → Option Text → Type 0
IsTakenTrial wanted held holds = (answers : List Answer) × IsTrial wanted answers held holds × AreMessagesTaken answers

-- the messages were answered, and one was refused
abbrev pub IsRefusedTrial : WantedTrial → Option Text → Option Text → Type 0
IsRefusedTrial wanted held holds =
    (answers : List Answer) × IsTrial wanted answers held holds × ¬ (AreMessagesTaken answers)

-- the messages were answered, whatever it was
abbrev pub IsAnsweredTrial : WantedTrial → Option Text → Option Text → Type 0
IsAnsweredTrial wanted held holds = (answers : List Answer) × IsTrial wanted answers held holds

-- two messages were compared with this answer
abbrev pub IsComparison : Option Bool → Option Text → Option Text → Type 0
IsComparison answer held holds =
    (first : Text) × (second : Text) × ComparesMessages first second held holds answer

-- ---- what is written to a file

-- what the offer is of all that is held and isn't secret, hidden or not, with every marker
abbrev pub IsWholeOffer : KeptValue → MessageValue → Type 0
IsWholeOffer kept found = IsOfferOf kept.replica kept.pins [] Whole found

-- the answer to a call that makes the bytes of that offer: they are its written form; or the offer isn't found, or not
-- written, for the reason that is told
abbrev pub WholeAnswer : {A : Type 0} → (A → Text) → KeptValue → Result A OfferRefusal → Type 0
WholeAnswer bytes kept (Ok x) = (found : MessageValue) × IsWholeOffer kept found × (bytes x ≡ message_spelling found)
WholeAnswer {A = A} bytes kept (Err refusal) =
    FindAnswer kept.replica kept.pins [] Whole (Err refusal)
    ⊎ ((found : MessageValue) × IsWholeOffer kept found × WriteAnswer bytes found (Err refusal))

-- ---- why these end early

abbrev pub IsWantOfMemory : Failure → Type 0
IsWantOfMemory failure = failure ≡ Run NoMemory

-- the file of this name wasn't read, or there was no memory for it
abbrev pub IsUnread : Text → Failure → Type 0
IsUnread name (File told fault) = told.now ≡ name
IsUnread name (Run fault) = fault ≡ NoMemory
IsUnread name _ = ⊥

-- the same of one of these
abbrev pub IsUnreadAmong : List (String Global) → Failure → Type 0
IsUnreadAmong names (File told fault) = (s : String Global) × Contains names s × (told.now ≡ string_bytes s)
IsUnreadAmong names (Run fault) = fault ≡ NoMemory
IsUnreadAmong names _ = ⊥

-- the file of this name wasn't written, or there was no memory for what is
abbrev pub IsUnwritten : Text → Failure → Type 0
IsUnwritten name (File told fault) = told.now ≡ name
IsUnwritten name (Run fault) = fault ≡ NoMemory
IsUnwritten name _ = ⊥

-- the file that is named wasn't written
abbrev pub IsTargetUnwritten : Option (String Global) → Failure → Type 0
IsTargetUnwritten (Some name) failure = IsUnwritten (string_bytes name) failure
IsTargetUnwritten None failure = ⊥

-- a trial: a message was refused; or a file wasn't read, or there are no keys, and nothing was printed; or all messages
-- were answered, and the file that is written wasn't; or a write failed, or memory was wanting
abbrev pub EndsTrial : WantedTrial → Option Text → Option Text → Failure → Type 0
EndsTrial wanted held holds (NotTaken told) = IsRefusedTrial wanted held holds
EndsTrial wanted held holds (File told fault) =
    (IsUnreadAmong wanted.files.items (File told fault) × (holds ≡ held))
    ⊎ ((option_map string_bytes wanted.target ≡ Some told.now) × IsAnsweredTrial wanted held holds)
EndsTrial wanted held holds (Run fault) =
    ((fault ≡ Read) × (holds ≡ held)) ⊎ ((fault ≡ Write) ⊎ (fault ≡ NoMemory))
EndsTrial wanted held holds _ = ⊥

-- a comparison, once both files are read: they differ, or one of the messages was refused; or there are no keys, and
-- nothing was written; or a write failed, or memory was wanting
abbrev pub EndsCompared : Option Text → Option Text → Failure → Type 0
EndsCompared held holds Differ = IsComparison (Some false) held holds
EndsCompared held holds (NotTaken told) = IsComparison None held holds
EndsCompared held holds (Run fault) =
    ((fault ≡ Read) × (holds ≡ held)) ⊎ ((fault ≡ Write) ⊎ (fault ≡ NoMemory))
EndsCompared held holds _ = ⊥

-- a comparison of two files: the same; or one of them wasn't read, and nothing was written
abbrev pub EndsComparison : Text → Text → Option Text → Option Text → Failure → Type 0
EndsComparison first second held holds (File told fault) =
    ((told.now ≡ first) ⊎ (told.now ≡ second)) × (holds ≡ held)
EndsComparison first second held holds failure = EndsCompared held holds failure

-- Messages that are opened, and compared then.
use Rattle.std.proofs.Common.{◌≡◌, ◌↔◌, [], Bool, Option, None, Some, IsTrue, Ok, Err, IfOk, Result, inl, subst}
use Rattle.std.specs.Io.KnownBytes.{Appends}
use Rattle.std.proofs.KnownBytes.{Appends-trans}
use Rattle.hg_log.specs.Drawings.{Text}
use Rattle.hg_log.specs.declared.fault.DrawFault.{DrawFault}
use Rattle.hg_log.proofs.DrawingLemmas.{Grows-trans}
use Rattle.hg_replica.specs.State.{IsSameState, ReplicaState, nothing_held}
use Rattle.hg_trial.specs.declared.refusal.Refusal.{Refusal}
use Rattle.hg_trial.specs.declared.refusal.Refusal.TheVariants.{Message, NoMemory, Part}
use Rattle.hg_trial.specs.declared.tried.Answer.{Answer}
use Rattle.hg_trial.specs.declared.tried.Answer.TheVariants.{Refused}
use Rattle.hg_trial.specs.Trials.{IsAnswerTo}
use Rattle.hg_view.specs.Kept.{KeptValue}
use Rattle.hg_preview.specs.Answers.{IsAnswerText}
use Rattle.hg_preview.specs.Comparisons.{ComparesMessages, ComparesStates, IsComparisonText, IsUnfit}
use Rattle.hg_preview.specs.Comparisons.{OpensMessage}

-- ---- one message

unfit : (t : ReplicaState) (bytes : Text) (refusal : Refusal) → IsAnswerTo nothing_held bytes (Refused refusal) t
    → IsUnfit bytes
unfit t bytes (Message fault) h = (Message fault, tt, h.0)
unfit t bytes (Part fault) h = (Part fault, tt, h.0)
unfit t bytes NoMemory h = absurd h

pub not_opened : (s t : ReplicaState) (bytes : Text) (told : Answer) (refusal : Refusal) (a b : Option Text)
    → s ≡ nothing_held → IsAnswerTo s bytes told t → told ≡ Refused refusal
    → ((text : Text) × IsAnswerText told text × Appends a b text) → OpensMessage bytes a b None
not_opened s t bytes told refusal a b nothing h is written =
    let P : ReplicaState → Type 0 = λ u. IsAnswerTo u bytes told t in
    let Q : Answer → Type 0 = λ answer. IsAnswerTo nothing_held bytes answer t in
    (unfit t bytes refusal (subst Q is (subst P nothing h)), (written.0, written.2))

-- ---- two messages

-- what is compared, where the two kept states are of these replicas
compared_states : (first second : KeptValue) (s t : ReplicaState) (a b : Option Text) (answer : Bool)
    → first.replica ≡ s → second.replica ≡ t → (IsTrue answer ↔ IsSameState first.replica second.replica)
    → ((text : Text) × IsComparisonText first second answer text × Appends a b text)
    → ComparesStates s t a b answer
compared_states first second s t a b answer is_s is_t same written =
    let P : ReplicaState → Type 0 = λ u. IsTrue answer ↔ IsSameState u second.replica in
    let Q : ReplicaState → Type 0 = λ u. IsTrue answer ↔ IsSameState s u in
    (first, second, written.0, is_s, is_t, subst Q is_t (subst P is_s same), written.1, written.2)

pub states_compared : (first second : KeptValue) (s t : ReplicaState) (a b : Option Text) (r : Result Bool DrawFault)
    → first.replica ≡ s → second.replica ≡ t
    → IfOk r (λ answer. IsTrue answer ↔ IsSameState first.replica second.replica)
    → IfOk r (λ answer. (text : Text) × IsComparisonText first second answer text × Appends a b text)
    → IfOk r (ComparesStates s t a b)
states_compared first second s t a b (Ok answer) is_s is_t same written =
    compared_states first second s t a b answer is_s is_t same written
states_compared first second s t a b (Err fault) is_s is_t same written = tt

pub compared : (first second : Text) (a b c d : Option Text) (s t : ReplicaState) (answer : Bool)
    → OpensMessage first a b (Some s) → OpensMessage second b c (Some t) → ComparesStates s t c d answer
    → ComparesMessages first second a d (Some answer)
compared first second a b c d s t answer mine theirs told =
    let (one, other, text, is_s, is_t, same, written, grown) = told in
    let opens = Appends-trans a b c [] [] mine.1 theirs.1 in
    (s, t, mine.0, theirs.0, (one, other, text, is_s, is_t, same, written, Appends-trans a c d [] text opens grown))

pub first_unfit : (first second : Text) (a b c : Option Text) (theirs : Option ReplicaState)
    → OpensMessage first a b None → OpensMessage second b c theirs → ComparesMessages first second a c None
first_unfit first second a b c (Some t) mine opens = (inl mine.0, Grows-trans a b c mine.1 ([], opens.1))
first_unfit first second a b c None mine unfit = (inl mine.0, Grows-trans a b c mine.1 unfit.1)

-- What taking messages in says, by what reading them and absorbing their parts say.
use Rattle.std.proofs.Common.{◌≡◌, ◌↔◌, ◌++◌, ℕ, List, [], ◌∷◌, Result, Ok, Err, inl, inr, refl, sym, ap}
use Rattle.std.proofs.Common.{subst, ◌∙◌, arith, ◌+◌, ◌<◌, ◌≤◌, length, get_or, map, take}
use Rattle.std.specs.Borrow.{Bor}
use Rattle.std.proofs.lemmas.List.{map-append, take_all, take_more}
use Rattle.std.specs.Prelude.{OnErr}
use Rattle.hg_changeset.specs.declared.node.Node.{Node}
use Rattle.hg_history.specs.declared.fault.Fault.{Fault}
use Rattle.hg_history.specs.declared.fault.Fault.TheVariants as fault
use Rattle.hg_marker.specs.declared.error.ReadError.{ReadError}
use Rattle.hg_marker.specs.declared.error.ReadError.TheVariants as reading
use Rattle.hg_marker.specs.Reading.{Fails}
use Rattle.hg_instab.specs.Instabilities.{AreInstabilities}
use Rattle.hg_replica.specs.Answer.{AbsorbAnswer}
use Rattle.hg_replica.specs.Change.{ChangeValue}
use Rattle.hg_replica.specs.Content.{content_of}
use Rattle.hg_replica.specs.Evolution.{IsExtinct, IsHidden}
use Rattle.hg_replica.specs.Least.{PartValue, IsLeast}
use Rattle.hg_replica.specs.State.{ReplicaState, IsValid, nothing_held}
use Rattle.hg_replica.proofs.LeastLemmas.{least-covered, least-then, least-valid, smallest-least}
use Rattle.hg_message.specs.declared.error.MessageFault.{MessageFault}
use Rattle.hg_message.specs.Value.{MessageValue}
use Rattle.hg_message.specs.Message.{message_at}
use Rattle.hg_message.specs.Part.{part_of as message_part}
use Rattle.hg_message.specs.Known.{PartAnswer}
use Rattle.hg_message.proofs.KnownLemmas.{part-answered}
use Rattle.hg_trial.specs.declared.refusal.Refusal.{Refusal}
use Rattle.hg_trial.specs.declared.refusal.Refusal.TheVariants.{Message, Part, NoMemory}
use Rattle.hg_trial.specs.declared.trial.Taken.{Taken}
use Rattle.hg_trial.specs.declared.tried.Answer.{Answer}
use Rattle.hg_trial.specs.declared.tried.Answer.TheVariants as answer
use Rattle.hg_trial.specs.Refusals.{part_refusal, read_refusal}
use Rattle.hg_trial.specs.Trials.{AbsorbsPart, AnswersTo, IsAnswerTo, IsLeastOfTaken, IsRefused, IsTaken, TakeAnswer}
use Rattle.hg_trial.specs.Trials.{Tells}
use Rattle.hg_trial.specs.Trials.{IsFault, TellsTaken, WantsMemory, parts_taken, part_said}

-- ---- one message

-- a refusal of the part of a message
refused : (s : ReplicaState) (bytes : List ℕ) (m : MessageValue) (cause : Fault) (t : ReplicaState)
    → message_at bytes ≡ Ok m → AbsorbAnswer s (message_part m) (Err cause) t
    → IsRefused s bytes (part_refusal cause) × (t ≡ s)
unfolding AbsorbAnswer
refused s bytes m (fault.UnknownParent n) t says h = ((m, says, h.0), h.1)
refused s bytes m (fault.Collision n) t says h = ((m, says, h.0), h.1)
refused s bytes m (fault.UnknownBound n) t says h = ((m, says, h.0), h.1)
refused s bytes m fault.NullBound t says h = ((m, says, h.0), h.1)
refused s bytes m fault.NoMemory t says h = ((m, says), h.1)

answered : (s t : ReplicaState) (bytes : List ℕ) (m : MessageValue) (r : Result ChangeValue Fault)
    (result : Result Taken Refusal) → message_at bytes ≡ Ok m → AbsorbAnswer s (message_part m) r t
    → Tells (content_of s) r result → TakeAnswer s bytes result t
unfolding AbsorbAnswer
answered s t bytes m (Ok change) (Ok taken) says h told =
    ((m, says, subst (λ (c : ChangeValue). AbsorbAnswer s (message_part m) (Ok c) t) (sym told.0) h), told.1)
answered s t bytes m (Ok change) (Err refusal) says h told = absurd told
answered s t bytes m (Err cause) (Ok taken) says h told = absurd told
answered s t bytes m (Err cause) (Err refusal) says h told =
    subst (λ (r : Refusal). TakeAnswer s bytes (Err r) t) (sym told) (refused s bytes m cause t says h)

-- a part that was read is taken as the whole
pub part_taken : (s t : ReplicaState) (bytes : List ℕ) (part : PartValue) (result : Result Taken Refusal) → IsValid s
    → PartAnswer s bytes (Ok part) → AbsorbsPart s part result t → TakeAnswer s bytes result t
part_taken s t bytes part result valid read h =
    answered s t bytes read.0 h.0 result read.1 (part-answered s t read.0 part h.0 valid read.2 h.1) h.2

-- bytes that weren't read
pub none_taken : (s : ReplicaState) (bytes : List ℕ) (r : Result MessageValue MessageFault)
    (error : ReadError MessageFault) (told : Refusal) → message_at bytes ≡ r → told ≡ read_refusal error
    → Fails error r → TakeAnswer s bytes (Err told) s
none_taken s bytes (Ok m) reading.NoMemory told says is fails =
    (subst (IsRefused s bytes) (sym is) (m, says), refl)
none_taken s bytes (Err other) reading.NoMemory told says is fails = absurd fails
none_taken s bytes r (reading.Fault found) told says is fails =
    (subst (IsRefused s bytes) (sym is) (says ∙ fails), refl)

-- ---- a part

-- there was no room for what is told beside it
pub no_room : (s : ReplicaState) (part : PartValue) → AbsorbsPart s part (Err NoMemory) s
unfolding AbsorbAnswer
no_room s part = (Err fault.NoMemory, (tt, refl), refl)

pub absorbed : (s t : ReplicaState) (part : PartValue) (change : ChangeValue) (taken : Taken)
    → AbsorbAnswer s part (Ok change) t → taken.change ≡ change → AreInstabilities (content_of s) taken.before
    → AbsorbsPart s part (Ok taken) t
absorbed s t part change taken h is before = (Ok change, h, (is, before))

pub not_absorbed : (s t : ReplicaState) (part : PartValue) (cause : Fault) (told : Refusal)
    → AbsorbAnswer s part (Err cause) t → told ≡ part_refusal cause → AbsorbsPart s part (Err told) t
not_absorbed s t part cause told h is = (Err cause, h, is)

-- ---- what is told of it

-- what is held after a message that was taken is valid
taken-valid : (s t : ReplicaState) (bytes : List ℕ) (change : ChangeValue) → IsValid s → IsTaken s bytes change t
    → IsValid t
taken-valid s t bytes change valid h = least-valid s (message_part h.0 ∷ []) t h.2.least valid

abbrev pub HiddenIsExtinct : Type 0
HiddenIsExtinct = (s : ReplicaState) (n : Node) → IsValid s → IsHidden (content_of s) n ↔ IsExtinct (content_of s) n

pub taken_told : (s t : ReplicaState) (bytes : List ℕ) (taken : Taken) (told : Answer) → IsValid s → HiddenIsExtinct
    → TakeAnswer s bytes (Ok taken) t → TellsTaken taken t told → IsAnswerTo s bytes told t
taken_told s t bytes taken (answer.Refused refusal) valid hidden h is = absurd is
taken_told s t bytes taken (answer.Taken change turned) valid hidden h is =
    let turns = is.1 (content_of s) h.1 in
    let after = taken-valid s t bytes taken.change valid h.0 in
    let extinct = turns.extinct in (
      subst (λ (c : ChangeValue). IsTaken s bytes c t) (sym is.0) h.0,
      turns,
      record {
        came = λ n. (
          λ c. let x = (extinct.came n).0 c in ((hidden t n after).1 x.0, λ p. x.1 ((hidden s n valid).0 p)),
          λ c. (extinct.came n).1 ((hidden t n after).0 c.0, λ p. c.1 ((hidden s n valid).1 p)),
        );
        went = λ n. (
          λ c. let x = (extinct.went n).0 c in ((hidden s n valid).1 x.0, λ p. x.1 ((hidden t n after).0 p)),
          λ c. (extinct.went n).1 ((hidden s n valid).0 c.0, λ p. c.1 ((hidden t n after).1 p)),
        );
      },
    )

pub refused_told : (s t : ReplicaState) (bytes : List ℕ) (refusal : Refusal) (told : Answer) → IsFault refusal
    → TakeAnswer s bytes (Err refusal) t → told ≡ answer.Refused refusal → IsAnswerTo s bytes told t
refused_told s t bytes (Message fault) told is h same = subst (λ (a : Answer). IsAnswerTo s bytes a t) (sym same) h
refused_told s t bytes (Part fault) told is h same = subst (λ (a : Answer). IsAnswerTo s bytes a t) (sym same) h
refused_told s t bytes NoMemory told is h same = absurd is

pub memory_wanted : (s t : ReplicaState) (bytes : List ℕ) (refusal : Refusal) → TakeAnswer s bytes (Err refusal) t
    → refusal ≡ NoMemory → WantsMemory s bytes t
memory_wanted s t bytes refusal h is = inl (subst (λ (r : Refusal). TakeAnswer s bytes (Err r) t) is h)

pub memory_wanted_later : (s t : ReplicaState) (bytes : List ℕ) (taken : Taken) → TakeAnswer s bytes (Ok taken) t
    → WantsMemory s bytes t
memory_wanted_later s t bytes taken h = inr (taken.change, h.0)

pub take_unchanged : (s t : ReplicaState) (bytes : List ℕ) (result : Result Taken Refusal)
    → TakeAnswer s bytes result t → OnErr result (t ≡ s)
take_unchanged s t bytes (Ok taken) h = tt
take_unchanged s t bytes (Err refusal) h = h.1

-- ---- many messages

-- nothing is taken
pub nothing_taken : (s : ReplicaState) → IsValid s → IsLeast s [] s
nothing_taken s valid = least-covered s [] valid (λ k at. absurd (omega (arith, at.1)))

answer-least : (s u t : ReplicaState) (bytes : List ℕ) (messages : List (List ℕ)) (told : Answer)
    (answers : List Answer)
    → IsAnswerTo s bytes told u → IsLeast u (parts_taken messages answers) t
    → IsLeast s (parts_taken (bytes ∷ messages) (told ∷ answers)) t
answer-least s u t bytes messages (answer.Taken change turned) answers h next =
    let m = h.0.0 in
    let first : IsLeast s (message_part m ∷ []) u = h.0.2.least in
    subst (λ (r : Result MessageValue MessageFault). IsLeast s (part_said r ++ parts_taken messages answers) t)
    (sym h.0.1) (least-then s u t (message_part m ∷ []) (parts_taken messages answers) first next)
answer-least s u t bytes messages (answer.Refused NoMemory) answers h next = absurd h
answer-least s u t bytes messages (answer.Refused (Message fault)) answers h next =
    subst (λ (x : ReplicaState). IsLeast x (parts_taken messages answers) t) h.1 next
answer-least s u t bytes messages (answer.Refused (Part fault)) answers h next =
    subst (λ (x : ReplicaState). IsLeast x (parts_taken messages answers) t) h.1 next

answer-valid : (s u : ReplicaState) (bytes : List ℕ) (told : Answer) → IsAnswerTo s bytes told u → IsValid s → IsValid u
answer-valid s u bytes (answer.Taken change turned) h valid = taken-valid s u bytes change valid h.0
answer-valid s u bytes (answer.Refused NoMemory) h valid = absurd h
answer-valid s u bytes (answer.Refused (Message fault)) h valid = subst IsValid (sym h.1) valid
answer-valid s u bytes (answer.Refused (Part fault)) h valid = subst IsValid (sym h.1) valid

answers-least : (s t : ReplicaState) (messages : List (List ℕ)) (answers : List Answer) → IsValid s
    → AnswersTo s messages answers t → IsLeast s (parts_taken messages answers) t
answers-least s t [] [] valid h = subst (IsLeast s []) (sym h) (nothing_taken s valid)
answers-least s t (bytes ∷ messages) (told ∷ answers) valid h =
    answer-least s h.0 t bytes messages told answers h.1
    (answers-least h.0 t messages answers (answer-valid s h.0 bytes told h.1 valid) h.2)
answers-least s t [] (told ∷ answers) valid h = absurd h
answers-least s t (bytes ∷ messages) [] valid h = absurd h

-- what is held in the end is the least state of what was taken
pub answers_least : (t : ReplicaState) (messages : List (List ℕ)) (answers : List Answer) → IsValid nothing_held
    → AnswersTo nothing_held messages answers t → IsLeastOfTaken messages answers t
answers_least t messages answers valid h =
    let least = answers-least nothing_held t messages answers valid h in
    record { formula = least; smallest = smallest-least nothing_held t (parts_taken messages answers) valid least }

-- one message more
pub answers_more : (s t u : ReplicaState) (messages : List (List ℕ)) (answers : List Answer) (bytes : List ℕ)
    (told : Answer) → AnswersTo s messages answers t → IsAnswerTo t bytes told u
    → AnswersTo s (messages ++ bytes ∷ []) (answers ++ told ∷ []) u
answers_more s t u [] [] bytes told h next =
    (u, subst (λ (x : ReplicaState). IsAnswerTo x bytes told u) h next, refl)
answers_more s t u (first ∷ messages) (one ∷ answers) bytes told h next =
    (h.0, h.1, answers_more h.0 t u messages answers bytes told h.2 next)
answers_more s t u [] (one ∷ answers) bytes told h next = absurd h
answers_more s t u (first ∷ messages) [] bytes told h next = absurd h

-- the same of a list of references, of which the next one is answered
pub next_answer : (s t u : ReplicaState) (messages : List (Bor (List ℕ))) (i : ℕ) (d : Bor (List ℕ))
    (answers more : List Answer) (told : Answer) → i < length messages
    → AnswersTo s (map (λ bytes. bytes.now) (take i messages)) answers t
    → IsAnswerTo t (get_or messages i d).now told u → more ≡ answers ++ told ∷ []
    → AnswersTo s (map (λ bytes. bytes.now) (take (i + 1) messages)) more u
next_answer s t u messages i d answers more told within h next is =
    let bytes : Bor (List ℕ) → List ℕ = λ b. b.now in
    let texts : map bytes (take (i + 1) messages) ≡ map bytes (take i messages) ++ (get_or messages i d).now ∷ [] =
    ap (map bytes) (take_more messages i d within) ∙ map-append bytes (take i messages) (get_or messages i d ∷ []) in
    subst (λ ms. AnswersTo s ms more u) (sym texts)
    (subst (λ all. AnswersTo s (map bytes (take i messages) ++ (get_or messages i d).now ∷ []) all u) (sym is)
    (answers_more s t u (map bytes (take i messages)) answers (get_or messages i d).now told h next))

pub all_answered : (s t : ReplicaState) (messages : List (Bor (List ℕ))) (i : ℕ) (answers : List Answer)
    → length messages ≤ i → AnswersTo s (map (λ bytes. bytes.now) (take i messages)) answers t
    → AnswersTo s (map (λ bytes. bytes.now) messages) answers t
all_answered s t messages i answers end h =
    let bytes : Bor (List ℕ) → List ℕ = λ b. b.now in
    subst (λ (ms : List (Bor (List ℕ))). AnswersTo s (map bytes ms) answers t) (take_all i messages end) h

-- Messages that are answered one after the other, and what is written of that.
use Rattle.std.proofs.Common.{◌≡◌, ◌+◌, ◌<◌, ◌≤◌, ℕ, List, [], ◌∷◌, ◌++◌, Option, length, get_or, map, take}
use Rattle.std.proofs.Common.{append_assoc, ap, arith, refl, subst, sym, ◌∙◌}
use Rattle.std.specs.Borrow.{Bor}
use Rattle.std.specs.Io.KnownBytes.{Appends}
use Rattle.std.proofs.KnownBytes.{Appends-nil, Appends-trans}
use Rattle.std.proofs.lemmas.List.{append-nil, get_or-map, length-map}
use Rattle.hg_log.specs.Drawings.{Text}
use Rattle.hg_replica.specs.State.{ReplicaState}
use Rattle.hg_trial.specs.declared.tried.Answer.{Answer}
use Rattle.hg_trial.specs.Trials.{AnswersTo, IsAnswerTo}
use Rattle.hg_trial.proofs.TrialLemmas.{all_answered, next_answer}
use Rattle.hg_preview.specs.declared.messages.NamedMessage.{NamedMessage}
use Rattle.hg_preview.specs.Answers.{AreAnswersText, IsAnswerText, texts_of}

-- ---- what is written

-- the answers are written
abbrev pub AreWritten : List Answer → Option Text → Option Text → Type 0
AreWritten answers held holds = (text : Text) × AreAnswersText answers text × Appends held holds text

answers_text : (answers : List Answer) (answer : Answer) (text more : Text) → AreAnswersText answers text
    → IsAnswerText answer more → AreAnswersText (answers ++ answer ∷ []) (text ++ more)
answers_text [] answer text more told next =
    (more, [], next, refl, ap (λ (t : Text). t ++ more) told ∙ sym (append-nil more))
answers_text (first ∷ answers) answer text more told next = (
  told.0,
  told.1 ++ more,
  told.2,
  answers_text answers answer told.1 more told.3 next,
  ap (λ (t : Text). t ++ more) told.4 ∙ append_assoc told.0 told.1 more,
)

pub none_written : (answers : List Answer) (a : Option Text) → answers ≡ [] → AreWritten answers a a
none_written answers a is = subst (λ (told : List Answer). AreWritten told a a) (sym is) ([], refl, Appends-nil a)

pub next_written : (answers more : List Answer) (answer : Answer) (a b c : Option Text) → AreWritten answers a b
    → ((text : Text) × IsAnswerText answer text × Appends b c text) → more ≡ answers ++ answer ∷ []
    → AreWritten more a c
next_written answers more answer a b c written next is =
    subst (λ (told : List Answer). AreWritten told a c) (sym is) (
      written.0 ++ next.0,
      answers_text answers answer written.0 next.0 written.1 next.1,
      Appends-trans a b c written.0 next.0 written.2 next.2,
    )

-- ---- what is answered

-- so many messages were answered
abbrev pub AreAnswered : ReplicaState → List NamedMessage → ℕ → List Answer → ReplicaState → Type 0
AreAnswered s messages i answers t =
    AnswersTo s (map (λ bytes. bytes.now) (take i (map (λ message. message.bytes) messages))) answers t

pub next_answered : (s t u : ReplicaState) (messages : List NamedMessage) (i : ℕ) (d : NamedMessage)
    (answers more : List Answer) (answer : Answer) → i < length messages → AreAnswered s messages i answers t
    → IsAnswerTo t (get_or messages i d).bytes.now answer u → more ≡ answers ++ answer ∷ []
    → AreAnswered s messages (i + 1) more u
next_answered s t u messages i d answers more answer within answered next is =
    let bytes_of : NamedMessage → Bor Text = λ message. message.bytes in
    let inside : i < length (map bytes_of messages) = omega (arith, within, length-map messages bytes_of) in
    let here = get_or-map bytes_of messages i d d.bytes within in
    next_answer s t u (map bytes_of messages) i d.bytes answers more answer inside answered
    (subst (λ (b : Bor Text). IsAnswerTo t b.now answer u) (sym here) next) is

pub all_are_answered : (s t : ReplicaState) (messages : List NamedMessage) (i : ℕ) (answers : List Answer)
    → length messages ≤ i → AreAnswered s messages i answers t → AnswersTo s (texts_of messages) answers t
all_are_answered s t messages i answers end answered =
    let bytes_of : NamedMessage → Bor Text = λ message. message.bytes in
    let past : length (map bytes_of messages) ≤ i = omega (arith, end, length-map messages bytes_of) in
    all_answered s t (map bytes_of messages) i answers past answered

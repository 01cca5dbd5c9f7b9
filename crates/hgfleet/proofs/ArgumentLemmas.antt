-- What the parser tells at words that are written out.
use Rattle.std.proofs.Common.{◌≡◌, ◌≢◌, ◌∷◌, [], List, codes, length, map, refl, inl, inr, ◌∙◌, ap, subst, arith}
use Rattle.std.proofs.Common.{Option, true, Result, Ok, Err, IfOk}
use Rattle.clap.specs.Words.{App, Row, Text, Kinds, FailsBy, HasKind, IsAmong, fault_of, is_simple_and_free, kind_of}
use Rattle.clap.specs.declared.error.Error.{Error}
use Rattle.clap.specs.declared.error.kind.ErrorKind.TheVariants.{OutOfMemory}
use Rattle.clap.proofs.OnLiterals.{clap_on_literals}
use Rattle.hgfleet.specs.Arguments.{AnswerBy, ArgumentsAnswer, IsRun, IsWithinBounds, Words, command_met, faults_at}
use Rattle.hgfleet.specs.Arguments.{form_words, program_at}
use Rattle.hgfleet.specs.declared.arguments.ArgumentFault.{ArgumentFault}
use Rattle.hgfleet.specs.declared.arguments.Wanted.{Wanted}
use Rattle.hgfleet.specs.declared.arguments.Wanted.TheVariants.{Run, RunWithNotes, Race, Log, Show, Write, Why, Fate}
use Rattle.hgfleet.specs.declared.arguments.Wanted.TheVariants.{Help, Version, Try, Compare, Check}

-- the words of a run are at no fault
run_faultless_at : (forms : Words) (name : Text) → faults_at forms (name ∷ codes "run" ∷ []) ≡ []
unfolding clap_on_literals faults_at
run_faultless_at forms name = refl

pub run_faultless : (forms : Words) (words : List Text) → IsRun words → faults_at forms words ≡ []
run_faultless forms [] h = let l : 0 ≡ 1 = ap length h in absurd (omega (arith, l))
run_faultless forms (name ∷ rest) h =
    ap (λ (ws : List Text). faults_at forms (name ∷ ws)) h ∙ run_faultless_at forms name

program_is_free : (forms : Words) → is_simple_and_free (program_at forms) ≡ true
unfolding clap_on_literals
program_is_free forms = refl

-- what a command of this shape tells
pub fails_at : {T : Type 0} (a : App) (words : List Text) (r : Result T Error) (forms : Words) → a ≡ program_at forms
    → (is_simple_and_free a ≡ true → FailsBy (fault_of a words) r) → FailsBy (faults_at forms words) r
unfolding faults_at
fails_at a words r forms e h =
    subst (λ (ks : Kinds). FailsBy ks r) (ap (λ (b : App). fault_of b words) e)
    (h (ap is_simple_and_free e ∙ program_is_free forms))

-- what is told of the words of a run is want of memory
pub not_run : (forms : Words) (words : List Text) (e : Error) → HasKind (faults_at forms words) e
    → kind_of e ≢ OutOfMemory → ¬ (IsRun words)
not_run forms words e (inl m) k run = k m
not_run forms words e (inr among) k run =
    subst (λ ks. IsAmong (kind_of e) ks) (run_faultless forms words run) among

-- and what is told otherwise is a fault of the words
pub is_told : (kinds : Kinds) (e : Error) → HasKind kinds e → kind_of e ≢ OutOfMemory → IsAmong (kind_of e) kinds
is_told kinds e (inl m) k = absurd (k m)
is_told kinds e (inr among) k = among

-- what is answered can be done
within : (faults : Kinds) (met : Option (Text × List Row)) (words : List Text) (r : Result Wanted ArgumentFault)
    → AnswerBy faults met words r → IfOk r IsWithinBounds
within faults met words (Ok Run) h = tt
within faults met words (Ok (RunWithNotes explains traces is_strict)) h = h.1
within faults met words (Ok (Race nodes rounds)) h = h.1
within faults met words (Ok (Log nodes shows_hidden picture line)) h = h.1
within faults met words (Ok (Show form)) h = h.1
within faults met words (Ok (Write form name)) h = h.1
within faults met words (Ok (Why nodes)) h = h.1
within faults met words (Ok (Fate labels)) h = h.1
within faults met words (Ok (Try trial)) h = h.1
within faults met words (Ok (Compare first second)) h = h.1
within faults met words (Ok (Check fills explains)) h = h.1
within faults met words (Ok (Help e)) h = tt
within faults met words (Ok (Version e)) h = tt
within faults met words (Err e) h = tt

-- words that name the forms, at no place
abbrev forms_nowhere : Words
forms_nowhere = record { ref_ptr = (0, 0); now = map (λ name. record { ref_ptr = (0, 0); now = name }) form_words }

pub answer_within : (words : List Text) (r : Result Wanted ArgumentFault) → ArgumentsAnswer words r
    → IfOk r IsWithinBounds
answer_within words r h =
    within (faults_at forms_nowhere words) (command_met forms_nowhere words) words r (h forms_nowhere refl)

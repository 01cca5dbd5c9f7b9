-- The command line of the program, and what its words ask for.
use Rattle.std.specs.Prelude.{ℕ, Bool, List, ◌∷◌, [], ◌≡◌, ◌≢◌, ◌⊎◌, ◌≤◌, codes, true, false, pos, drop, map}
use Rattle.std.specs.Prelude.{if◌then◌else◌, Option, Some, None, Result, Ok, Err, option_and_then}
use Rattle.std.specs.Prelude.{String, option_map, string_bytes, ◌||◌}
use Rattle.std.specs.Borrow.{Bor}
use Rattle.std.specs.Str.{bytes_eq}
use Rattle.std.specs.Str.Parse.{digits_value, without_leading_plus}
use Rattle.std.specs.declared.alloc.Global.{Global}
use Rattle.clap.specs.Lexer.{usize_max}
use Rattle.clap.specs.Words.{App, Row, Rule, Text, Kinds, IsAmong, HasKind, fault_of, first_of, kind_of}
use Rattle.clap.specs.Words.{new_app, new_rule, one_of, subcommand_of, with_rule, with_subcommand}
use Rattle.clap.specs.ValueTests.{is_unsigned_in}
use Rattle.clap.specs.declared.builder.value_parser.ValueParser.TheVariants.{Names, Signed}
use Rattle.clap.specs.declared.error.Error.{Error}
use Rattle.clap.specs.declared.error.kind.ErrorKind.TheVariants.{DisplayHelp, DisplayVersion, OutOfMemory}
use Rattle.hg_race.specs.Limits.{least_nodes, most_nodes, most_rounds}
use Rattle.hg_show.specs.declared.form.Form.{Form}
use Rattle.hg_show.specs.declared.form.Form.TheVariants.{Store, Roots, Message}
use Rattle.hgfleet.specs.declared.arguments.Picture.{Picture}
use Rattle.hgfleet.specs.declared.arguments.Picture.TheVariants as pictures
use Rattle.hgfleet.specs.declared.arguments.Wanted.{Wanted}
use Rattle.hgfleet.specs.declared.arguments.Wanted.TheVariants.{Run, RunWithNotes, Race, Log, Show, Write, Why, Fate}
use Rattle.hgfleet.specs.declared.arguments.Wanted.TheVariants.{Help, Version, Try, Compare, Check}
use Rattle.hgfleet.specs.CheckArguments.{check_app}
use Rattle.hgfleet.specs.Limits.{line_number_limit}
use Rattle.hgfleet.specs.TryArguments.{TrialOptions, compare_app, files_compared, flag_given, flag_rule, try_app}
use Rattle.hgfleet.specs.TryArguments.{try_given, words_given, words_rule}
use Rattle.hgfleet.specs.declared.try_arguments.WantedTrial.{WantedTrial}
use Rattle.hgfleet.specs.declared.arguments.ArgumentFault.{ArgumentFault}
use Rattle.hgfleet.specs.declared.arguments.ArgumentFault.TheVariants.{BadArguments, NotText, NoMemory}

-- an option `--NAME VALUE`, whose value is a number between the bounds
abbrev pub number_rule : Text → ℕ → ℕ → Rule
number_rule name low high = record (new_rule name) {
  long = Some name;
  value_names = 1;
  parser = Some (Signed (pos low) (pos high));
}

-- one that must be given
abbrev pub wanted_number : Text → ℕ → ℕ → Rule
wanted_number name low high = record (number_rule name low high) { required = true }

-- `race` with the number of its nodes, and of its rounds
abbrev pub race : App
race = with_rule (with_rule (new_app (codes "race")) (wanted_number (codes "nodes") least_nodes most_nodes))
    (wanted_number (codes "rounds") 1 most_rounds)

-- `run` with its flags
abbrev pub run : App
run = with_rule (with_rule (with_rule (new_app (codes "run")) (flag_rule (codes "explain")))
    (flag_rule (codes "trace"))) (flag_rule (codes "strict"))

-- a flag that is taken where a script is read
abbrev pub explain_rule : Rule
explain_rule = flag_rule (codes "explain")

-- the names of nodes, any number of them
abbrev pub nodes_rule : Rule
nodes_rule = record (new_rule (codes "nodes")) {
  range = Some (record { start_inclusive = 0; end_inclusive = usize_max });
  value_names = 1;
}

-- an option `--at LINE`
abbrev pub line_rule : Rule
line_rule = number_rule (codes "at") 1 line_number_limit

-- `log` with its flags
abbrev pub log_flags : App
log_flags = with_rule (with_rule (with_rule (with_rule (new_app (codes "log")) (flag_rule (codes "hidden")))
    (flag_rule (codes "dot"))) (flag_rule (codes "json"))) explain_rule

-- `log` with its flags, the number of a line, and the names of nodes
abbrev pub log : App
log = with_rule (with_rule log_flags line_rule) nodes_rule

-- `why` with its flag and the names of nodes
abbrev pub why : App
why = with_rule (with_rule (new_app (codes "why")) explain_rule) nodes_rule

-- `fate` with its flag and labels
abbrev pub fate : App
fate = with_rule (with_rule (new_app (codes "fate")) explain_rule) (words_rule (codes "labels"))

-- references to words, as the parser has them
abbrev pub Words : Type 0
Words = Bor (List (Bor Text))

-- the words that name the forms
abbrev pub form_words : List Text
form_words = codes "store" ∷ codes "roots" ∷ codes "message" ∷ []

-- what the references lead to are the words that name the forms
abbrev pub NamesForms : Words → Type 0
NamesForms words = map (λ s. s.now) words.now ≡ form_words

-- a form, which must be given, by one of these words
abbrev pub form_rule : Words → Rule
form_rule words = record (new_rule (codes "form")) { value_names = 1; required = true; parser = Some (Names words) }

-- a name, which must be given
abbrev pub name_rule : Rule
name_rule = record (new_rule (codes "name")) { value_names = 1; required = true }

-- `show` with a form, and `write` with a form, a name and its flag
abbrev pub show_at : Words → App
show_at words = with_rule (new_app (codes "show")) (form_rule words)

abbrev pub write_at : Words → App
write_at words =
    with_rule (with_rule (with_rule (new_app (codes "write")) (form_rule words)) name_rule) explain_rule

-- `hgfleet` with its version, which requires a command
abbrev pub program_alone : App
program_alone = let bare = new_app (codes "hgfleet") in
    record bare { top = record bare.top { has_version = true; subcommand_required = true } }

-- `hgfleet` with its commands, where the forms have the names behind these references
abbrev pub program_at : Words → App
program_at words =
    let with_run = with_subcommand program_alone run.top in
    let with_log = with_subcommand (with_subcommand with_run race.top) log.top in
    let with_write = with_subcommand (with_subcommand with_log (show_at words).top) (write_at words).top in
    let with_fate = with_subcommand (with_subcommand with_write why.top) fate.top in
    let with_compare = with_subcommand (with_subcommand with_fate try_app.top) compare_app.top in
    with_subcommand with_compare check_app.top

-- after the program's name, whatever it is, the word `run` alone
abbrev pub IsRun : List Text → Type 0
IsRun words = drop 1 words ≡ codes "run" ∷ []

-- the kinds of error that the parser may tell at the words, none where it takes them
unfoldable pub faults_at : Words → List Text → Kinds
faults_at forms words = fault_of (program_at forms) words

-- the command that the words name, and what is given to it
unfoldable pub command_met : Words → List Text → Option (Text × List Row)
command_met forms words = subcommand_of (program_at forms) words

-- the decimal number that the text writes, where it lies between the bounds
abbrev pub number_within : ℕ → ℕ → Text → Option ℕ
number_within low high text =
    if is_unsigned_in low high text then Some (digits_value 10 (without_leading_plus text)) else None

-- the number that is given for the option of this name, where it lies between the bounds
abbrev pub number_given : Text → ℕ → ℕ → List Row → Option ℕ
number_given name low high rows = option_and_then (number_within low high) (one_of name rows)

-- two numbers, where both are given
abbrev pub both_numbers : Option ℕ → Option ℕ → Option (ℕ × ℕ)
both_numbers (Some a) (Some b) = Some (a, b)
both_numbers (Some a) None = None
both_numbers None b = None

-- the numbers of nodes and of rounds that are given for a race's options
abbrev pub numbers_given : List Row → Option (ℕ × ℕ)
numbers_given rows =
    both_numbers (number_given (codes "nodes") least_nodes most_nodes rows)
    (number_given (codes "rounds") 1 most_rounds rows)

-- the numbers of a race, where `race` is the command that was met
abbrev pub race_met : Option (Text × List Row) → Option (ℕ × ℕ)
race_met None = None
race_met (Some met) = if bytes_eq met.0 (codes "race") then numbers_given met.1 else None

-- so many nodes may race for so many rounds
abbrev pub IsRaceSize : ℕ → ℕ → Type 0
IsRaceSize nodes rounds = (least_nodes ≤ nodes) × (nodes ≤ most_nodes) × (1 ≤ rounds) × (rounds ≤ most_rounds)

-- the names of nodes that are given for a log, in their order
abbrev pub names_given : List Row → List Text
names_given rows = words_given (codes "nodes") rows

-- whether a run says what refusals are about, whether it says what accepted lines did, and whether a refused line is a
-- failure
abbrev pub RunNotes : Type 0
RunNotes = Bool × Bool × Bool

-- three flags, where one is given
abbrev pub any_note : Bool → Bool → Bool → Option RunNotes
any_note explains traces is_strict =
    if (explains || traces) || is_strict then Some (explains, traces, is_strict) else None

-- the notes that are given for a run, none where no flag is given
abbrev pub notes_given : List Row → Option RunNotes
notes_given rows =
    any_note (flag_given (codes "explain") rows) (flag_given (codes "trace") rows) (flag_given (codes "strict") rows)

-- the notes that are given for a run, where `run` is the command that was met
abbrev pub run_met : Option (Text × List Row) → Option RunNotes
run_met None = None
run_met (Some met) = if bytes_eq met.0 (codes "run") then notes_given met.1 else None

-- the picture that the flags of a graph and of JSON ask for, none where they ask for two
abbrev pub picture_of : Bool → Bool → Option Picture
picture_of false false = Some pictures.Text
picture_of true false = Some pictures.Graph
picture_of false true = Some pictures.Json
picture_of true true = None

-- the names that are given for a log, whether it shows what is hidden, what it is drawn as, and behind which line, if
-- not the last
abbrev pub LogOptions : Type 0
LogOptions = List Text × Bool × Picture × Option ℕ

-- with the picture, where there is one
abbrev pub options_of : List Text → Bool → Option Picture → Option ℕ → Option LogOptions
options_of names shows_hidden (Some picture) line = Some (names, shows_hidden, picture, line)
options_of names shows_hidden None line = None

-- the number of the line that is given for a log
abbrev pub line_given : List Row → Option ℕ
line_given = number_given (codes "at") 1 line_number_limit

-- what is given for a log, none where two pictures are asked for
abbrev pub log_given : List Row → Option LogOptions
log_given rows =
    options_of (names_given rows) (flag_given (codes "hidden") rows)
    (picture_of (flag_given (codes "dot") rows) (flag_given (codes "json") rows)) (line_given rows)

-- what is given for a log, where `log` is the command that was met
abbrev pub log_met : Option (Text × List Row) → Option LogOptions
log_met None = None
log_met (Some met) = if bytes_eq met.0 (codes "log") then log_given met.1 else None

-- the names that are given to be told why, where `why` is the command that was met
abbrev pub why_met : Option (Text × List Row) → Option (List Text)
why_met None = None
why_met (Some met) = if bytes_eq met.0 (codes "why") then Some (names_given met.1) else None

-- the labels whose fates are told, where `fate` is the command that was met
abbrev pub fate_met : Option (Text × List Row) → Option (List Text)
fate_met None = None
fate_met (Some met) = if bytes_eq met.0 (codes "fate") then Some (words_given (codes "labels") met.1) else None

-- what is given for a trial, where `try` is the command that was met
abbrev pub try_met : Option (Text × List Row) → Option TrialOptions
try_met None = None
try_met (Some met) = if bytes_eq met.0 (codes "try") then try_given met.1 else None

-- the two files that are compared, where `compare` is the command that was met
abbrev pub compare_met : Option (Text × List Row) → Option (Text × Text)
compare_met None = None
compare_met (Some met) = if bytes_eq met.0 (codes "compare") then files_compared met.1 else None

-- whether a check is to fill the script in, and whether it says why lines were refused, where `check` is the command
-- that was met
abbrev pub check_met : Option (Text × List Row) → Option (Bool × Bool)
check_met None = None
check_met (Some met) = if bytes_eq met.0 (codes "check")
    then Some (flag_given (codes "write") met.1, flag_given (codes "explain") met.1) else None

-- the form that the word names
abbrev pub form_named : Text → Option Form
form_named word = if bytes_eq word (codes "store") then Some Store
    else if bytes_eq word (codes "roots") then Some Roots
    else if bytes_eq word (codes "message") then Some Message else None

-- the form that is given
abbrev pub form_given : List Row → Option Form
form_given rows = option_and_then form_named (first_of (codes "form") rows)

-- the form that is given for what is shown, where `show` is the command that was met
abbrev pub show_met : Option (Text × List Row) → Option Form
show_met None = None
show_met (Some met) = if bytes_eq met.0 (codes "show") then form_given met.1 else None

-- a form with a name, where both are given
abbrev pub form_and_name : Option Form → Option Text → Option (Form × Text)
form_and_name (Some form) (Some name) = Some (form, name)
form_and_name (Some form) None = None
form_and_name None name = None

-- the form and the name that are given
abbrev pub write_given : List Row → Option (Form × Text)
write_given rows = form_and_name (form_given rows) (first_of (codes "name") rows)

-- the form and the name that are given for what is written, where `write` is the command that was met
abbrev pub write_met : Option (Text × List Row) → Option (Form × Text)
write_met None = None
write_met (Some met) = if bytes_eq met.0 (codes "write") then write_given met.1 else None

-- what is wanted can be done: the numbers of a race are within their bounds
abbrev pub IsWithinBounds : Wanted → Type 0
IsWithinBounds (Race nodes rounds) = IsRaceSize nodes rounds
IsWithinBounds _ = Unit {0}

-- the bytes of each text
abbrev pub texts_of : List (String Global) → List Text
texts_of = map string_bytes

-- the options that a trial has
abbrev pub options_of_trial : WantedTrial → TrialOptions
options_of_trial trial = (texts_of trial.files.items, trial.account, option_map string_bytes trial.target)

-- the command that was met, with its rows, asks for this; none where it asks for nothing more than a run
abbrev pub MeetsWanted : Option (Text × List Row) → Option Wanted → Type 0
MeetsWanted met (Some (RunWithNotes explains traces is_strict)) = run_met met ≡ Some (explains, traces, is_strict)
MeetsWanted met (Some (Race nodes rounds)) = race_met met ≡ Some (nodes, rounds)
MeetsWanted met (Some (Log nodes shows_hidden picture line)) =
    log_met met ≡ Some (texts_of nodes.items, shows_hidden, picture, line)
MeetsWanted met (Some (Show form)) = show_met met ≡ Some form
MeetsWanted met (Some (Write form name)) = write_met met ≡ Some (form, string_bytes name)
MeetsWanted met (Some (Why nodes)) = why_met met ≡ Some (texts_of nodes.items)
MeetsWanted met (Some (Fate labels)) = fate_met met ≡ Some (texts_of labels.items)
MeetsWanted met (Some (Try trial)) = try_met met ≡ Some (options_of_trial trial)
MeetsWanted met (Some (Compare first second)) = compare_met met ≡ Some (string_bytes first, string_bytes second)
MeetsWanted met (Some (Check fills explains)) = check_met met ≡ Some (fills, explains)
MeetsWanted met (Some _) = ⊥
MeetsWanted met None =
    (run_met met ≡ None) × (race_met met ≡ None) × (log_met met ≡ None) × (show_met met ≡ None)
    × (write_met met ≡ None) × (why_met met ≡ None) × (fate_met met ≡ None) × (try_met met ≡ None)
    × (compare_met met ≡ None) × (check_met met ≡ None)

-- no fault was found, and the command that was met asks for this
abbrev pub AskFor : Kinds → Option (Text × List Row) → Option Wanted → Type 0
AskFor faults met wanted = (faults ≡ []) × MeetsWanted met wanted

-- the parser's answer: what the words ask for, or a fault of the words, or that memory ran out
abbrev pub ParseAnswer : Words → List Text → Result (Option Wanted) Error → Type 0
ParseAnswer forms words (Ok wanted) = AskFor (faults_at forms words) (command_met forms words) wanted
ParseAnswer forms words (Err e) = HasKind (faults_at forms words) e

-- the error is no answer to who asked for a text, and memory didn't run out
abbrev pub IsMistake : Error → Type 0
IsMistake e = (kind_of e ≢ DisplayHelp) × (kind_of e ≢ DisplayVersion) × (kind_of e ≢ OutOfMemory)

-- the words of a run ask for a run, and no others do; help and the version are given where the parser says that they
-- are asked for; anything else is what the command that the words name asks for, where the parser finds no fault, and
-- can be done; all else is bad, and is what the parser says, or words that it takes and that ask for nothing, as a log
-- that two pictures are asked of, or a trial with flags that exclude each other
abbrev pub AnswerBy : Kinds → Option (Text × List Row) → List Text → Result Wanted ArgumentFault → Type 0
AnswerBy faults met words (Ok Run) = IsRun words
AnswerBy faults met words (Ok (Help e)) = IsAmong DisplayHelp faults
AnswerBy faults met words (Ok (Version e)) = IsAmong DisplayVersion faults
AnswerBy faults met words (Ok wanted) = AskFor faults met (Some wanted) × IsWithinBounds wanted
AnswerBy faults met words (Err (BadArguments e)) = ¬ (IsRun words) × IsMistake e
    × (AskFor faults met None ⊎ IsAmong (kind_of e) faults)
AnswerBy faults met words (Err NotText) = ⊥
AnswerBy faults met words (Err NoMemory) = Unit {0}

-- by what the parser finds where the forms have the names behind these references
abbrev pub FormsAnswer : Words → List Text → Result Wanted ArgumentFault → Type 0
FormsAnswer forms words answer = AnswerBy (faults_at forms words) (command_met forms words) words answer

-- that is so of all references that lead to the names of the forms, wherever these lie
abbrev pub ArgumentsAnswer : List Text → Result Wanted ArgumentFault → Type 0
ArgumentsAnswer words answer = (forms : Words) → NamesForms forms → FormsAnswer forms words answer

-- bad arguments are the only refusal; want of memory has no number
abbrev pub argument_fault_number : ArgumentFault → Option ℕ
argument_fault_number (BadArguments error) = Some 1
argument_fault_number NotText = Some 1
argument_fault_number NoMemory = None

-- 3 for want of memory, otherwise 2
abbrev pub argument_fault_status : ArgumentFault → ℕ
argument_fault_status (BadArguments error) = 2
argument_fault_status NotText = 2
argument_fault_status NoMemory = 3

-- the text is the parser's own where it found the fault
abbrev pub argument_fault_text : ArgumentFault → Option (List ℕ)
argument_fault_text (BadArguments error) = None
argument_fault_text NotText = Some (codes "error: the arguments aren't text\n")
argument_fault_text NoMemory = Some (codes "no memory\n")

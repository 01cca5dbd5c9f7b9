-- Flags, and the words of a trial and of a comparison.
use Rattle.std.specs.Prelude.{List, [], Bool, Option, Some, None, codes, false, if◌then◌else◌, true, unwrap_or, ◌||◌}
use Rattle.std.specs.Option.{option_map_or}
use Rattle.std.specs.Str.{bytes_eq}
use Rattle.clap.specs.Lexer.{usize_max}
use Rattle.clap.specs.Words.{App, Row, Rule, Text, all_of, first_of, new_app, new_rule, one_of, with_rule}
use Rattle.clap.specs.declared.builder.action.ArgAction.TheVariants.{SetTrue}
use Rattle.hgfleet.specs.declared.try_arguments.Account.{Account}
use Rattle.hgfleet.specs.declared.try_arguments.Account.TheVariants.{Answers, Log, Why, Graph, Array}

-- a flag `--NAME`
abbrev pub flag_rule : Text → Rule
flag_rule name = record (new_rule name) { long = Some name; action = Some SetTrue }

-- the flag of this name is given
abbrev pub flag_given : Text → List Row → Bool
flag_given name rows = option_map_or (λ text. bytes_eq text (codes "true")) (one_of name rows) false

-- words, one at least
abbrev pub words_rule : Text → Rule
words_rule name = record (new_rule name) {
  range = Some (record { start_inclusive = 1; end_inclusive = usize_max });
  value_names = 1;
  required = true;
}

-- `try` with the flag of a log and those for how it is drawn
abbrev pub try_log_app : App
try_log_app = with_rule (with_rule (with_rule (new_app (codes "try")) (flag_rule (codes "log")))
    (flag_rule (codes "hidden"))) (flag_rule (codes "dot"))

-- an option `--write TARGET`
abbrev pub target_rule : Rule
target_rule = record (new_rule (codes "write")) { long = Some (codes "write"); value_names = 1 }

-- `try` with its flags
abbrev pub try_flags_app : App
try_flags_app = with_rule (with_rule try_log_app (flag_rule (codes "why"))) (flag_rule (codes "json"))

-- `try` with its flags, the file that is written, and the names of files
abbrev pub try_app : App
try_app = with_rule (with_rule try_flags_app target_rule) (words_rule (codes "files"))

-- a file, which must be given
abbrev pub file_rule : Text → Rule
file_rule name = record (new_rule name) { value_names = 1; required = true }

-- `compare` with two files
abbrev pub compare_app : App
compare_app =
    with_rule (with_rule (new_app (codes "compare")) (file_rule (codes "first"))) (file_rule (codes "second"))

-- the words that are given for the argument of this name, in their order
abbrev pub words_given : Text → List Row → List Text
words_given name rows = unwrap_or (all_of name rows) []

-- what is printed of a trial where a log is asked for, none where something else is too
abbrev pub account_of_log : Bool → Bool → Bool → Option Account
account_of_log false shows_hidden false = Some (Log shows_hidden)
account_of_log false shows_hidden true = Some (Graph shows_hidden)
account_of_log true shows_hidden is_graph = None

-- what is printed where no log is asked for, none where it is said how one is drawn, or two accounts are asked for; an
-- array has what is hidden anyway
abbrev pub account_without_log : Bool → Bool → Bool → Bool → Option Account
account_without_log false false false false = Some Answers
account_without_log false false false true = Some Why
account_without_log false false true tells_why = None
account_without_log false true shows_hidden false = Some Array
account_without_log false true shows_hidden true = None
account_without_log true is_array shows_hidden tells_why = None

-- what is printed of a trial, none where flags exclude each other
abbrev pub account_given : List Row → Option Account
account_given rows = if flag_given (codes "log") rows
    then account_of_log (flag_given (codes "why") rows || flag_given (codes "json") rows)
    (flag_given (codes "hidden") rows) (flag_given (codes "dot") rows)
    else account_without_log (flag_given (codes "dot") rows) (flag_given (codes "json") rows)
    (flag_given (codes "hidden") rows) (flag_given (codes "why") rows)

-- the names of files that are tried, what is printed of that, and which file is written, if any
abbrev pub TrialOptions : Type 0
TrialOptions = List Text × Account × Option Text

-- with the account, where there is one
abbrev pub trial_of : List Text → Option Account → Option Text → Option TrialOptions
trial_of files (Some account) target = Some (files, account, target)
trial_of files None target = None

-- the text is the name that stands for a stream
abbrev pub is_hyphen : Option Text → Bool
is_hyphen (Some text) = bytes_eq text (codes "-")
is_hyphen None = false

-- where no stream is to be the file that is written
abbrev pub trial_to : List Text → Option Account → Option Text → Option TrialOptions
trial_to files account target = if is_hyphen target then None else trial_of files account target

-- what is given for a trial, none where flags exclude each other, or a stream is to be the file that is written
abbrev pub try_given : List Row → Option TrialOptions
try_given rows =
    trial_to (words_given (codes "files") rows) (account_given rows) (first_of (codes "write") rows)

-- two texts, where both are given
abbrev pub both_texts : Option Text → Option Text → Option (Text × Text)
both_texts (Some a) (Some b) = Some (a, b)
both_texts (Some a) None = None
both_texts None b = None

-- the two files that are given
abbrev pub files_compared : List Row → Option (Text × Text)
files_compared rows = both_texts (first_of (codes "first") rows) (first_of (codes "second") rows)

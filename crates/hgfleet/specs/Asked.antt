-- What some words ask for, behind the name by which the program was called, wherever the names of the forms lie.
use Rattle.std.specs.Prelude.{◌≡◌, ◌∷◌, [], List, Option, codes, true, false, Some, None}
use Rattle.clap.specs.Words.{Kinds, Row, Text}
use Rattle.clap.specs.declared.error.kind.ErrorKind.TheVariants.{DisplayHelp, DisplayVersion, MissingSubcommand}
use Rattle.clap.specs.declared.error.kind.ErrorKind.TheVariants.{InvalidValue, MissingRequiredArgument}
use Rattle.clap.specs.declared.error.kind.ErrorKind.TheVariants.{UnknownArgument, ValueValidation}
use Rattle.hg_show.specs.declared.form.Form.TheVariants.{Store, Message}
use Rattle.hgfleet.specs.Arguments.{fate_met, log_met, race_met, run_met, show_met, why_met, write_met}
use Rattle.hgfleet.specs.declared.arguments.Picture.TheVariants as pictures

-- with the faults of words behind the name, and the command that they name
pub record AreAskedFor (faults : List Text → Kinds) (met : List Text → Option (Text × List Row)) : Type 0 where
  pub help : faults (codes "--help" ∷ []) ≡ DisplayHelp ∷ []
  pub short_help : faults (codes "-h" ∷ []) ≡ DisplayHelp ∷ []
  pub help_of_run : faults (codes "run" ∷ codes "--help" ∷ []) ≡ DisplayHelp ∷ []
  pub version : faults (codes "--version" ∷ []) ≡ DisplayVersion ∷ []
  pub nothing : faults [] ≡ MissingSubcommand ∷ []
  pub run : faults (codes "run" ∷ []) ≡ []
  pub more : faults (codes "run" ∷ codes "x" ∷ []) ≡ UnknownArgument ∷ []
  pub run_numbers : race_met (met (codes "run" ∷ [])) ≡ None
  pub no_notes : run_met (met (codes "run" ∷ [])) ≡ None
  pub explain : faults (codes "run" ∷ codes "--explain" ∷ []) ≡ []
  pub explained : run_met (met (codes "run" ∷ codes "--explain" ∷ [])) ≡ Some (true, false, false)
  pub traced : run_met (met (codes "run" ∷ codes "--trace" ∷ [])) ≡ Some (false, true, false)
  pub strict : run_met (met (codes "run" ∷ codes "--strict" ∷ [])) ≡ Some (false, false, true)
  pub both_notes : run_met (met (codes "run" ∷ codes "--trace" ∷ codes "--explain" ∷ [])) ≡ Some (true, true, false)
  pub explain_more : faults (codes "run" ∷ codes "--explain" ∷ codes "x" ∷ []) ≡ UnknownArgument ∷ []
  pub race : faults (codes "race" ∷ codes "--nodes" ∷ codes "4" ∷ codes "--rounds" ∷ codes "3" ∷ []) ≡ []
  pub numbers_of_race : race_met (met (codes "race" ∷ codes "--nodes" ∷ codes "4" ∷ codes "--rounds" ∷ codes "3" ∷ []))
      ≡ Some (4, 3)
  pub longest_race : faults (codes "race" ∷ codes "--rounds=1000" ∷ codes "--nodes=16" ∷ []) ≡ []
  pub longest_numbers : race_met (met (codes "race" ∷ codes "--rounds=1000" ∷ codes "--nodes=16" ∷ []))
      ≡ Some (16, 1000)
  pub too_many_nodes : faults (codes "race" ∷ codes "--nodes" ∷ codes "17" ∷ codes "--rounds" ∷ codes "1" ∷ [])
      ≡ ValueValidation ∷ []
  pub too_few_nodes : faults (codes "race" ∷ codes "--nodes" ∷ codes "1" ∷ codes "--rounds" ∷ codes "1" ∷ [])
      ≡ ValueValidation ∷ []
  pub negative_nodes : faults (codes "race" ∷ codes "--nodes=-4" ∷ codes "--rounds=1" ∷ []) ≡ ValueValidation ∷ []
  pub no_rounds : faults (codes "race" ∷ codes "--nodes" ∷ codes "2" ∷ []) ≡ MissingRequiredArgument ∷ []
  pub help_of_race : faults (codes "race" ∷ codes "--help" ∷ []) ≡ DisplayHelp ∷ []
  pub log : faults (codes "log" ∷ []) ≡ []
  pub options_of_log : log_met (met (codes "log" ∷ [])) ≡ Some ([], false, pictures.Text, None)
  pub log_of_two : faults (codes "log" ∷ codes "--hidden" ∷ codes "A" ∷ codes "B" ∷ []) ≡ []
  pub options_of_two : log_met (met (codes "log" ∷ codes "--hidden" ∷ codes "A" ∷ codes "B" ∷ []))
      ≡ Some (codes "A" ∷ codes "B" ∷ [], true, pictures.Text, None)
  pub graph : log_met (met (codes "log" ∷ codes "A" ∷ codes "--dot" ∷ []))
      ≡ Some (codes "A" ∷ [], false, pictures.Graph, None)
  pub json : log_met (met (codes "log" ∷ codes "--json" ∷ [])) ≡ Some ([], false, pictures.Json, None)
  pub log_at_a_line : faults (codes "log" ∷ codes "--at" ∷ codes "12" ∷ []) ≡ []
  pub line_given : log_met (met (codes "log" ∷ codes "--at" ∷ codes "12" ∷ []))
      ≡ Some ([], false, pictures.Text, Some 12)
  pub no_line : faults (codes "log" ∷ codes "--at" ∷ codes "0" ∷ []) ≡ ValueValidation ∷ []
  pub two_pictures : faults (codes "log" ∷ codes "--json" ∷ codes "--dot" ∷ []) ≡ []
  pub no_picture : log_met (met (codes "log" ∷ codes "--json" ∷ codes "--dot" ∷ [])) ≡ None
  pub help_of_log : faults (codes "log" ∷ codes "--help" ∷ []) ≡ DisplayHelp ∷ []
  pub show_store : faults (codes "show" ∷ codes "store" ∷ []) ≡ []
  pub shown_store : show_met (met (codes "show" ∷ codes "store" ∷ [])) ≡ Some Store
  pub show_nothing : faults (codes "show" ∷ codes "nothing" ∷ []) ≡ InvalidValue ∷ []
  pub show_alone : faults (codes "show" ∷ []) ≡ MissingRequiredArgument ∷ []
  pub help_of_show : faults (codes "show" ∷ codes "--help" ∷ []) ≡ DisplayHelp ∷ []
  pub write_store : faults (codes "write" ∷ codes "store" ∷ codes "A" ∷ []) ≡ []
  pub written_store : write_met (met (codes "write" ∷ codes "store" ∷ codes "A" ∷ [])) ≡ Some (Store, codes "A")
  pub written_message : write_met (met (codes "write" ∷ codes "message" ∷ codes "m" ∷ [])) ≡ Some (Message, codes "m")
  pub write_no_name : faults (codes "write" ∷ codes "store" ∷ []) ≡ MissingRequiredArgument ∷ []
  pub help_of_write : faults (codes "write" ∷ codes "--help" ∷ []) ≡ DisplayHelp ∷ []
  pub why : faults (codes "why" ∷ codes "A" ∷ []) ≡ []
  pub names_of_why : why_met (met (codes "why" ∷ codes "A" ∷ [])) ≡ Some (codes "A" ∷ [])
  pub fate : faults (codes "fate" ∷ codes "b" ∷ codes "a" ∷ []) ≡ []
  pub labels_of_fate : fate_met (met (codes "fate" ∷ codes "b" ∷ codes "a" ∷ [])) ≡ Some (codes "b" ∷ codes "a" ∷ [])
  pub fate_of_none : faults (codes "fate" ∷ []) ≡ MissingRequiredArgument ∷ []

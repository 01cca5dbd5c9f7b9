-- What commands and their arguments are to the parser.
use Rattle.std.specs.Prelude.{◌≡◌, false}
use Rattle.clap.specs.Words.{App, Rule, Text, app_of, new_rule, rule_of}
use Rattle.clap.specs.declared.builder.arg.Arg.{Arg}
use Rattle.clap.specs.declared.builder.command.Command.{Command}
use Rattle.clap.specs.declared.builder.command.Command.TheViews.{out-Command}

-- a command is this to the parser, and gives its own commands no argument
abbrev pub IsCommand : App → Command → Type 0
IsCommand app command = (app_of command ≡ app) × ((out-Command command).has_globals ≡ false)

-- an argument is this to the parser, and is one of its own command alone
abbrev pub IsArgument : Rule → Arg → Type 0
IsArgument rule argument = (rule_of argument ≡ rule) × (argument.global ≡ false)

-- an argument with a value
abbrev pub value_rule : Text → Rule
value_rule name = record (new_rule name) { value_names = 1 }

-- a program is this to the parser
abbrev pub IsProgram : App → Command → Type 0
IsProgram app program = app_of program ≡ app

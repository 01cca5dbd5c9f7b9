-- The words of a check.
use Rattle.std.specs.Prelude.{codes}
use Rattle.clap.specs.Words.{App, new_app, with_rule}
use Rattle.hgfleet.specs.TryArguments.{flag_rule}

-- `check` with its flags
abbrev pub check_app : App
check_app = with_rule (with_rule (new_app (codes "check")) (flag_rule (codes "write"))) (flag_rule (codes "explain"))

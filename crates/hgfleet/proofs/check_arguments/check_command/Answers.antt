use Rattle.hgfleet.proofs.check_arguments.check_command.Goals as goal

pub returns : goal.returns
returns c = c.with_flag.ensures _ (c.with_flag-check.ensures _ c.command_of-check.ensures)

use Rattle.hgfleet.proofs.try_arguments.try_with_log.Goals as goal

pub returns : goal.returns
returns c =
    let with_log = c.with_flag-command.ensures _ c.command_of.ensures in
    c.with_flag.ensures _ (c.with_flag-command-2.ensures _ with_log)

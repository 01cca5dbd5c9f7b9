use Rattle.hgfleet.proofs.node_arguments.log_with_flags.Goals as goal

pub returns : goal.returns
returns c =
    let with_hidden = c.with_flag-log.ensures _ c.command_of.ensures in
    let with_json = c.with_flag-log-3.ensures _ (c.with_flag-log-2.ensures _ with_hidden) in
    c.with_flag.ensures _ with_json

use Rattle.hgfleet.proofs.node_arguments.log.Goals as goal

pub returns : goal.returns
returns c =
    let with_line = c.with_argument-log.ensures _ _ c.log_with_flags.ensures c.line_argument.ensures in
    c.with_argument.ensures _ _ with_line c.nodes_argument.ensures

use Rattle.hgfleet.proofs.node_arguments.why.Goals as goal

pub returns : goal.returns
returns c =
    let with_explain = c.with_flag-why.ensures _ c.command_of-why.ensures in
    c.with_argument.ensures _ _ with_explain c.nodes_argument.ensures

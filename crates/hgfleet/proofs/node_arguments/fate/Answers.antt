use Rattle.hgfleet.proofs.node_arguments.fate.Goals as goal

pub returns : goal.returns
returns c =
    let with_explain = c.with_flag-fate.ensures _ c.command_of-fate.ensures in
    c.with_argument.ensures _ _ with_explain c.words_argument.ensures

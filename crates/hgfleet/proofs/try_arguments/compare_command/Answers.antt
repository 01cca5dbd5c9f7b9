use Rattle.hgfleet.proofs.try_arguments.compare_command.Goals as goal

pub returns : goal.returns
returns c =
    let with_first = c.with_argument-compare.ensures _ _ c.described-compare.ensures c.needed_argument.ensures in
    c.with_argument.ensures _ _ with_first c.needed_argument-2.ensures

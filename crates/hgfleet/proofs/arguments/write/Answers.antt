use Rattle.hgfleet.proofs.arguments.write.Goals as goal

pub returns : goal.returns
returns c =
    let with_form = c.with_argument-write.ensures _ _ c.command_of-write.ensures c.form_argument.ensures in
    let with_name = c.with_argument-write-2.ensures _ _ with_form c.needed_argument.ensures in
    c.with_flag.ensures _ with_name

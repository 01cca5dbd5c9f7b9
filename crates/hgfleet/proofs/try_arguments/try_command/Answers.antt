use Rattle.hgfleet.proofs.try_arguments.try_command.Goals as goal

pub returns : goal.returns
returns c =
    let with_why = c.with_flag-command.ensures _ c.try_with_log.ensures in
    let with_json = c.with_flag-command-2.ensures _ with_why in
    let with_target = c.with_argument-command.ensures _ _ with_json c.target_argument.ensures in
    c.with_argument.ensures _ _ with_target c.words_argument.ensures

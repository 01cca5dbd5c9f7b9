use Rattle.hgfleet.proofs.arguments.program.Goals as goal

pub returns : goal.returns
returns c =
    let with_run = c.with_command-program.ensures _ _ c.program_alone.ensures c.run.ensures in
    let with_race = c.with_command-program-2.ensures _ _ with_run c.race.ensures in
    let with_log = c.with_command-program-3.ensures _ _ with_race c.log.ensures in
    let with_show = c.with_command-program-4.ensures _ _ with_log c.show.ensures in
    let with_write = c.with_command-program-5.ensures _ _ with_show c.write.ensures in
    let with_why = c.with_command-program-6.ensures _ _ with_write c.why.ensures in
    let with_fate = c.with_command-program-7.ensures _ _ with_why c.fate.ensures in
    let with_try = c.with_command-program-8.ensures _ _ with_fate c.try_command.ensures in
    let with_compare = c.with_command-program-9.ensures _ _ with_try c.compare_command.ensures in
    c.with_command.ensures _ _ with_compare c.check_command.ensures

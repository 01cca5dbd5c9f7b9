use Rattle.hgfleet.proofs.arguments.run.Goals as goal

pub returns : goal.returns
returns c =
    let with_explain = c.with_flag-run.ensures _ c.command_of.ensures in
    c.with_flag.ensures _ (c.with_flag-run-2.ensures _ with_explain)

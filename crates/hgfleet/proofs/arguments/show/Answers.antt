use Rattle.hgfleet.proofs.arguments.show.Goals as goal

pub returns : goal.returns
returns c = c.with_argument.ensures _ _ c.command_of-show.ensures c.form_argument.ensures

use Rattle.std.proofs.Common.{ap, ◌∙◌, Ok}
use Rattle.hg_history.proofs.AddLemmas.{added_last}
use Rattle.hg_worked_rows.proofs.forms.add.Goals as goal

pub admit-requires-clause-added : goal.admit-requires-clause-added
admit-requires-clause-added c =
    added_last c.args.graph.now c.args.changeset.now c.add_copy.result c.add_copy.new.self c.node-node.result
    c.node-node.ensures.id c.add_copy.ensures.answer (c.in-Ok-New.is ∙ ap Ok c.in-Ok-New.field-0-is)

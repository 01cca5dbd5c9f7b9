use Rattle.std.proofs.Common.{inl}
use Rattle.hg_message.proofs.PartLemmas.{some_records, wanted}
use Rattle.hg_message.proofs.layout.Layout.part.Goals as goal

pub returns-in-Ok-clause-memory : goal.returns-in-Ok-clause-memory
returns-in-Ok-clause-memory c e =
    inl (some_records c.args.self.now c.in-Ok.message c.in-Ok.ensures.exact
    (wanted c.part_of_message.result c.part_of_message.ensures.memory e))

use Rattle.std.proofs.Common.{sym, ◌∙◌}
use Rattle.hg_line.proofs.EndingLemmas.{not_nil}
use Rattle.hg_line.proofs.GrowLemmas.{grows_either, grows_stays}
use Rattle.hg_line.proofs.telling.keep_printed.Goals as goal

pub returns-then-is_empty-clause-grows : goal.returns-then-is_empty-clause-grows
returns-then-is_empty-clause-grows g c = grows_stays _

pub returns-clause-stays : goal.returns-clause-stays
returns-clause-stays g c = λ empty.
    absurd (not_nil c.args.text.now (sym c.is_empty.ensures ∙ c.if-is_empty.false) empty)

pub returns-clause-grows : goal.returns-clause-grows
returns-clause-grows g c =
    grows_either _ _ _ c.write_bytes.result c.write_bytes.ensures.written c.write_bytes.ensures.grows

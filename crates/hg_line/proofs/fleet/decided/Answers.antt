use Rattle.std.proofs.Common.{sym, ◌∙◌}
use Rattle.hg_line.proofs.LabelLemmas.{refused_first}
use Rattle.hg_line.proofs.fleet.decided.Goals as goal

pub returns-in-Some-clause-ok : goal.returns-in-Some-clause-ok
returns-in-Some-clause-ok c =
    refused_first c.args.kept.now c.args.op.now c.in-Err.refusal _ (sym c.number.ensures ∙ c.in-Some.is)
    c.in-Err.ensures.answer

use Rattle.std.proofs.Common.{sym, ◌∙◌}
use Rattle.hg_expect.proofs.LineLemmas.{line_with_end, line_without_end}
use Rattle.hg_expect.proofs.lines.length_of_line.Goals as goal

pub returns-in-Some-clause-line : goal.returns-in-Some-clause-line
returns-in-Some-clause-line c =
    line_with_end c.args.text.now c.in-Some.end (sym c.end_of_line.ensures ∙ c.in-Some.is)

pub returns-in-None-clause-line : goal.returns-in-None-clause-line
returns-in-None-clause-line c =
    line_without_end c.args.text.now (sym c.end_of_line.ensures ∙ c.in-None.is) c.requires

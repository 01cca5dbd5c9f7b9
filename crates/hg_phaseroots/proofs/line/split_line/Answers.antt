use Rattle.std.proofs.Common.{sym}
use Rattle.hg_phaseroots.proofs.LineLemmas.{line_found, line_last}
use Rattle.hg_phaseroots.proofs.line.split_line.Goals as goal

pub returns-in-Some-clause-line : goal.returns-in-Some-clause-line
returns-in-Some-clause-line c = line_found c.args.text.now c.in-Some.end (sym c.in-Some.ensures)

pub returns-in-None-clause-line : goal.returns-in-None-clause-line
returns-in-None-clause-line c = line_last c.args.text.now c.requires (sym c.in-None.ensures)

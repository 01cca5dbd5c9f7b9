use Rattle.std.proofs.Common.{refl}
use Rattle.hg_line.proofs.EndingLemmas.{on_err_always}
use Rattle.hg_line.proofs.line_outcome.print_answer.Goals as goal

pub returns-in-Refused-clause-refused : goal.returns-in-Refused-clause-refused
returns-in-Refused-clause-refused g c = rw c.in-Refused.is (on_err_always c.print_refused.result refl)

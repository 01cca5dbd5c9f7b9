use Rattle.hg_line.proofs.ReportLemmas.{sorted_rows}
use Rattle.hg_line.proofs.report.rows.Goals as goal

pub returns : goal.returns
returns c =
    sorted_rows c.args.replica.now c.in_ok-rows.rows.items c.sort_unstable.new.self.items c.in_ok-rows.ensures
    c.sort_unstable.ensures.permutation c.sort_unstable.ensures.sorted

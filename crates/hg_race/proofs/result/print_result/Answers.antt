use Rattle.hg_race.proofs.PrintLemmas.{appends_as, appends_both}
use Rattle.hg_race.proofs.result.print_result.Goals as goal

pub returns-clause-printed : goal.returns-clause-printed
returns-clause-printed g c =
    let nodes = appends_as _ _ _ _ _ c.in_ok-print.ensures.printed c.deref.ensures c.in_ok-nodes.ensures in
    let rounds = appends_as _ _ _ _ _ c.in_ok-print-2.ensures.printed c.deref-2.ensures c.in_ok-rounds.ensures in
    let written =
    appends_as _ _ _ _ _ c.in_ok-print-3.ensures.printed c.deref-3.ensures c.in_ok-written.ensures in
    let read_back =
    appends_as _ _ _ _ _ c.in_ok-print-4.ensures.printed c.deref-4.ensures c.in_ok-read_back.ensures in
    let pairs = appends_as _ _ _ _ _ c.in_ok-print-5.ensures.printed c.deref-5.ensures c.in_ok-pairs.ensures in
    appends_both _ _ _ _ _ nodes
    (appends_both _ _ _ _ _ rounds (appends_both _ _ _ _ _ written (appends_both _ _ _ _ _ read_back pairs)))

use Rattle.std.proofs.lemmas.Result.{IfErr-weaker, on_ok_weaker}
use Rattle.hgfleet.proofs.CheckingLemmas.{check_done, check_ends, printed_of}
use Rattle.hgfleet.proofs.checking.check_unexplained.Goals as goal

pub returns-clause-done : goal.returns-clause-done
returns-clause-done g c =
    let script = c.in_ok-script.ensures in
    let told = c.in_ok-checked.ensures in
    on_ok_weaker c.write_checked.result
    (check_done c.args.fills _ _ _ _ _ c.in_ok-checked.checked
    (printed_of _ _ _ _ _ c.deref.ensures.value c.deref-2.ensures.value script.read script.printed)
    (record { in_text = told.filled; in_hunks = told.hunks; checks = told.lines; differs = told.differ }))
    c.write_checked.ensures.done

pub returns-clause-failed : goal.returns-clause-failed
returns-clause-failed g c =
    let script = c.in_ok-script.ensures in
    let told = c.in_ok-checked.ensures in
    IfErr-weaker c.write_checked.result _ _
    (check_ends c.args.fills _ _ _ _ _ c.in_ok-checked.checked
    (printed_of _ _ _ _ _ c.deref.ensures.value c.deref-2.ensures.value script.read script.printed)
    (record { in_text = told.filled; in_hunks = told.hunks; checks = told.lines; differs = told.differ }))
    c.write_checked.ensures.failed

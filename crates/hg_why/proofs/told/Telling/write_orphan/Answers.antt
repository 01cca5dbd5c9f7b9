use Rattle.std.proofs.Common.{[]}
use Rattle.std.proofs.KnownBytes.{Appends-nil}
use Rattle.std.proofs.lemmas.Result.{on_ok_weaker}
use Rattle.hg_log.proofs.DrawingLemmas.{drawn_text}
use Rattle.hg_log.proofs.TextLemmas.{at_ok}
use Rattle.hg_why.proofs.told.Telling.write_orphan.Goals as goal

pub returns-then-not-is_obsolete : goal.returns-then-not-is_obsolete
returns-then-not-is_obsolete g c =
    let appended = c.push_orphan-appended in
    let written = c.in_ok-write_appended.ensures in
    drawn_text c.args.parent appended.new.line.items _ _ _ (at_ok appended.result written.0 appended.ensures) written.1
    ([], Appends-nil _)

pub returns : goal.returns
returns g c =
    let appended = c.push_orphan-appended in
    let written = c.in_ok-write_appended.ensures in
    on_ok_weaker c.write_remedy.result
    (drawn_text c.args.parent appended.new.line.items _ _ _ (at_ok appended.result written.0 appended.ensures)
    written.1) c.write_remedy.ensures

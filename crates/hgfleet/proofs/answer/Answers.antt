use Rattle.std.proofs.Common.{subst}
use Rattle.std.specs.Prelude.{IfErr, OnOk}
use Rattle.std.specs.Io.Buffered.{writer_buffer, writer_contents}
use Rattle.hg_log.specs.Drawings.{Text}
use Rattle.hgfleet.specs.Commands.{DoesWanted, IsFailure, LeavesRefusals}
use Rattle.hgfleet.proofs.FlushLemmas.{answered}
use Rattle.hgfleet.proofs.answer.Goals as goal

pub returns : goal.returns
returns g c =
    let wanted = c.args.wanted.now in
    let known = g.R.Read.remaining c.args.reader.now in
    let left = g.R.Read.remaining c.perform-done.new.reader in
    let held = writer_contents g.W.Write.contents c.args.writer.now in
    let written = writer_contents g.W.Write.contents c.perform-done.new.writer in
    let holds = writer_contents g.W.Write.contents c.flush_behind-flushed.new.writer in
    let refusals = c.perform-done.new.refusals.items in
    let none = c.new-refusals.ensures.items in
    answered wanted c.args.is_coloured known left held written holds refusals
    (writer_buffer c.flush_behind-flushed.new.writer) c.perform-done.result c.flush_behind-flushed.result _
    (subst (λ (t : Text). OnOk c.perform-done.result
    (DoesWanted wanted c.args.is_coloured known held written t refusals)) none c.perform-done.ensures.done)
    (subst (λ (t : Text). IfErr c.perform-done.result (IsFailure wanted known left held written t refusals)) none
    c.perform-done.ensures.failed)
    (subst (λ (t : Text). LeavesRefusals wanted t refusals) none c.perform-done.ensures.left)
    c.flush_behind-flushed.ensures.stays c.flush_behind-flushed.ensures.flushed c.finish.ensures

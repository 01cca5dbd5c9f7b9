use Rattle.std.proofs.Common.{[], ◌++◌, subst}
use Rattle.std.proofs.KnownBytes.{Appends-trans, Appends-nil}
use Rattle.hg_changeset.specs.Contents.{Contents}
use Rattle.hg_show.specs.Printing.{IsChangesetText, line_of}
use Rattle.hg_show.proofs.PrintLemmas.{next_lines, no_lines, printed_line}
use Rattle.hg_show.proofs.message.print_changesets.Goals as goal

pub loop-changeset-preserved : goal.loop-changeset-preserved
loop-changeset-preserved g c =
    let d = c.in_ok-push_changeset.ensures in
    let is = subst (λ (x : Contents). IsChangesetText x d.0) c.changeset-item.is d.1 in
    let grown =
    printed_line _ _ c.loop-changeset.line.items c.push_changeset.new.line.items d.0 d.2
    c.loop-changeset.invariant.empty c.in_ok-print_line.ensures.printed in
    record {
      printed = λ rest holds later grew. c.loop-changeset.invariant.printed (line_of d.0 ++ rest) holds
          (next_lines IsChangesetText c.args.changesets.now c.loop-changeset.changeset-index c.changeset-item.result d.0
          rest c.loop-changeset-test.true is later) (Appends-trans _ _ _ (line_of d.0) rest grown grew);
      empty = c.in_ok-print_line.ensures.emptied;
    }

pub returns-clause-printed : goal.returns-clause-printed
returns-clause-printed g c =
    c.loop-changeset.invariant.printed [] _
    (no_lines IsChangesetText c.args.changesets.now c.loop-changeset.changeset-index c.loop-changeset-test.false)
    (Appends-nil _)

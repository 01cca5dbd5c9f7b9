use Rattle.std.proofs.Common.{[], ◌++◌, subst}
use Rattle.std.proofs.KnownBytes.{Appends-trans, Appends-nil}
use Rattle.hg_marker.specs.Fields.{Fields}
use Rattle.hg_show.specs.Printing.{IsMarkerText, line_of}
use Rattle.hg_show.proofs.PrintLemmas.{next_lines, no_lines, printed_line}
use Rattle.hg_show.proofs.store.print_markers.Goals as goal

pub loop-marker-preserved : goal.loop-marker-preserved
loop-marker-preserved g c =
    let d = c.in_ok-push_marker.ensures in
    let is = subst (λ (m : Fields). IsMarkerText m d.0) c.marker-item.is d.1 in
    let grown =
    printed_line _ _ c.loop-marker.line.items c.push_marker.new.line.items d.0 d.2 c.loop-marker.invariant.empty
    c.in_ok-print_line.ensures.printed in
    record {
      printed = λ rest holds later grew. c.loop-marker.invariant.printed (line_of d.0 ++ rest) holds
          (next_lines IsMarkerText c.args.markers.now c.loop-marker.marker-index c.marker-item.result d.0 rest
          c.loop-marker-test.true is later) (Appends-trans _ _ _ (line_of d.0) rest grown grew);
      empty = c.in_ok-print_line.ensures.emptied;
    }

pub returns-clause-printed : goal.returns-clause-printed
returns-clause-printed g c =
    c.loop-marker.invariant.printed [] _
    (no_lines IsMarkerText c.args.markers.now c.loop-marker.marker-index c.loop-marker-test.false) (Appends-nil _)

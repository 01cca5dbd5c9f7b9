use Rattle.std.proofs.Common.{[], ◌++◌, get_or, refl}
use Rattle.std.proofs.KnownBytes.{Appends-trans, Appends-nil}
use Rattle.hg_phases.specs.declared.phase.Phase.TheVariants.{Public}
use Rattle.hg_phaseroots.specs.Reading.{Root}
use Rattle.hg_show.specs.Printing.{IsRootText, line_of, root_text}
use Rattle.hg_show.proofs.PrintLemmas.{next_lines, no_lines, printed_line}
use Rattle.hg_show.proofs.roots.print_roots.Goals as goal

pub loop-phase-preserved : goal.loop-phase-preserved
loop-phase-preserved g c =
    let other : Root = (Public, record { 0 = [] }) in
    let text = root_text (get_or c.args.roots.now c.loop-phase.phase-index other) in
    let grown =
    printed_line _ _ c.loop-phase.line.items c.push_root.new.line.items text c.in_ok-push_root.ensures
    c.loop-phase.invariant.empty c.in_ok-print_line.ensures.printed in
    record {
      printed = λ rest holds later grew. c.loop-phase.invariant.printed (line_of text ++ rest) holds
          (next_lines IsRootText c.args.roots.now c.loop-phase.phase-index other text rest c.loop-phase-test.true refl
          later) (Appends-trans _ _ _ (line_of text) rest grown grew);
      empty = c.in_ok-print_line.ensures.emptied;
    }

pub returns-clause-printed : goal.returns-clause-printed
returns-clause-printed g c =
    c.loop-phase.invariant.printed [] _
    (no_lines IsRootText c.args.roots.now c.loop-phase.phase-index c.loop-phase-test.false) (Appends-nil _)

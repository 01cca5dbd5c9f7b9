use Rattle.std.proofs.Common.{[], ◌++◌}
use Rattle.std.proofs.KnownBytes.{Appends-trans, Appends-nil}
use Rattle.hg_changeset.specs.declared.node.Node.{Node}
use Rattle.hg_phases.specs.declared.phase.Phase.{Phase}
use Rattle.hg_phases.specs.declared.phase.Phase.TheVariants.{Public}
use Rattle.hg_show.specs.Printing.{IsBoundText, line_of}
use Rattle.hg_show.proofs.PrintLemmas.{next_lines, no_lines, printed_line}
use Rattle.hg_show.proofs.message.print_bounds.Goals as goal

pub loop-node-preserved : goal.loop-node-preserved
loop-node-preserved g c =
    let other : Node × Phase = (record { 0 = [] }, Public) in
    let d = c.in_ok-push_bound.ensures in
    let grown =
    printed_line _ _ c.loop-node.line.items c.push_bound.new.line.items d.0 d.2 c.loop-node.invariant.empty
    c.in_ok-print_line.ensures.printed in
    record {
      printed = λ rest holds later grew. c.loop-node.invariant.printed (line_of d.0 ++ rest) holds
          (next_lines IsBoundText c.args.bounds.now c.loop-node.node-index other d.0 rest c.loop-node-test.true d.1
          later) (Appends-trans _ _ _ (line_of d.0) rest grown grew);
      empty = c.in_ok-print_line.ensures.emptied;
    }

pub returns-clause-printed : goal.returns-clause-printed
returns-clause-printed g c =
    c.loop-node.invariant.printed [] _
    (no_lines IsBoundText c.args.bounds.now c.loop-node.node-index c.loop-node-test.false) (Appends-nil _)

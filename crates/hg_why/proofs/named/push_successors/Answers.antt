use Rattle.hg_log.proofs.DrawingLemmas.{Extends-trans}
use Rattle.hg_why.proofs.named.push_successors.Goals as goal

pub loop-node-preserved : goal.loop-node-preserved
loop-node-preserved c =
    let before = c.loop-node.line.items in
    let divided = c.push_text.new.line.items in
    let end = c.push_name.new.line.items in
    Extends-trans _ before end c.loop-node.invariant
    (Extends-trans before divided end (_, c.in_ok-push_text.ensures) (_, c.in_ok-push_name.ensures))

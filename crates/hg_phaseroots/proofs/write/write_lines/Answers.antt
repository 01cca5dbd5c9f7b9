use Rattle.hg_phaseroots.proofs.WriteLemmas.{wrote_next, spelled_next}
use Rattle.hg_phaseroots.proofs.write.write_lines.Goals as goal

pub loop-node-preserved : goal.loop-node-preserved
loop-node-preserved c = (
  wrote_next c.args.phase c.loop-node.text.items c.write_line.new.text.items _ c.in-Some.node.now
      c.loop-node.node-iterator c.next.new.self c.in-Some.ensures.steps c.in_ok-write_line.ensures.written
      c.loop-node.invariant.0,
  spelled_next c.in-Some.node.now c.loop-node.node-iterator c.next.new.self _ c.in-Some.ensures.steps
      c.write_line.ensures.id c.loop-node.invariant.1,
)

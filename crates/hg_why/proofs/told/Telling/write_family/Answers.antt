use Rattle.hg_why.proofs.ReasonLemmas.{drawn_lines, lines_more, no_lines}
use Rattle.hg_why.proofs.told.Telling.write_family.Goals as goal

pub returns-then-are_all_with : goal.returns-then-are_all_with
returns-then-are_all_with g c = drawn_lines c.write_about.result c.args.predecessor _ _ c.write_about.ensures

pub loop-set-init : goal.loop-set-init
loop-set-init g c = no_lines c.args.predecessor (g.W.Write.contents c.args.writer.now)

pub loop-set-preserved : goal.loop-set-preserved
loop-set-preserved g c = lines_more c.args.predecessor _ _ _ c.loop-set.invariant c.in_ok-write_set.ensures

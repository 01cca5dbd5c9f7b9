use Rattle.std.proofs.Common.{take, sym, subst}
use Rattle.std.proofs.lemmas.List.{take_more}
use Rattle.hg_phases.specs.Marks.{AreMarked}
use Rattle.hg_phases.proofs.open.marks_of.Goals as goal

pub loop-root-preserved : goal.loop-root-preserved
loop-root-preserved c =
    subst (λ roots. AreMarked c.args.graph.now roots c.mark.new.marks.items)
    (sym (take_more c.args.roots.now c.loop-root.root-index _ c.loop-root-test.true))
    (c.mark.ensures (take c.loop-root.root-index c.args.roots.now) c.loop-root.invariant)

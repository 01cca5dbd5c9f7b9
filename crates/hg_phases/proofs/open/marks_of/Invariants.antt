use Rattle.std.proofs.Common.{take}
use Rattle.hg_phases.specs.Marks.{AreMarked}
use Rattle.hg_phases.proofs.open.marks_of.Given as goal

abbrev pub invariant-loop-root : goal.invariant-loop-root
invariant-loop-root l = AreMarked l.graph (take l.root-index l.roots) l.marks.items

use Rattle.hg_discovery.proofs.ChildrenLemmas.{AreChildrenTo}
use Rattle.hg_discovery.proofs.children.children_of.Given as goal

abbrev pub invariant-loop-place : goal.invariant-loop-place
invariant-loop-place l = AreChildrenTo l.graph l.place l.places.items l.stretches.items

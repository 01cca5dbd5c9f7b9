use Rattle.hg_phaseroots.proofs.WriteLemmas.{AreListedTo}
use Rattle.hg_phaseroots.proofs.write.nodes_with.Given as goal

abbrev pub invariant-loop-its : goal.invariant-loop-its
invariant-loop-its l = AreListedTo l.listed l.phase l.its-index l.nodes.keys

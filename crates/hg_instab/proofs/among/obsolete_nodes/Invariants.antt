use Rattle.std.proofs.Common.{take}
use Rattle.hg_replica.specs.Content.{content_of}
use Rattle.hg_replica.specs.Evolution.{IsObsolete}
use Rattle.hg_instab.proofs.AmongLemmas.{AreThose, HavePredecessor}
use Rattle.hg_instab.proofs.among.obsolete_nodes.Given as goal

abbrev pub invariant-loop-marker : goal.invariant-loop-marker
invariant-loop-marker l = AreThose (HavePredecessor (take l.marker-index l.marker-items))
    (IsObsolete (content_of l.replica)) l.found.items

use Rattle.std.proofs.Common.{take}
use Rattle.hg_replica.specs.Content.{content_of}
use Rattle.hg_view.specs.Pins.{IsServedUnder}
use Rattle.hg_message.proofs.PickLemmas.{AreSome}
use Rattle.hg_message.proofs.finding.served_among.Given as goal

abbrev pub invariant-loop-node : goal.invariant-loop-node
invariant-loop-node l = AreSome (IsServedUnder (content_of l.kept.replica) l.kept.pins) (take l.node-index l.nodes)
    l.found.items

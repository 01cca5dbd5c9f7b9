use Rattle.std.proofs.Common.{take}
use Rattle.hg_replica.specs.Content.{content_of}
use Rattle.hg_message.specs.Offer.{AreHeld}
use Rattle.hg_message.proofs.finding.first_unknown.Given as goal

abbrev pub invariant-loop-node : goal.invariant-loop-node
invariant-loop-node l = AreHeld (content_of l.replica) (take l.node-index l.nodes)

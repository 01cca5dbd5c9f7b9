use Rattle.std.proofs.Common.{take}
use Rattle.hg_replica.specs.Content.{content_of}
use Rattle.hg_discovery.specs.Rounds.{AreKnown}
use Rattle.hg_discovery.proofs.answers.known.Given as goal

abbrev pub invariant-loop-node : goal.invariant-loop-node
invariant-loop-node l = AreKnown (content_of l.replica) l.pins (take l.node-index l.nodes) l.answers.items

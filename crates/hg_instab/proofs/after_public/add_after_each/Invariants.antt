use Rattle.std.proofs.Common.{take}
use Rattle.hg_replica.specs.Content.{content_of}
use Rattle.hg_instab.specs.AfterPublic.{IsAfterAny}
use Rattle.hg_instab.specs.Walk.{Adds}
use Rattle.hg_instab.proofs.after_public.add_after_each.Given as goal

abbrev pub invariant-loop-node : goal.invariant-loop-node
invariant-loop-node l = Adds (IsAfterAny (content_of l.replica) l.replica.markers (take l.node-index l.nodes))
    l.fn.seen.keys l.seen.keys

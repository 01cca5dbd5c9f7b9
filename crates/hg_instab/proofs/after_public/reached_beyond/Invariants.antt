use Rattle.std.proofs.Common.{◌-◌, ◌++◌, length}
use Rattle.hg_instab.specs.AfterPublic.{beyond, IsRewrittenBeyond}
use Rattle.hg_instab.proofs.WalkLemmas.{IsWalked, ids}
use Rattle.hg_instab.proofs.after_public.reached_beyond.Given as goal

abbrev pub invariant-loop-next : goal.invariant-loop-next
invariant-loop-next l = IsWalked (IsRewrittenBeyond l.known.keys l.store) l.fn.starts.keys l.seen.keys l.next

abbrev pub decreases-loop-next : goal.decreases-loop-next
decreases-loop-next l = length (l.fn.starts.keys ++ ids (beyond l.known.keys l.store)) - l.next

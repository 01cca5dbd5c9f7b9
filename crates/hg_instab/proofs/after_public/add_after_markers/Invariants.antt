use Rattle.std.proofs.Common.{take}
use Rattle.hg_replica.specs.Content.{content_of}
use Rattle.hg_instab.specs.AfterPublic.{HandsOn}
use Rattle.hg_instab.specs.Walk.{Adds}
use Rattle.hg_instab.proofs.WalkLemmas.{IsNextAt}
use Rattle.hg_instab.proofs.after_public.add_after_markers.Given as goal

abbrev pub invariant-loop-place : goal.invariant-loop-place
invariant-loop-place l = Adds (IsNextAt (HandsOn (content_of l.replica) l.known.keys) l.replica.markers
    (take l.place-index l.place-items)) l.fn.seen.keys l.seen.keys

use Rattle.std.proofs.Common.{◌<◌, length}
use Rattle.hg_graph.proofs.QueueLemmas.{past}
use Rattle.hg_phases.specs.State.{changesets}
use Rattle.hg_view.specs.Common.{IsCommonAt}
use Rattle.hg_view.proofs.CommonLemmas.{common_within}
use Rattle.hg_view.proofs.DescentLemmas.{IsDescended, IsDescended-start, IsDescended-step, IsDescended-end, next_within}
use Rattle.hg_view.proofs.HeadLemmas.{covered}
use Rattle.hg_view.proofs.heads.heads_in_common.Goals as goal

pub visit_each-requires : goal.visit_each-requires
visit_each-requires c k at = ((c.requires.childless k).0 at).0

pub loop-place-init : goal.loop-place-init
loop-place-init c =
    let s = c.args.replica.now in (
      length (changesets s.history),
      IsDescended-start _ c.is_valid.ensures.graph _
          (common_within s _) c.requires.closed _ c.requires.childless _ _ _ _
          c.new-waiting.ensures c.new-found.ensures.items c.in_ok-visit_each.ensures.waits
          c.in_ok-visit_each.ensures.finds,
    )

pub visit-requires : goal.visit-requires
visit-requires c =
    let s = c.args.replica.now in
    next_within _ c.is_valid.ensures.graph _ (common_within s _) c.requires.closed _ c.requires.childless
    _ _ _ c.loop-place.invariant.1 _ _ c.in-Some.ensures

step : (c : goal.In_ok-visit) → IsDescended (changesets c.args.replica.now.history)
    (IsCommonAt c.args.replica.now c.args.other.now) c.args.childless.now c.visit.new.waiting
    c.visit.new.found.items c.in-Some.place × (past c.visit.new.waiting < past c.loop-place.waiting)
step c =
    let s = c.args.replica.now in
    IsDescended-step _ c.is_valid.ensures.graph _ (common_within s _) c.requires.closed _ c.requires.childless
    _ _ _ c.loop-place.invariant.1 _ _ c.in-Some.ensures _ _ c.in_ok-visit.ensures.waits c.in_ok-visit.ensures.finds

pub loop-place-preserved : goal.loop-place-preserved
loop-place-preserved c = (c.in-Some.place, (step c).0)

pub loop-place-smaller : goal.loop-place-smaller
loop-place-smaller c = (step c).1

pub returns-clause-exact : goal.returns-clause-exact
returns-clause-exact c =
    let s = c.args.replica.now in
    IsDescended-end _ c.is_valid.ensures.graph _ (common_within s _) c.requires.closed _ c.requires.childless
    _ _ _ c.loop-place.invariant.1 c.in_default.ensures

pub returns-clause-covers : goal.returns-clause-covers
returns-clause-covers c =
    let s = c.args.replica.now in
    covered (changesets s.history) c.is_valid.ensures.graph (IsCommonAt s c.args.other.now)
    (common_within s c.args.other.now) c.loop-place.found.items (returns-clause-exact c)

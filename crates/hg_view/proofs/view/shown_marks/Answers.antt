use Rattle.std.proofs.Common.{◌≤◌, ◌+◌, not, length, sym, subst, arith, ap}
use Rattle.hg_graph.proofs.MarkLemmas.{TellsFirst, tells_none, tells_more, tells_all}
use Rattle.hg_phases.specs.State.{changesets}
use Rattle.hg_replica.specs.Content.{content_of}
use Rattle.hg_instab.proofs.QueryLemmas.{isnt_so}
use Rattle.hg_instab.proofs.SetLemmas.{along}
use Rattle.hg_view.specs.Pins.{CountsAsObsolete}
use Rattle.hg_view.proofs.ViewLemmas.{shown-are}
use Rattle.hg_view.proofs.view.shown_marks.Goals as goal

pub loop-place-init : goal.loop-place-init
loop-place-init c =
    let s = c.args.replica.now in
    let pins = c.args.pins.now in
    subst (TellsFirst (changesets s.history) (λ n. ¬ (CountsAsObsolete (content_of s) pins n)) 0)
    (sym c.in_ok-marks.ensures.items) (tells_none _ _)

pub loop-place-preserved : goal.loop-place-preserved
loop-place-preserved c =
    let s = c.args.replica.now in
    let pins = c.args.pins.now in
    let i = c.loop-place.place in
    subst (TellsFirst (changesets s.history) (λ n. ¬ (CountsAsObsolete (content_of s) pins n)) (i + 1))
    (sym c.in_ok-push.ensures.items) (tells_more _ _ _ _ _ c.loop-place.invariant (λ n at. isnt_so _ _
    (c.counts_as_obsolete_at.ensures n at)))

ended : (c : goal.After-loop-place) → length (changesets c.args.replica.now.history) ≤ c.loop-place.place
ended c = omega (arith, c.loop-place-test.false, c.len-place-end.ensures.len, ap length c.graph-graph.ensures.graph)

pub returns-clause-len : goal.returns-clause-len
returns-clause-len c =
    omega (
      arith,
      c.loop-place.invariant.len,
      c.loop-place.auto.place-end,
      ended c,
      c.len-place-end.ensures.len,
      ap length c.graph-graph.ensures.graph,
    )

pub returns-clause-exact : goal.returns-clause-exact
returns-clause-exact c n =
    along (tells_all _ _ _ _ (ended c) c.loop-place.invariant _) (shown-are _ c.graph-graph.ensures.valid _ _)

use Rattle.hg_preview.specs.Comparisons.{IsLackedAt}
use Rattle.hg_preview.proofs.ComparisonLemmas.{all_lines, next_lines, no_lines, places_end}
use Rattle.hg_preview.proofs.comparison.write_changesets.Goals as goal

pub loop-place-init : goal.loop-place-init
loop-place-init g c = no_lines (IsLackedAt c.args.lacking.now.kept.now c.args.having.now.kept.now) _

pub loop-place-preserved : goal.loop-place-preserved
loop-place-preserved g c =
    next_lines (IsLackedAt c.args.lacking.now.kept.now c.args.having.now.kept.now) c.loop-place.place _ _ _
    c.loop-place.invariant c.in_ok-write_changeset_at.ensures

pub returns : goal.returns
returns g c =
    all_lines (IsLackedAt c.args.lacking.now.kept.now c.args.having.now.kept.now) c.loop-place.place _ _ _
    (places_end c.args.having.now.kept.now c.replica.result.now c.graph.result.now c.len-len.result c.loop-place.place
    c.len-len.ensures.len c.graph.ensures.graph c.replica.ensures.replica c.loop-place-test.false
    c.loop-place.auto.place-end) c.loop-place.invariant

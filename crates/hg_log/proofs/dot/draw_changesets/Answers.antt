use Rattle.std.proofs.Common.{rules, ◌-◌, true≢false, sym, ◌∙◌}
use Rattle.hg_log.proofs.DrawingLemmas.{hidden_place, next_place, none_drawn, shown_place}
use Rattle.hg_log.proofs.dot.draw_changesets.Goals as goal

pub loop-place-init : goal.loop-place-init
loop-place-init g c = search (rules, none_drawn)

pub loop-place-preserved-in-Continue-1 : goal.loop-place-preserved-in-Continue-1
loop-place-preserved-in-Continue-1 g c =
    let shown = c.args.cluster.now.shown in
    next_place shown.kept.now shown.shows_hidden c.loop-place.place _ _ _ c.loop-place-test.true
    c.loop-place.invariant (shown_place shown.kept.now shown.shows_hidden (c.loop-place.place - 1) _ _
    (c.has_place.ensures.0 c.if-has_place.true) c.in_ok-draw_changeset.ensures)

pub loop-place-preserved : goal.loop-place-preserved
loop-place-preserved g c =
    let shown = c.args.cluster.now.shown in
    next_place shown.kept.now shown.shows_hidden c.loop-place.place _ _ _ c.loop-place-test.true
    c.loop-place.invariant (hidden_place shown.kept.now shown.shows_hidden (c.loop-place.place - 1) _
    (λ is_shown. true≢false (sym (c.has_place.ensures.1 is_shown) ∙ c.if-has_place.false)))

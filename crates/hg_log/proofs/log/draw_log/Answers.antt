use Rattle.std.proofs.Common.{◌-◌, true≢false, sym, ◌∙◌}
use Rattle.hg_log.proofs.DrawingLemmas.{hidden_place, next_place, shown_place}
use Rattle.hg_log.proofs.log.draw_log.Goals as goal

pub loop-place-preserved-in-Continue-1 : goal.loop-place-preserved-in-Continue-1
loop-place-preserved-in-Continue-1 g c =
    next_place c.args.kept.now c.args.look.shows_hidden c.loop-place.place _ _ _ c.loop-place-test.true
    c.loop-place.invariant (shown_place c.args.kept.now c.args.look.shows_hidden (c.loop-place.place - 1) _ _
    (c.has_place.ensures.0 c.if-has_place.true) c.in_ok-draw_changeset.ensures)

pub loop-place-preserved : goal.loop-place-preserved
loop-place-preserved g c =
    next_place c.args.kept.now c.args.look.shows_hidden c.loop-place.place _ _ _ c.loop-place-test.true
    c.loop-place.invariant (hidden_place c.args.kept.now c.args.look.shows_hidden (c.loop-place.place - 1) _
    (λ shown. true≢false (sym (c.has_place.ensures.1 shown) ∙ c.if-has_place.false)))

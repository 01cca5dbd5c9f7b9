use Rattle.std.proofs.Common.{◌≡◌, rules, length, ◌-◌, true≢false, sym, ◌∙◌}
use Rattle.hg_phases.specs.State.{changesets}
use Rattle.hg_log.specs.Objects.{named}
use Rattle.hg_log.proofs.EntryLemmas.{hidden_told, next_told, none_told, shown_told}
use Rattle.hg_log.proofs.objects.draw_node.Goals as goal

pub loop-place-init : goal.loop-place-init
loop-place-init g c =
    let node = named c.args.node.now in
    let end : c.len-len.result ≡ length (changesets node.1.replica.history) = search rules in
    none_told node c.args.shows_hidden c.len-len.result _ _ end

pub loop-place-preserved-in-Continue-1 : goal.loop-place-preserved-in-Continue-1
loop-place-preserved-in-Continue-1 g c =
    let node = named c.args.node.now in
    next_told node c.args.shows_hidden c.loop-place.place _ _ _ _ _ _ c.loop-place-test.true c.loop-place.invariant
    (shown_told node c.args.shows_hidden (c.loop-place.place - 1) _ _ _ _ (c.has_place.ensures.0 c.if-has_place.true)
    c.in_ok-draw_changeset.ensures)

pub loop-place-preserved : goal.loop-place-preserved
loop-place-preserved g c =
    let node = named c.args.node.now in
    next_told node c.args.shows_hidden c.loop-place.place _ _ _ _ _ _ c.loop-place-test.true c.loop-place.invariant
    (hidden_told node c.args.shows_hidden (c.loop-place.place - 1) _ _
    (λ shown. true≢false (sym (c.has_place.ensures.1 shown) ∙ c.if-has_place.false)))

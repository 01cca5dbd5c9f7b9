use Rattle.std.proofs.Common.{◌≡◌, ◌∙◌, Contains, arith, false, subst, sym, true≢false}
use Rattle.hg_marker.specs.Fields.{Fields}
use Rattle.hg_trial.proofs.DifferenceLemmas.{marker_held, marker_lacked}
use Rattle.hg_trial.proofs.difference.markers_lacked.Goals as goal
use Rattle.hg_trial.proofs.difference.markers_lacked.Goals.{then-not-contains, else-not-contains}

pub loop-marker-preserved : goal.loop-marker-preserved
loop-marker-preserved c =
    let lacking = c.args.lacking.now in
    let markers = c.markers-markers.result.now in
    let i = c.loop-marker.marker-index in
    let marker = c.marker-item.result in
    let Held : Fields → Type 0 = Contains lacking in
    let lacks = λ (held : Contains lacking marker) (isnt : c.contains.result ≡ false).
    true≢false (sym (c.contains.ensures.1 held) ∙ isnt) in
    elim c.if-not-contains.branch [
      | then-not-contains w ↦ record {
        count = w.count-is
            ∙ marker_lacked lacking markers i marker c.loop-marker.count c.loop-marker-test.true
            (λ held. lacks (subst Held (sym c.marker-item.is) held) w.if-not-contains.true)
            c.loop-marker.invariant.count;
        few = omega (arith, w.count-is, c.loop-marker.invariant.few);
      }
      | else-not-contains w ↦ record {
        count = w.count-is
            ∙ marker_held lacking markers i marker c.loop-marker.count c.loop-marker-test.true
            (subst Held c.marker-item.is (c.contains.ensures.0 w.if-not-contains.false))
            c.loop-marker.invariant.count;
        few = omega (arith, w.count-is, c.loop-marker.invariant.few);
      }
    ]

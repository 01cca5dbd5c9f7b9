use Rattle.std.proofs.Common.{◌∙◌, ℕ, ◌<◌, length, slice_index_or, below_more, subst, sym, refl, arith}
use mathlib.Core.List.{IsPrefix}
use Rattle.hg_live.proofs.PassLemmas.{any_default}
use Rattle.hg_live.specs.NodeViews.{PassView}
use Rattle.hg_live.proofs.desk.are_within.Goals as goal

pub loop-pass-preserved : goal.loop-pass-preserved
loop-pass-preserved g c k d below =
    let xs = c.args.passes.now in
    let f = c.args.front.now in
    let P : ℕ → Type 0 = λ k. (d : PassView)
    → IsPrefix (slice_index_or xs k d).seen f × IsPrefix (slice_index_or xs k d).told f in
    let within : c.loop-pass.pass-index < length xs = omega arith in
    below_more P c.loop-pass.pass-index (λ k h d. c.loop-pass.invariant k d h)
    (λ d. subst (λ (p : PassView). IsPrefix p.seen f × IsPrefix p.told f)
    (c.pass-item.is ∙ any_default xs c.loop-pass.pass-index c.pass-item.result d within)
    (c.is_within.ensures.0 c.if-not-is_within.false)) k below d

pub returns-then-not-is_within : goal.returns-then-not-is_within
returns-then-not-is_within g c =
    let f = c.args.front.now in (
      λ h. absurd (cc (h)),
      λ all. absurd (cc (
        c.is_within.ensures.1 (subst (λ (p : PassView). IsPrefix p.seen f × IsPrefix p.told f) (sym c.pass-item.is)
            (all c.loop-pass.pass-index c.pass-item.result (omega arith))),
        c.if-not-is_within.true,
      )),
    )

pub returns : goal.returns
returns g c = (λ yes k d below. c.loop-pass.invariant k d (omega arith), λ all. refl)

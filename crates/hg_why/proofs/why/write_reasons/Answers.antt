use Rattle.hg_why.proofs.ReasonLemmas.{reasons_more}
use Rattle.hg_why.proofs.why.write_reasons.Goals as goal

pub loop-index-preserved : goal.loop-index-preserved
loop-index-preserved g c =
    let item = c.index-reasons-index in
    reasons_more c.args.reasons.now c.loop-index.index item.result _ _ _ c.loop-index-test.true item.is
    c.loop-index.invariant c.in_ok-write_reason.ensures

use Rattle.std.proofs.lemmas.Result.{IfOk-weaker}
use Rattle.hg_instab.proofs.RegionLemmas.{divergent-in}
use Rattle.hg_instab.proofs.divergence.divergent_within.Goals as goal

pub returns : goal.returns
returns c = IfOk-weaker c.current_from.result _ _
    (λ found those. divergent-in c.args.replica.now c.args.region.now c.in_ok-starts.starts.keys found.items
    c.in_ok-starts.ensures those) c.current_from.ensures

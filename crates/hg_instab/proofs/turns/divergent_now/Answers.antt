use Rattle.std.proofs.Common.{rules, Contains, ◌⊎◌}
use Rattle.std.proofs.lemmas.Result.{IfOk-weaker}
use Rattle.hg_replica.specs.Content.{content_of}
use Rattle.hg_replica.specs.Evolution.{IsCurrent}
use Rattle.hg_instab.proofs.AmongLemmas.{those-divided, told-alike}
use Rattle.hg_instab.proofs.turns.divergent_now.Goals as goal

pub returns : goal.returns
returns c = IfOk-weaker c.among.result
    _ _ (λ found h. those-divided (Contains c.args.nodes.now) _ _
    (λ n. (Contains c.args.region.now.keys n × Contains c.args.found.now.keys n)
    ⊎ (¬ (Contains c.args.region.now.keys n)
    × (Contains c.args.set.now.keys n × IsCurrent (content_of c.args.replica.now) n)))
    found.items h (λ n p. search (rules, told-alike)) (λ n p. search (rules, told-alike))) c.among.ensures

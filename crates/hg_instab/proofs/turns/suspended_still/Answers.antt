use Rattle.std.proofs.Common.{rules, Contains}
use Rattle.std.proofs.lemmas.Result.{IfOk-weaker}
use Rattle.hg_replica.specs.Content.{content_of}
use Rattle.hg_replica.specs.Evolution.{IsObsolete}
use Rattle.hg_instab.specs.Changed.{IsNow}
use Rattle.hg_instab.proofs.AmongLemmas.{those-divided, told-alike}
use Rattle.hg_instab.proofs.turns.suspended_still.Goals as goal

pub returns : goal.returns
returns c = IfOk-weaker c.among.result
    _ _ (λ found h. those-divided (Contains c.args.nodes.now) _ _
    (λ n. IsObsolete (content_of c.args.replica.now) n × ¬ (IsNow c.args.extinct.now.keys c.args.turned.now.keys n))
    found.items h (λ n p. search (rules, told-alike)) (λ n p. search (rules, told-alike))) c.among.ensures

use Rattle.std.proofs.Common.{rules, Contains}
use Rattle.std.proofs.lemmas.Result.{IfOk-weaker}
use Rattle.hg_instab.proofs.AmongLemmas.{those-divided, told-alike}
use Rattle.hg_instab.proofs.among.inside.Goals as goal

pub returns : goal.returns
returns c = IfOk-weaker c.among.result
    _ _ (λ found h. those-divided (Contains c.args.nodes.now) _ _ (Contains c.args.set.now.keys) found.items
    h (λ n p. search (rules, told-alike)) (λ n p. search (rules, told-alike))) c.among.ensures

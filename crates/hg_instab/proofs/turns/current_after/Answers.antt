use Rattle.std.proofs.Common.{rules, Contains, ◌⊎◌}
use Rattle.std.proofs.lemmas.Result.{IfOk-weaker}
use Rattle.hg_replica.specs.Content.{content_of}
use Rattle.hg_replica.specs.Evolution.{IsCurrent}
use Rattle.hg_instab.proofs.AmongLemmas.{those-divided, told-alike}
use Rattle.hg_instab.proofs.turns.current_after.Goals as goal

pub returns : goal.returns
returns c = IfOk-weaker c.among.result
    _ _ (λ found h. those-divided (Contains c.args.nodes.now) _ _
    (λ n. IsCurrent (content_of c.args.replica.now) n
    × (Contains c.args.after_public.now.keys n ⊎ Contains c.args.met.now.keys n))
    found.items h (λ n p. search (rules, told-alike)) (λ n p. search (rules, told-alike))) c.among.ensures

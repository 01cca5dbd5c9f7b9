use Rattle.std.proofs.Common.{ℕ, rules, tests}
use Rattle.std.specs.declared.vec.Vec.{Vec}
use Rattle.std.specs.declared.alloc.Global.{Global}
use Rattle.std.proofs.lemmas.Iterator.{YieldsList-from_map_by}
use Rattle.std.proofs.lemmas.Iterator.Consumers.{map_from_collect, YieldsList-at, YieldsList-from_rest}
use Rattle.hg_line.proofs.fleet.Fleet.node_names.Goals as goal

pub returns : goal.returns
returns c =
    map_from_collect _ c.collect.ensures.ran
    (YieldsList-from_map_by _ _ (λ (k : Vec ℕ Global). k.items)
    (YieldsList-at c.map.ensures.source (YieldsList-from_rest _ c.keys.ensures.rest))
    c.map.ensures.closure
    (λ x r q k. search (rules, tests)))

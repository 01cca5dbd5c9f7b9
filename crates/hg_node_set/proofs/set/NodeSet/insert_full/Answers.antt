use Rattle.std.proofs.Common.{◌++◌, ◌∷◌, [], ap, sym, arith, if◌then◌else◌, Bool, not}
use Rattle.std.proofs.lemmas.Grind.{common_steps}
use Rattle.hg_node_set.proofs.KeyLemmas.{number_at, any_at}
use Rattle.hg_node_set.proofs.set.NodeSet.insert_full.Goals as goal

pub returns-in-Some-clause-keys : goal.returns-in-Some-clause-keys
returns-in-Some-clause-keys c =
    let ns = c.args.self.now.keys in
    let n = c.args.node in
    sym (ap (λ (b : Bool). if b then ns else ns ++ n ∷ []) (any_at ns n c.in-Some.number c.in-Some.ensures.at))

pub returns-in-Some-clause-index : goal.returns-in-Some-clause-index
returns-in-Some-clause-index c =
    let ns = c.args.self.now.keys in
    let n = c.args.node in
    let at = number_at ns n c.in-Some.number c.in-Some.ensures.unique c.in-Some.ensures.at in
    grind (arith, common_steps)

pub returns-in-Some-clause-added : goal.returns-in-Some-clause-added
returns-in-Some-clause-added c =
    let ns = c.args.self.now.keys in
    let n = c.args.node in
    sym (ap not (any_at ns n c.in-Some.number c.in-Some.ensures.at))

use Rattle.std.proofs.Common.{take, Contains, true, false}
use Rattle.hg_instab.proofs.AmongLemmas.{AreDivided}
use Rattle.hg_instab.proofs.among.among.Given as goal

abbrev pub invariant-loop-node : goal.invariant-loop-node
invariant-loop-node g l = AreDivided (Contains (take l.node-index l.nodes)) (λ n. goal.F-post g l.test n true)
    (λ n. goal.F-post g l.test n false) l.found.items

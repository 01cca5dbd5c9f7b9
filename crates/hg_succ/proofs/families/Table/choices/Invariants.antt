use Rattle.std.proofs.Common.{◌≡◌, take}
use Rattle.hg_succ.specs.Answer.{sets_of}
use Rattle.hg_succ.specs.Unions.{choices}
use Rattle.hg_succ.proofs.families.Table.choices.Given as goal

abbrev pub invariant-loop-node : goal.invariant-loop-node
invariant-loop-node l = sets_of l.unions.items ≡ choices l.self (take l.node-index l.nodes)

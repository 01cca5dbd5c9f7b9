use Rattle.std.proofs.Common.{◌≡◌, false, nat_lt, take}
use Rattle.std.specs.List.{list_any}
use Rattle.hg_succ.specs.Cover.{count_in, entry}
use Rattle.hg_succ.proofs.families.Table.have_none.Given as goal

abbrev pub invariant-loop-node : goal.invariant-loop-node
invariant-loop-node l = list_any (λ n. nat_lt 0 (count_in (entry l.self n))) (take l.node-index l.nodes) ≡ false

use Rattle.std.proofs.Common.{take, []}
use Rattle.hg_succ.specs.Numbered.{Adds}
use Rattle.hg_succ.proofs.NumberLemmas.{IsAtOneOf}
use Rattle.hg_succ.proofs.numbered.next_row.Given as goal

abbrev pub invariant-loop-place : goal.invariant-loop-place
invariant-loop-place l = Adds (IsAtOneOf l.replica.markers (take l.place-index l.place-items)) l.initial.nodes.keys
    l.nodes.keys [] l.row.items

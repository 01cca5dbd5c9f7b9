use Rattle.std.proofs.Common.{◌≡◌, ◌++◌}
use Rattle.hg_succ.specs.Answer.{sets_of}
use Rattle.hg_succ.specs.Unions.{AreSetsOf}
use Rattle.hg_succ.proofs.unions.ascending.Given as goal

abbrev pub invariant-loop-list : goal.invariant-loop-list
invariant-loop-list l = record {
  so : AreSetsOf (sets_of l.yielded) (sets_of l.sets.items);
  rest : l.fn.lists.items ≡ l.yielded ++ l.list-iterator.rest.items;
}

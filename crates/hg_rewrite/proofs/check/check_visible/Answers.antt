use Rattle.hg_rewrite.proofs.MemoryLemmas.{walks_for_hidden}
use Rattle.hg_rewrite.proofs.check.check_visible.Goals as goal

pub returns-in-Some-clause-memory : goal.returns-in-Some-clause-memory
returns-in-Some-clause-memory c = λ e. walks_for_hidden c.args.replica.now c.args.op.now _ _ c.in-Some.ensures
    (c.check_parents_visible.ensures.memory e)

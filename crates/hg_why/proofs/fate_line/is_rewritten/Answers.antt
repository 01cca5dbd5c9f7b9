use Rattle.hg_instab.proofs.QueryLemmas.{told_predecessor}
use Rattle.hg_why.proofs.fate_line.is_rewritten.Goals as goal

pub returns : goal.returns
returns c = told_predecessor c.args.replica.now c.args.node c.store.result.now c.with_predecessor.result.now
    c.is_empty.result c.store.ensures c.with_predecessor.ensures c.is_empty.ensures

use Rattle.std.proofs.Common.{}
use Rattle.hg_obsstore.proofs.index.Index.put_parents.Goals as goal

pub returns-in-One-clause-err : goal.returns-in-One-clause-err
returns-in-One-clause-err c = rw c.in-One.is c.put_each.ensures.err

pub returns-in-Two-clause-err : goal.returns-in-Two-clause-err
returns-in-Two-clause-err c = rw c.in-Two.is c.put_each-in-Two.ensures.err

pub returns-in-Empty-clause-err : goal.returns-in-Empty-clause-err
returns-in-Empty-clause-err c = rw c.in-Empty.is c.put_each-in-Empty.ensures.err

pub returns-in-Unrecorded-clause-err : goal.returns-in-Unrecorded-clause-err
returns-in-Unrecorded-clause-err c = rw c.in-Unrecorded.is c.put_each-in-Unrecorded.ensures.err

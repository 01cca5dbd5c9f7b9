use Rattle.std.proofs.Common.{subst, Contains}
use Rattle.hg_obsstore.specs.Digests.{under}
use Rattle.hg_obsstore.proofs.digests.Digests.add.Goals as goal

pub returns-in_ok-put-clause-ok : goal.returns-in_ok-put-clause-ok
returns-in_ok-put-clause-ok c = λ many.
    subst (λ n. Contains (under c.put.new.self n) c.args.place) c.digest_of.ensures c.in_ok-put.ensures.ok

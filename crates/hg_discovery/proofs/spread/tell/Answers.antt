use Rattle.hg_discovery.specs.declared.finding.Finding.TheVariants.{Undecided}
use Rattle.hg_discovery.proofs.DecidedLemmas.{read_so}
use Rattle.hg_discovery.proofs.spread.tell.Goals as goal

pub make_common-requires-clause-undecided : goal.make_common-requires-clause-undecided
make_common-requires-clause-undecided c = read_so c.args.decided.now c.args.place Undecided Undecided c.eq.result
    c.if-place-decided.true c.eq.ensures c.if-eq.true

pub make_missing-requires-clause-undecided : goal.make_missing-requires-clause-undecided
make_missing-requires-clause-undecided c = read_so c.args.decided.now c.args.place Undecided Undecided c.eq.result
    c.if-place-decided.true c.eq.ensures c.if-eq.true

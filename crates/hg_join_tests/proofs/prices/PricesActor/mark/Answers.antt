use Rattle.hg_join_tests.specs.QuoteLaws.{keeping_back_is_due}
use Rattle.hg_join_tests.proofs.prices.PricesActor.mark.Goals as goal

pub returns-clause-due : goal.returns-clause-due
returns-clause-due c = keeping_back_is_due c.args.self.now c.args.item.now

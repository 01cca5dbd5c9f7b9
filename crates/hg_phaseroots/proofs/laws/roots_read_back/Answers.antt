use Rattle.hg_phaseroots.proofs.WriteLemmas.{order_once, order_same, order_again}
use Rattle.hg_phaseroots.proofs.laws.roots_read_back.Goals as goal

pub returns-clause-one_order : goal.returns-clause-one_order
returns-clause-one_order c roots sorted others a b = order_once roots sorted others a b

pub returns-clause-same : goal.returns-clause-same
returns-clause-same c roots sorted order r = order_same roots sorted order r

pub returns-clause-again : goal.returns-clause-again
returns-clause-again c roots sorted nodes order = order_again roots sorted nodes order

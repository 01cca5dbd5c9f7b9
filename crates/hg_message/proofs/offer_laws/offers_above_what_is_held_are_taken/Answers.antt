use Rattle.hg_message.proofs.TakenLemmas.{taken-admitted, taken-named, common_later}
use Rattle.hg_message.proofs.offer_laws.offers_above_what_is_held_are_taken.Goals as goal

pub returns-clause-admitted : goal.returns-clause-admitted
returns-clause-admitted c = λ s pins common m g later valid offer has up vl free.
    taken-admitted s valid pins common m offer later vl (common_later common g later has up) free

pub returns-clause-taken : goal.returns-clause-taken
returns-clause-taken c = λ s pins common m g later after valid offer has up vl free taken.
    taken-named s valid pins common m offer later vl (common_later common g later has up) free after taken

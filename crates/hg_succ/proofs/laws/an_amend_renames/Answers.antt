use Rattle.hg_succ.proofs.RenamedLemmas.{amend_sets, amend_sets_back, amend_overfull, amend_several, amend_few}
use Rattle.hg_succ.proofs.laws.an_amend_renames.Goals as goal

pub returns-clause-sets : goal.returns-clause-sets
returns-clause-sets c p x fresh f g n a am so is = amend_sets p x fresh f g am n a so is

pub returns-clause-sets_back : goal.returns-clause-sets_back
returns-clause-sets_back c p x fresh f g n b am so is = amend_sets_back p x fresh f g am n b so is

pub returns-clause-overfull : goal.returns-clause-overfull
returns-clause-overfull c p x fresh f g n am so = amend_overfull p x fresh f g am n so

pub returns-clause-several : goal.returns-clause-several
returns-clause-several c p x fresh f g n am so = amend_several p x fresh f g am n so

pub returns-clause-few : goal.returns-clause-few
returns-clause-few c p x fresh f g n am is = amend_few p x fresh f g am n is

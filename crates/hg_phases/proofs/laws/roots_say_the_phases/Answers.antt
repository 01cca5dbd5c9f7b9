use Rattle.hg_phases.proofs.RootLemmas.{roots_are, opened-valid, opened-again, same-roots}
use Rattle.hg_phases.proofs.laws.roots_say_the_phases.Goals as goal

pub returns-clause-listed : goal.returns-clause-listed
returns-clause-listed c s roots are r = roots_are s roots are r

pub returns-clause-valid : goal.returns-clause-valid
returns-clause-valid c cs roots s graph opened = opened-valid cs roots s opened graph

pub returns-clause-again : goal.returns-clause-again
returns-clause-again c s t roots listed valid are same opened = opened-again s t roots listed valid are same opened

pub returns-clause-same : goal.returns-clause-same
returns-clause-same c s t roots listed valid_s valid_t held are_s are_t same =
    same-roots s t roots listed valid_s valid_t held are_s are_t same

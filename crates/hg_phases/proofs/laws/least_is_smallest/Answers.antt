use Rattle.hg_phases.proofs.FormLemmas.{smallest-least}
use Rattle.hg_phases.proofs.LawLemmas.{least-unique}
use Rattle.hg_phases.proofs.ExistLemmas.{least-all_admitted, forms-same}
use Rattle.hg_phases.proofs.laws.least_is_smallest.Goals as goal

pub returns-clause-smallest : goal.returns-clause-smallest
returns-clause-smallest c s t ks valid l = smallest-least s ks t valid l

pub returns-clause-exists : goal.returns-clause-exists
returns-clause-exists c s ks valid admitted = least-all_admitted s ks valid admitted

pub returns-clause-one_form : goal.returns-clause-one_form
returns-clause-one_form c s t ks valid admitted = forms-same s t ks valid admitted

pub returns-clause-one : goal.returns-clause-one
returns-clause-one c s t u ks valid l m = least-unique s ks t u valid l m

use Rattle.hg_replica.proofs.LeastLemmas.{smallest-least, least-all_admitted, forms-same, least-unique}
use Rattle.hg_replica.proofs.laws.least_is_smallest.Goals as goal

pub returns-clause-smallest : goal.returns-clause-smallest
returns-clause-smallest c s t ks valid l = smallest-least s t ks valid l

pub returns-clause-exists : goal.returns-clause-exists
returns-clause-exists c s ks valid admitted = least-all_admitted s ks valid admitted

pub returns-clause-one_form : goal.returns-clause-one_form
returns-clause-one_form c s t ks valid admitted = forms-same s t ks valid admitted

pub returns-clause-one : goal.returns-clause-one
returns-clause-one c s t u ks valid l m = least-unique s t u ks valid l m

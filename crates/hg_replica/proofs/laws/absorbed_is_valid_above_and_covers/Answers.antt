use Rattle.std.proofs.Common.{[], ◌∷◌, arith, refl}
use Rattle.hg_replica.specs.Answer.{AbsorbAnswer}
use Rattle.hg_replica.proofs.LeastLemmas.{least-valid, least-above, least-covers, smallest-least}
use Rattle.hg_replica.proofs.laws.absorbed_is_valid_above_and_covers.Goals as goal

pub returns-clause-valid : goal.returns-clause-valid
unfolding AbsorbAnswer
returns-clause-valid c s t k change valid h = least-valid s (k ∷ []) t h.least valid

pub returns-clause-above : goal.returns-clause-above
unfolding AbsorbAnswer
returns-clause-above c s t k change h = least-above s (k ∷ []) t h.least

pub returns-clause-covers : goal.returns-clause-covers
unfolding AbsorbAnswer
returns-clause-covers c s t k change h = least-covers s (k ∷ []) t h.least k (0, omega arith, refl)

pub returns-clause-smallest : goal.returns-clause-smallest
unfolding AbsorbAnswer
returns-clause-smallest c s t k change valid h = smallest-least s t (k ∷ []) valid h.least

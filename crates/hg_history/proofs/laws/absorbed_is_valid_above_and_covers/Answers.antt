use Rattle.std.proofs.Common.{[], ◌∷◌, arith, refl}
use Rattle.hg_phases.proofs.LeastLemmas.{least-above}
use Rattle.hg_phases.proofs.LawLemmas.{least-covers, least-valid}
use Rattle.hg_phases.proofs.FormLemmas.{smallest-least}
use Rattle.hg_history.proofs.laws.absorbed_is_valid_above_and_covers.Goals as goal

pub returns-clause-valid : goal.returns-clause-valid
returns-clause-valid c s t k change valid h = least-valid s (k ∷ []) t h.least valid

pub returns-clause-above : goal.returns-clause-above
returns-clause-above c s t k change h = least-above s (k ∷ []) t h.least

pub returns-clause-covers : goal.returns-clause-covers
returns-clause-covers c s t k change h = least-covers s (k ∷ []) t h.least k (0, omega arith, refl)

pub returns-clause-smallest : goal.returns-clause-smallest
returns-clause-smallest c s t k change valid h = smallest-least s (k ∷ []) t valid h.least

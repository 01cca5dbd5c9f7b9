-- The ranks of phases.
use Rattle.std.proofs.Common.{◌≡◌, ◌≤◌, refl, arith}
use Rattle.hg_phases.specs.declared.phase.Phase.{Phase}
use Rattle.hg_phases.specs.declared.phase.Phase.TheVariants.{Public, Draft, Secret}
use Rattle.hg_phases.specs.State.{rank}

pub rank-top : (k : Phase) → rank k ≤ 2
rank-top Public = omega arith
rank-top Draft = omega arith
rank-top Secret = omega arith

pub rank-apart : (j k : Phase) → rank j ≡ rank k → j ≡ k
rank-apart Public Public e = refl
rank-apart Public Draft e = absurd (omega arith)
rank-apart Public Secret e = absurd (omega arith)
rank-apart Draft Public e = absurd (omega arith)
rank-apart Draft Draft e = refl
rank-apart Draft Secret e = absurd (omega arith)
rank-apart Secret Public e = absurd (omega arith)
rank-apart Secret Draft e = absurd (omega arith)
rank-apart Secret Secret e = refl

-- Rounds, one after the other, and their numbers.
use Rattle.std.proofs.Common.{◌+◌, ℕ, List, refl, add-one}
use Rattle.hg_view.specs.Kept.{KeptValue}
use Rattle.hg_live.specs.NodeViews.{PassView}
use Rattle.hg_race.specs.Rounds.{AreRounds, PutsOffer}

-- no round
pub no_rounds : {S : Type 0} (given : S → List (List ℕ)) (FindsNoRoom : S → S → Type 0) (o : KeptValue) (next : S) →
    AreRounds given FindsNoRoom o 0 next next
unfolding AreRounds
no_rounds given FindsNoRoom o next = refl

-- a further round
pub round_more : {S : Type 0} (given : S → List (List ℕ)) (FindsNoRoom : S → S → Type 0) (o : KeptValue) (n : ℕ)
    (a b c : S) (p q : PassView) → AreRounds given FindsNoRoom o n a b → PutsOffer given FindsNoRoom o p q b c →
    AreRounds given FindsNoRoom o (n + 1) a c
unfolding AreRounds
round_more given FindsNoRoom o n a b c p q h k = rw (add-one n) (b, p, q, h, k)

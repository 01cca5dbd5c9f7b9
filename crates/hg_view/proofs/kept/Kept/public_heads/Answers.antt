use Rattle.std.proofs.Common.{◌↔◌, Contains, subst}
use Rattle.hg_phases.specs.State.{changesets}
use Rattle.hg_instab.proofs.SetLemmas.{along}
use Rattle.hg_view.specs.Kept.{KeptValue}
use Rattle.hg_view.specs.HeadPlaces.{IsPublicAt, IsHeadAmong}
use Rattle.hg_view.proofs.kept.Kept.public_heads.Goals as goal

pub returns : goal.returns
returns c k = subst (λ (v : KeptValue). Contains c.public.result.now k
    ↔ IsHeadAmong (changesets v.replica.history) (IsPublicAt v.replica.history) k) c.self.view_is
    (along (c.public.ensures k) (c.self.invariant.3.public.exact k))

use Rattle.std.proofs.Common.{◌↔◌, ℕ, Contains, subst, sym}
use Rattle.std.proofs.lemmas.Result.{IfOk-weaker}
use Rattle.hg_phases.specs.State.{changesets}
use Rattle.hg_instab.proofs.SetLemmas.{along}
use Rattle.hg_view.specs.Common.{IsCommonAt}
use Rattle.hg_view.specs.Descent.{IsClosedUnderParents, IsCovered}
use Rattle.hg_view.specs.Kept.{KeptValue}
use Rattle.hg_view.specs.HeadPlaces.{IsServedAt, IsHeadAmong}
use Rattle.hg_view.proofs.CommonLemmas.{own-closed, own-common}
use Rattle.hg_view.proofs.ViewHeadLemmas.{same-heads}
use Rattle.hg_view.proofs.kept.Kept.served_heads.Goals as goal

pub heads_in_common-requires-clause-childless : goal.heads_in_common-requires-clause-childless
heads_in_common-requires-clause-childless c k =
    along (c.all.ensures k) (c.self.invariant.3.all.exact k)

pub heads_in_common-requires-clause-closed : goal.heads_in_common-requires-clause-closed
heads_in_common-requires-clause-closed c =
    let s = c.self.inside.replica in
    subst (λ (v : KeptValue). IsClosedUnderParents (changesets s.history) (IsCommonAt s v)) c.self.view_is
    (own-closed (record { replica = s; pins = c.self.inside.pins }) c.self.invariant.1)

pub returns-clause-exact : goal.returns-clause-exact
returns-clause-exact c =
    let s = c.self.inside.replica in
    IfOk-weaker c.heads_in_common.result _ _ (λ heads exact k. subst (λ (v : KeptValue). Contains heads.items k
    ↔ IsHeadAmong (changesets v.replica.history) (IsServedAt v.replica v.pins) k) c.self.view_is
    (along (subst (λ (v : KeptValue). (i : ℕ) → Contains heads.items i
    ↔ IsHeadAmong (changesets s.history) (IsCommonAt s v) i) (sym c.self.view_is) exact k) (same-heads _ _ _
    (own-common _ c.self.invariant.1) _))) c.heads_in_common.ensures.exact

pub returns-clause-covers : goal.returns-clause-covers
returns-clause-covers c =
    let s = c.self.inside.replica in
    IfOk-weaker c.heads_in_common.result _ _ (λ heads covers k. subst (λ (v : KeptValue). IsServedAt v.replica v.pins k
    → IsCovered (changesets v.replica.history) heads.items k) c.self.view_is
    (λ so. subst (λ (v : KeptValue). (i : ℕ) → IsCommonAt s v i → IsCovered (changesets s.history) heads.items i)
    (sym c.self.view_is) covers k ((own-common _ c.self.invariant.1 _).1 so))) c.heads_in_common.ensures.covers

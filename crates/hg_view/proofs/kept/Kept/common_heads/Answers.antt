use Rattle.std.proofs.Common.{◌↔◌, Contains, subst, sym}
use Rattle.std.proofs.lemmas.Result.{IfOk-weaker}
use Rattle.hg_phases.specs.State.{changesets}
use Rattle.hg_instab.proofs.SetLemmas.{along}
use Rattle.hg_view.specs.Common.{AreFree, IsCommonAt}
use Rattle.hg_view.specs.Descent.{IsClosedUnderParents}
use Rattle.hg_view.specs.Kept.{KeptValue}
use Rattle.hg_view.specs.HeadPlaces.{IsHeadAmong}
use Rattle.hg_view.proofs.CommonLemmas.{common-closed}
use Rattle.hg_view.proofs.kept.Kept.common_heads.Goals as goal

pub heads_in_common-requires-clause-childless : goal.heads_in_common-requires-clause-childless
heads_in_common-requires-clause-childless c k = along (c.all.ensures k) (c.self.invariant.3.all.exact k)

pub heads_in_common-requires-clause-closed : goal.heads_in_common-requires-clause-closed
heads_in_common-requires-clause-closed c = common-closed c.self.inside.replica c.args.other.now c.self.invariant.1
    c.replica.ensures.valid (subst (λ (v : KeptValue). AreFree (changesets v.replica.history)
    (changesets c.args.other.now.replica.history)) (sym c.self.view_is) c.requires)

pub returns-clause-exact : goal.returns-clause-exact
returns-clause-exact c = IfOk-weaker c.heads_in_common.result _ _
    (λ heads exact k. subst (λ (v : KeptValue). Contains heads.items k
    ↔ IsHeadAmong (changesets v.replica.history) (IsCommonAt v.replica c.args.other.now) k) c.self.view_is (exact k))
    c.heads_in_common.ensures.exact

pub returns-clause-closed : goal.returns-clause-closed
returns-clause-closed c = subst (λ (v : KeptValue). IsClosedUnderParents (changesets v.replica.history)
    (IsCommonAt v.replica c.args.other.now)) c.self.view_is
    (common-closed c.self.inside.replica c.args.other.now c.self.invariant.1 c.replica.ensures.valid
    (subst (λ (v : KeptValue). AreFree (changesets v.replica.history)
    (changesets c.args.other.now.replica.history)) (sym c.self.view_is) c.requires))

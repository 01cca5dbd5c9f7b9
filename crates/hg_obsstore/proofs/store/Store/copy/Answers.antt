use Rattle.std.proofs.Common.{◌∙◌, subst}
use Rattle.hg_obsstore.specs.Markers.{AllDistinct}
use Rattle.hg_obsstore.specs.Growth.{united}
use Rattle.hg_obsstore.proofs.GrowthLemmas.{copied}
use Rattle.hg_obsstore.proofs.store.Store.copy.Goals as goal

pub returns : goal.returns
returns c =
    c.in_ok-add_copies.ensures.ok ∙ (λ i. united (c.with_keys-copy.ensures i) (c.markers.ensures.markers i))
    ∙ copied c.args.self.now (subst AllDistinct c.self.view_is c.self.invariant.0)

use Rattle.std.proofs.Common.{◌↔◌, Contains, subst}
use Rattle.std.proofs.lemmas.Result.{IfOk-weaker}
use Rattle.hg_replica.specs.Content.{content_of}
use Rattle.hg_view.specs.Kept.{KeptValue}
use Rattle.hg_view.specs.Pins.{IsVisibleUnder}
use Rattle.hg_view.proofs.kept.Kept.visible.Goals as goal

pub returns : goal.returns
returns c = IfOk-weaker c.visible.result _ _
    (λ set told n. subst (λ (k : KeptValue). Contains set.keys n ↔ IsVisibleUnder (content_of k.replica) k.pins n)
    c.self.view_is (told n))
    c.visible.ensures

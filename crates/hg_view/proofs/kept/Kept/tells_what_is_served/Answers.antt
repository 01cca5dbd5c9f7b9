use Rattle.std.proofs.Common.{◌⊎◌, subst}
use Rattle.hg_replica.specs.Content.{content_of}
use Rattle.hg_view.specs.Kept.{KeptValue}
use Rattle.hg_view.specs.Pins.{IsServedUnder}
use Rattle.hg_view.proofs.ViewHeadLemmas.{served-or}
use Rattle.hg_view.proofs.kept.Kept.tells_what_is_served.Goals as goal

pub returns : goal.returns
returns c n = subst (λ (v : KeptValue). IsServedUnder (content_of v.replica) v.pins n
    ⊎ ¬ (IsServedUnder (content_of v.replica) v.pins n)) c.self.view_is
    (served-or c.self.inside.replica c.is_valid.ensures c.self.inside.pins c.self.inside.upheld.keys
    c.self.invariant.2 c.self.inside.instabilities c.self.invariant.0 n)

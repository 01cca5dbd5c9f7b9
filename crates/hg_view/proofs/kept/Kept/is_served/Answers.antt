use Rattle.std.proofs.Common.{false, true≢false, List, IsTrue, ◌↔◌, sym, subst}
use Rattle.hg_changeset.specs.Contents.{Contents}
use Rattle.hg_graph.specs.Graph.{Holds}
use Rattle.hg_replica.specs.Content.{content_of}
use Rattle.hg_view.specs.Kept.{KeptValue}
use Rattle.hg_view.specs.Pins.{IsServedUnder}
use Rattle.hg_view.proofs.UpheldLemmas.{visible-holds}
use Rattle.hg_view.proofs.kept.Kept.is_served.Goals as goal

pub returns-in-None : goal.returns-in-None
returns-in-None c =
    let node = c.args.node in
    let out = subst (λ (cs : List Contents). ¬ (Holds cs node)) c.graph.ensures.graph c.in-None.ensures.place in
    subst (λ (k : KeptValue). IsTrue false ↔ IsServedUnder (content_of k.replica) k.pins node) c.self.view_is (
      λ h. absurd (true≢false (sym h)),
      λ seen. absurd (out (visible-holds c.self.inside.replica c.graph.ensures.valid c.self.inside.pins node seen.0)),
    )

use Rattle.std.proofs.Common.{◌↔◌, subst, List, Contains}
use Rattle.hg_marker.specs.Fields.{Fields}
use Rattle.hg_obsstore.specs.Markers.{IsNamed}
use Rattle.hg_obsstore.proofs.StoreLemmas.{placed_named}
use Rattle.hg_obsstore.proofs.store.Store.named.Goals as goal

pub returns-clause-exact : goal.returns-clause-exact
returns-clause-exact c = λ n.
    let here = placed_named c.self.inside.markers.items c.self.inside.index c.self.invariant.1 n in
    let told = c.named.ensures.exact n in
    subst (λ (ms : List Fields). Contains c.named.result.now n ↔ IsNamed ms n) c.self.view_is
    ((λ h. here.0 (told.0 h)), (λ h. told.1 (here.1 h)))

use Rattle.std.proofs.Common.{sym, subst, All, List}
use Rattle.hg_marker.specs.Fields.{Fields}
use Rattle.hg_marker.specs.Grammar.{IsMarker}
use Rattle.hg_obsstore.specs.Markers.{AllDistinct}
use Rattle.hg_obsstore.specs.Indexes.{AreIndexed}
use Rattle.hg_obsstore.specs.Digests.{AreDigested}
use Rattle.hg_obsstore.proofs.StoreLemmas.{all_same}
use Rattle.hg_obsstore.proofs.DigestLemmas.{digested_same}
use Rattle.hg_obsstore.proofs.store.Store.give_back.Goals as goal

pub invariant_of-self : goal.invariant_of-self
invariant_of-self c =
    let new = c.give_back_all.new.index in
    let digests = c.self.inside.digests in
    let back = sym c.give_back_all.ensures.markers in (
      subst AllDistinct back c.self.invariant.0,
      subst (λ (xs : List Fields). AreIndexed xs new) back
          (all_same _ _ _ c.give_back_all.ensures.places c.self.invariant.1),
      subst (All IsMarker) back c.self.invariant.2,
      subst (λ (xs : List Fields). AreDigested xs new digests) back
          (digested_same _ _ _ digests digests c.self.invariant.3 c.give_back_all.ensures.places
          (λ n i other there. there)),
    )

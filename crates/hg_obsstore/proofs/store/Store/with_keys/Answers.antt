use Rattle.std.proofs.Common.{sym, subst, arith, All, List}
use Rattle.hg_marker.specs.Fields.{Fields}
use Rattle.hg_marker.specs.Grammar.{IsMarker}
use Rattle.hg_obsstore.specs.Markers.{AllDistinct}
use Rattle.hg_obsstore.specs.Indexes.{AreIndexed}
use Rattle.hg_obsstore.specs.Digests.{AreDigested}
use Rattle.hg_obsstore.proofs.DigestLemmas.{apart_none}
use Rattle.hg_obsstore.proofs.StoreLemmas.{indexed_none}
use Rattle.hg_obsstore.proofs.store.Store.with_keys.Goals as goal

pub invariant_of-result : goal.invariant_of-result
invariant_of-result c =
    let none = sym c.new.ensures.items in (
      subst AllDistinct none apart_none,
      subst (λ (ms : List Fields). AreIndexed ms c.with_keys.result) none
          (indexed_none c.with_keys.result c.with_keys.ensures),
      subst (All IsMarker) none (λ k d lt. absurd (omega (arith, lt))),
      subst (λ (ms : List Fields). AreDigested ms c.with_keys.result c.new-2.result) none (λ m i at. absurd cc),
    )

use Rattle.std.proofs.Common.{◌≡◌, ℕ, List, sym, subst}
use Rattle.hg_marker.specs.Fields.{Fields}
use Rattle.hg_obsstore.specs.Markers.{ArePlaces}
use Rattle.hg_why.proofs.fate.fate_of.Goals as goal

pub returns : goal.returns
returns c =
    let n = c.args.node in
    let same : c.in_ok-markers.markers.items ≡ c.with_predecessor.result.now =
    c.in_ok-markers.ensures.items_if_clones_equal (λ x y e. e) in
    let there = subst (λ (ms : List Fields). ArePlaces (λ m. m.predecessor ≡ n) ms c.with_predecessor.result.now)
    c.store.ensures c.with_predecessor.ensures in (
      c.is_obsolete.ensures.0 c.if-not-is_obsolete.false,
      subst (λ (ks : List ℕ). ArePlaces (λ m. m.predecessor ≡ n) c.args.replica.now.markers ks) (sym same) there,
      c.in_ok-sets.ensures,
    )

use Rattle.std.proofs.Common.{sym, subst, All}
use Rattle.std.proofs.lemmas.List.Elements.{All-push}
use Rattle.hg_marker.specs.Grammar.{IsMarker}
use Rattle.hg_obsstore.specs.Markers.{AllDistinct}
use Rattle.hg_obsstore.proofs.GrowthLemmas.{apart_push, not_there}
use Rattle.hg_obsstore.proofs.store.Store.add.Goals as goal

pub invariant_of-self-2 : goal.invariant_of-self-2
invariant_of-self-2 c =
    let ms = c.self.inside.markers.items in
    let m = c.args.marker in
    let items = sym c.in_ok-put_last.ensures.ok in
    let absent = not_there ms _ m _ c.look_up-held.ensures.held c.deref.ensures.value c.if-held.false in (
      subst AllDistinct items (apart_push ms m c.self.invariant.0 absent),
      c.put_last.ensures.indexed,
      subst (All IsMarker) items (All-push IsMarker ms m c.self.invariant.2 c.look_up-held.ensures.marker),
      c.put_last.ensures.digested,
    )

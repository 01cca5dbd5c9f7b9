use Rattle.std.proofs.Common.{◌++◌, ◌∷◌, [], ◌∙◌, sym, ap, subst, All, rules}
use Rattle.std.proofs.lemmas.List.Elements.{All-push}
use Rattle.hg_marker.specs.Fields.{Fields}
use Rattle.hg_marker.specs.Grammar.{IsMarker}
use Rattle.hg_obsstore.specs.declared.store.Added.TheVariants.{New}
use Rattle.hg_obsstore.specs.Markers.{AllDistinct}
use Rattle.hg_obsstore.proofs.GrowthLemmas.{apart_push, not_there, with_added, with_known}
use Rattle.hg_obsstore.proofs.store.Store.add_copy.Goals as goal

pub invariant_of-self-2 : goal.invariant_of-self-2
invariant_of-self-2 c =
    let ms = c.self.inside.markers.items in
    let m = c.args.marker.now in
    let items = sym (c.in_ok-put_last.ensures.ok ∙ ap (λ (x : Fields). ms ++ x ∷ []) c.in_ok-copy.ensures) in
    let absent = not_there ms _ m _ c.look_up-held.ensures.held c.deref.ensures.value c.if-held.false in (
      subst AllDistinct items (apart_push ms m c.self.invariant.0 absent),
      c.put_last.ensures.indexed,
      subst (All IsMarker) items (All-push IsMarker ms m c.self.invariant.2 c.look_up-held.ensures.marker),
      c.put_last.ensures.digested,
    )

pub returns-then-held-clause-ok : goal.returns-then-held-clause-ok
returns-then-held-clause-ok c =
    sym (with_known c.args.self.now c.args.marker.now (search rules))

pub returns-clause-ok : goal.returns-clause-ok
returns-clause-ok c =
    let m = c.args.marker.now in
    let absent = not_there c.args.self.now _ m _ c.look_up-held.ensures.held (c.deref.ensures.value ∙ c.self.view_is)
    c.if-held.false in
    with_added c.args.self.now m New _ (
      absent,
      c.in_ok-put_last.ensures.ok
          ∙ (λ i. c.self.view_is i ++ c.in_ok-copy.ensures i ∷ []),
    )

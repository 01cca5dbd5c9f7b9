use Rattle.std.proofs.Common.{rules, ◌≡◌, ◌+◌, ◌∙◌, sym, ap, subst, List, length, get_or, All}
use Rattle.std.proofs.lemmas.List.Elements.{All-take}
use Rattle.hg_marker.specs.Fields.{Fields}
use Rattle.hg_marker.specs.Grammar.{IsMarker}
use Rattle.hg_obsstore.specs.Markers.{AllDistinct}
use Rattle.hg_obsstore.specs.Indexes.{AreIndexed}
use Rattle.hg_obsstore.specs.Digests.{AreDigested}
use Rattle.hg_obsstore.proofs.ForgetLemmas.{all_forget}
use Rattle.hg_obsstore.proofs.DigestLemmas.{apart_first, digested_forget}
use Rattle.hg_obsstore.proofs.store.Store.forget.Goals as goal

pub invariant_of-self : goal.invariant_of-self
invariant_of-self c =
    let xs = c.self.inside.markers.items in
    let x = c.index-marker.result.now in
    let cut = sym c.truncate.ensures.items in
    let at : c.args.place + 1 ≡ length xs = c.requires ∙ ap length (sym c.self.view_is) in
    let read : x ≡ get_or xs c.args.place x = search rules in (
      subst AllDistinct cut (apart_first c.args.place xs c.self.invariant.0),
      subst (λ (ys : List Fields). AreIndexed ys c.remove.new.self) cut
          (all_forget xs x c.args.place c.self.inside.index c.remove.new.self at read c.self.invariant.1
          c.remove.ensures),
      subst (All IsMarker) cut (All-take IsMarker c.args.place xs c.self.invariant.2),
      subst (λ (ys : List Fields). AreDigested ys c.remove.new.self c.remove-2.new.self) cut
          (digested_forget xs x c.args.place c.self.inside.index c.remove.new.self c.self.inside.digests
          c.remove-2.new.self at read c.self.invariant.1 c.remove.ensures c.self.invariant.3 c.remove-2.ensures.kept),
    )

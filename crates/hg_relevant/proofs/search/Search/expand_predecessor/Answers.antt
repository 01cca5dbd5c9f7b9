use Rattle.std.proofs.Common.{◌≡◌, ◌∙◌, inr, ap, subst, get_or, refl, List}
use Rattle.std.proofs.lemmas.Option.{slice_get_read}
use Rattle.hg_changeset.specs.declared.node.Node.{Node}
use Rattle.hg_marker.specs.Fields.{Fields}
use Rattle.hg_relevant.specs.Search.{Expands}
use Rattle.hg_relevant.proofs.search.Search.expand_predecessor.Goals as goal

pub returns : goal.returns
returns c =
    let ms = c.args.store.now in
    let m = c.index-markers-place.result in
    let read : m ≡ get_or ms c.args.place m =
    c.index-markers-place.is ∙ ap (λ (xs : List Fields). get_or xs c.args.place m) c.markers.ensures.markers in
    inr (
      m,
      slice_get_read ms _ c.args.place m refl c.requires.within read,
      subst (λ (n : Node). Expands ms n c.args.self.now c.expand.new.self) c.predecessor-node.ensures.predecessor
          c.in_ok-expand.ensures,
    )

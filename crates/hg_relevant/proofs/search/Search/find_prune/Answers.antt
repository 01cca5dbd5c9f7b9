use Rattle.std.proofs.Common.{◌∙◌, ◌==◌, List, length, refl, sym, ap}
use Rattle.std.proofs.lemmas.Bool.{true≢false}
use Rattle.std.specs.Cmp.{unsigned_Decides}
use Rattle.std.proofs.lemmas.List.{nil_from_length}
use Rattle.std.proofs.lemmas.Option.{slice_get_read}
use Rattle.hg_changeset.specs.declared.node.Node.{Node}
use Rattle.hg_relevant.proofs.SearchLemmas.{finds-prune, finds-other}
use Rattle.hg_relevant.proofs.search.Search.find_prune.Goals as goal

pub returns-in_ok-find : goal.returns-in_ok-find
returns-in_ok-find c =
    let ms = c.args.markers.now in
    let m = c.index-markers-place.result in
    let prune = sym c.successors.ensures ∙ nil_from_length c.successors.result.now
    ((unsigned_Decides (length c.successors.result.now) 0).0 (sym c.is_empty.ensures ∙ c.if-is_empty.true)) in
    finds-prune ms m c.args.place (slice_get_read ms _ c.args.place m refl c.requires.within c.index-markers-place.is)
    c.args.self.now c.find.new.self prune c.in_ok-find.ensures

pub returns-else-is_empty : goal.returns-else-is_empty
returns-else-is_empty c =
    let ms = c.args.markers.now in
    let m = c.index-markers-place.result in
    finds-other ms m c.args.place (slice_get_read ms _ c.args.place m refl c.requires.within c.index-markers-place.is)
    c.args.self.now
    (λ prune. true≢false
    (sym (c.is_empty.ensures ∙ ap (λ (ns : List Node). length ns == 0) (c.successors.ensures ∙ prune))
    ∙ c.if-is_empty.false))

use Rattle.std.proofs.Common.{◌≡◌, ◌+◌, ◌++◌, ◌∷◌, [], List, map, take, get_or, sym, ap, ◌∙◌}
use Rattle.std.specs.List.{flat_map}
use Rattle.std.proofs.lemmas.Grind.{flat_map-append}
use Rattle.std.proofs.lemmas.List.{take_more, map-append, append-nil}
use Rattle.hg_changeset.specs.declared.node.Node.{Node}
use Rattle.hg_succ.specs.Numbered.{successors_at}
use Rattle.hg_succ.specs.Plan.{gather_all, no_range, range_of}
use Rattle.hg_succ.proofs.RangeLemmas.{gather_append}
use Rattle.hg_succ.proofs.ranges.Ranges.gather_all.Goals as goal

pub loop-place-preserved : goal.loop-place-preserved
loop-place-preserved c =
    let range = range_of c.args.self.now.ranges.items c.args.nodes.now.keys in
    let followers = successors_at c.args.markers.now in
    let places = c.args.places.now in
    let i = c.loop-place.place-index in
    let p = get_or places i 0 in
    let before = flat_map followers (take i places) in
    let more : flat_map followers (take (i + 1) places) ≡ before ++ followers p =
    ap (flat_map followers) (take_more places i 0 c.loop-place-test.true)
    ∙ flat_map-append followers (take i places) (p ∷ [])
    ∙ ap (λ (ns : List Node). before ++ ns) (append-nil (followers p)) in
    c.gather-all.ensures
    ∙ (λ k. gather_all (c.loop-place.invariant k) (map range (c.successors_at.ensures k)))
    ∙ sym (gather_append no_range (map range before) (map range (followers p)))
    ∙ ap (gather_all no_range) (sym (map-append range before (followers p)))
    ∙ ap (λ (ns : List Node). gather_all no_range (map range ns)) (sym more)

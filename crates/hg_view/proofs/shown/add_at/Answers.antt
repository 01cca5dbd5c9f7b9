use Rattle.std.proofs.Common.{◌≡◌, ◌+◌, Some, take, get_or, slice_get, sym, subst, ap, ◌∙◌}
use Rattle.std.proofs.lemmas.List.{get_or_default}
use Rattle.std.proofs.lemmas.Option.{none-some}
use Rattle.hg_graph.specs.Graph.{nodes}
use Rattle.hg_instab.specs.Walk.{Adds}
use Rattle.hg_instab.proofs.WalkLemmas.{adds-then, adds-one, adds-same}
use Rattle.hg_view.specs.Shown.{IsAtOne}
use Rattle.hg_view.proofs.ShownLemmas.{at-more, at-nothing}
use Rattle.hg_view.proofs.shown.add_at.Goals as goal
use Rattle.hg_view.proofs.shown.add_at.Goals.{in-Some+in_ok-insert-in-Some, in-None}

pub loop-place-preserved : goal.loop-place-preserved
loop-place-preserved c =
    let cs = c.args.graph.now in
    let places = c.args.places.now in
    let i = c.loop-place.place-index in
    let k = get_or places i 0 in
    let old = c.args.met.now.keys in
    let mid = c.loop-place.met.keys in
    let is = get_or_default places i k 0 c.loop-place-test.true in
    elim c.match-node_at.branch [
      | in-Some+in_ok-insert-in-Some w ↦
          let n = w.in-Some.node in
          let at : slice_get (nodes cs) k ≡ Some n = sym c.node_at.ensures ∙ w.in-Some.is in
          adds-then (IsAtOne cs (take i places)) (λ m. n ≡ m) (IsAtOne cs (take (i + 1) places)) old mid
          _ (at-more cs places i k n c.loop-place-test.true is at) c.loop-place.invariant
          (adds-one mid _ n (ap (λ v. v.keys) w.met-is ∙ w.in_ok-insert-in-Some.ensures.keys))
      | in-None w ↦
          subst (Adds (IsAtOne cs (take (i + 1) places)) old) (sym (ap (λ v. v.keys) w.met-is))
          (adds-same (IsAtOne cs (take i places)) (IsAtOne cs (take (i + 1) places)) old mid
          (at-nothing cs places i k c.loop-place-test.true is
          (λ x at. none-some x (sym w.in-None.is ∙ c.node_at.ensures ∙ at))) c.loop-place.invariant)
    ]

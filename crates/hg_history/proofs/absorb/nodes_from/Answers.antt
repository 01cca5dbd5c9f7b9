use Rattle.std.proofs.Common.{◌≡◌, ◌+◌, ◌≤◌, ◌<◌, [], ◌∷◌, ◌++◌, drop, take, length, sym, ap, ◌∙◌, arith}
use Rattle.std.proofs.lemmas.List.{take_more, drop-append-le, length-map, length-take}
use Rattle.std.proofs.lemmas.Option.{get_or_from_slice_get, none-some}
use Rattle.hg_changeset.specs.Changeset.{node_of}
use Rattle.hg_graph.specs.Graph.{nodes}
use Rattle.hg_graph.proofs.PlaceLemmas.{IsAt-within}
use Rattle.hg_history.proofs.absorb.nodes_from.Goals as goal
use Rattle.hg_history.proofs.absorb.nodes_from.Goals.{in-Some+in_ok-push-in-Some, in-None}

pub loop-place-preserved : goal.loop-place-preserved
loop-place-preserved c =
    let ns = nodes c.args.graph.now in
    let from = c.args.from in
    let p = c.loop-place.place in
    let within : p < length c.args.graph.now = omega (arith, c.loop-place-test.true, c.len-place-end.ensures.len) in
    let in_nodes : p < length ns = omega (arith, within, length-map c.args.graph.now node_of) in
    let le : from ≤ p = c.loop-place.invariant.0 in
    let at = IsAt-within c.args.graph.now p within in (
      omega arith,
      elim c.match-node_at.branch [
        | in-Some+in_ok-push-in-Some w ↦
            let n = w.in-Some.node in
            let more : take (p + 1) ns ≡ take p ns ++ n ∷ [] =
            take_more ns p n in_nodes
            ∙ ap (λ x. take p ns ++ x ∷ []) (get_or_from_slice_get ns p n n (sym w.in-Some.ensures)) in
            let room : from ≤ length (take p ns) = omega (arith, le, in_nodes, length-take p ns) in
            ap (λ v. v.items) w.found-is ∙ w.in_ok-push-in-Some.ensures.ok
            ∙ ap (λ xs. xs ++ n ∷ []) c.loop-place.invariant.1
            ∙ sym (drop-append-le from (take p ns) (n ∷ []) room) ∙ ap (drop from) (sym more)
        | in-None w ↦ absurd (none-some at.0 (w.in-None.ensures ∙ at.1))
      ],
    )

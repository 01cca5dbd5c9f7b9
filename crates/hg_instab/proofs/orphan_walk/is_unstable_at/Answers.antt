use Rattle.std.proofs.Common.{◌≡◌, Some, List, slice_get, true≢false, inl, inr, sym, ap, subst, ◌∙◌}
use Rattle.std.proofs.lemmas.Option.{same_Some}
use Rattle.hg_changeset.specs.Contents.{Contents}
use Rattle.hg_graph.specs.Graph.{nodes}
use Rattle.hg_graph.specs.Places.{IsAt}
use Rattle.hg_phases.specs.State.{changesets}
use Rattle.hg_replica.specs.Content.{content_of}
use Rattle.hg_replica.specs.Evolution.{IsObsolete}
use Rattle.hg_instab.specs.Changed.{IsNow}
use Rattle.hg_instab.proofs.orphan_walk.is_unstable_at.Goals as goal

pub returns-else-is_obsolete_at : goal.returns-else-is_obsolete_at
returns-else-is_obsolete_at c =
    let s = c.args.replica.now in
    let node = c.in-Some-node_at.node in
    let place = c.in-Some.place in
    let at : IsAt (changesets s.history) node place =
    subst (λ (cs : List Contents). slice_get (nodes cs) place ≡ Some node) c.graph.ensures.graph
    (sym c.node_at.ensures ∙ c.in-Some-node_at.is) in (
      λ t. (place, node, c.in-Some.is, at, inr (c.has_now.ensures.0 t)),
      λ h.
          let place_is : h.0 ≡ place = same_Some h.0 place (sym h.2 ∙ c.in-Some.is) in
          let node_is : h.1 ≡ node = same_Some h.1 node
          (sym h.3 ∙ ap (slice_get (nodes (changesets s.history))) place_is ∙ at) in
          elim h.4 [
            | inl o ↦
                let told = (c.is_obsolete_at.ensures node at).1 (subst (IsObsolete (content_of s)) node_is o) in
                absurd (true≢false (sym told ∙ c.if-is_obsolete_at.false))
            | inr orphan ↦
                c.has_now.ensures.1 (subst (IsNow c.args.orphan.now.keys c.args.turned.now.keys) node_is orphan)
          ],
    )

use Rattle.std.proofs.Common.{◌≡◌, ◌↔◌, ℕ, List, Some, Contains, true≢false, slice_get, sym, subst, ◌∙◌}
use Rattle.hg_changeset.specs.Contents.{Contents}
use Rattle.hg_graph.specs.Graph.{nodes}
use Rattle.hg_graph.specs.Places.{IsParentPlace}
use Rattle.hg_graph.proofs.PlaceLemmas.{placed_within}
use Rattle.hg_phases.specs.State.{changesets}
use Rattle.hg_instab.specs.Changed.{IsNow}
use Rattle.hg_instab.proofs.SettlingLemmas.{children-by_place}
use Rattle.hg_instab.proofs.extinct_walk.is_extinct_now.Goals as goal

pub children-requires : goal.children-requires
children-requires c =
    placed_within c.graph.result.now c.args.node c.args.place
    (subst (λ (cs : List Contents). slice_get (nodes cs) c.args.place ≡ Some c.args.node) (sym c.graph.ensures.graph)
    c.requires)

pub returns-then-is_obsolete_at : goal.returns-then-is_obsolete_at
returns-then-is_obsolete_at c =
    let s = c.args.replica.now in
    let node = c.args.node in
    let place = c.args.place in
    let children = c.children.result.now in
    let exact : (k : ℕ) → Contains children k ↔ IsParentPlace (changesets s.history) k place =
    subst (λ (cs : List Contents). (k : ℕ) → Contains children k ↔ IsParentPlace cs k place) c.graph.ensures.graph
    c.children.ensures.exact in
    let by = children-by_place s c.graph.ensures.valid node place c.requires
    (IsNow c.args.extinct.now.keys c.args.turned.now.keys) children exact in
    let obsolete = c.is_obsolete_at.ensures node c.requires in (
      λ t. (obsolete.0 c.if-is_obsolete_at.true, by.1 (c.are_extinct.ensures.0 t)),
      λ h. c.are_extinct.ensures.1 (by.0 h.1),
    )

pub returns-else-is_obsolete_at : goal.returns-else-is_obsolete_at
returns-else-is_obsolete_at c =
    let obsolete = c.is_obsolete_at.ensures c.args.node c.requires in (
      λ t. absurd (true≢false (sym t ∙ c.if-is_obsolete_at.false)),
      λ h. obsolete.1 h.0,
    )

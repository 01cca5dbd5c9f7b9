use Rattle.std.proofs.Common.{◌≡◌, ◌∷◌, [], sym, subst, List, ℕ, Contains}
use Rattle.hg_changeset.proofs.ListLemmas.{Contains-one}
use Rattle.hg_marker.specs.Fields.{Fields}
use Rattle.hg_marker.specs.Parents.{recorded_parents}
use Rattle.hg_obsstore.specs.Markers.{ArePlaces}
use Rattle.hg_obsstore.proofs.StoreLemmas.{alone_back, places_alike}
use Rattle.hg_obsstore.proofs.store.Store.mentions.Goals as goal

pub returns-clause-predecessor : goal.returns-clause-predecessor
returns-clause-predecessor c =
    let found = c.mentions.result.as_predecessor in
    places_alike (λ m. Contains (m.predecessor ∷ []) c.args.node) (λ m. m.predecessor ≡ c.args.node) c.args.self.now
    found (λ m. Contains-one m.predecessor c.args.node) (λ m. alone_back m.predecessor c.args.node)
    (subst (λ (ms : List Fields). ArePlaces (λ m. Contains (m.predecessor ∷ []) c.args.node) ms found) c.self.view_is
    (subst (λ (ps : List ℕ). ArePlaces (λ m. Contains (m.predecessor ∷ []) c.args.node) c.self.inside.markers.items ps)
    (sym c.mentions.ensures.predecessor) (c.self.invariant.1.predecessor c.args.node)))

pub returns-clause-successor : goal.returns-clause-successor
returns-clause-successor c =
    subst (λ (ms : List Fields). ArePlaces (λ m. Contains m.successors c.args.node) ms
    c.mentions.result.as_successor) c.self.view_is
    (subst (λ (ps : List ℕ). ArePlaces (λ m. Contains m.successors c.args.node) c.self.inside.markers.items ps)
    (sym c.mentions.ensures.successor) (c.self.invariant.1.successor c.args.node))

pub returns-clause-parent : goal.returns-clause-parent
returns-clause-parent c =
    subst (λ (ms : List Fields). ArePlaces (λ m. Contains (recorded_parents m) c.args.node) ms
    c.mentions.result.as_parent) c.self.view_is
    (subst (λ (ps : List ℕ). ArePlaces (λ m. Contains (recorded_parents m) c.args.node) c.self.inside.markers.items ps)
    (sym c.mentions.ensures.parent) (c.self.invariant.1.child c.args.node))

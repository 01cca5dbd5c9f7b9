use Rattle.std.proofs.Common.{◌≡◌, ◌↔◌, ◌⊎◌, ◌++◌, ℕ, List, Contains, ap, subst, ◌∙◌}
use Rattle.hg_changeset.specs.declared.node.Node.{Node}
use Rattle.hg_marker.specs.Fields.{Fields}
use Rattle.hg_instab.specs.Walk.{IsOfOneAt}
use Rattle.hg_instab.proofs.SeedLemmas.{seeds-found}
use Rattle.hg_instab.proofs.seeds.seeds.Goals as goal

pub returns : goal.returns
returns c =
    let added : c.extend_from_slice.new.self.items ≡ c.args.change.now.added =
    c.in_ok-extend_from_slice.ensures.items ∙ ap (λ xs. xs ++ c.deref.result.now) c.new-found.ensures.items
    ∙ c.deref.ensures ∙ ap (λ x. x.added) c.change.view_is in
    let moved : c.extend_from_slice-2.new.self.items ≡ c.args.change.now.added ++ c.args.change.now.lowered =
    c.in_ok-extend_from_slice-2.ensures.items ∙ ap (λ xs. xs ++ c.deref-2.result.now) added
    ∙ ap (λ xs. c.args.change.now.added ++ xs) (c.deref-2.ensures.value ∙ ap (λ x. x.lowered) c.change.view_is) in
    let places : c.deref-3.result.now ≡ c.args.change.now.markers =
    c.deref-3.ensures ∙ ap (λ x. x.markers) c.change.view_is in
    let members : (n : Node) → Contains c.add_rewritten.new.found.items n
    ↔ (Contains c.extend_from_slice-2.new.self.items n
    ⊎ IsOfOneAt (λ m x. m.predecessor ≡ x) c.args.replica.now.markers c.args.change.now.markers n) =
    λ n. subst (λ (ms : List Fields). Contains c.add_rewritten.new.found.items n
    ↔ (Contains c.extend_from_slice-2.new.self.items n
    ⊎ IsOfOneAt (λ m x. m.predecessor ≡ x) ms c.args.change.now.markers n))
    c.store.ensures
    (subst (λ (ps : List ℕ). Contains c.add_rewritten.new.found.items n
    ↔ (Contains c.extend_from_slice-2.new.self.items n
    ⊎ IsOfOneAt (λ m x. m.predecessor ≡ x) c.store.result.now ps n)) places
    (c.in_ok-add_rewritten.ensures n)) in
    seeds-found c.args.replica.now.markers c.args.change.now c.extend_from_slice-2.new.self.items
    c.add_rewritten.new.found.items moved members

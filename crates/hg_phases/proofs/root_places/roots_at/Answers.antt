use Rattle.std.proofs.Common.{◌↔◌, ℕ, List, Contains, sym, subst}
use Rattle.hg_phases.specs.RootPlaces.{IsRootPlace}
use Rattle.hg_phases.proofs.root_places.roots_at.Goals as goal

pub roots_listed-requires-clause-all : goal.roots_listed-requires-clause-all
roots_listed-requires-clause-all c p =
    let waits = c.in_ok-queue.ensures.answer p in
    let root = c.requires.rooted.up_to_date p in
    let told = c.places.ensures p in
    subst (λ (ks : List ℕ). Contains ks p ↔ IsRootPlace c.args.graph.now c.args.phases.now p) (sym c.as_set.ensures)
    (λ h. root.0 (told.0 (waits.0 h)), λ is. waits.1 (told.1 (root.1 is)))

use Rattle.std.proofs.Common.{subst, ◌≤◌, ◌<◌, length}
use Rattle.hg_obsstore.specs.Places.{ListsAll}
use Rattle.hg_obsstore.proofs.store.Store.add_and_tell.Goals as goal

pub returns-clause-places : goal.returns-clause-places
returns-clause-places c =
    let places = c.in_ok-places.places.items in
    subst (λ b. ListsAll (λ i. (length c.args.self.now ≤ i) × (i < b)) places) c.len.ensures
    (subst (λ a. ListsAll (λ i. (a ≤ i) × (i < c.len.result)) places) c.len-before.ensures
    c.in_ok-places.ensures.places)

use Rattle.std.proofs.Common.{◌≡◌, Some}
use Rattle.std.proofs.lemmas.Result.{on_ok_weaker}
use Rattle.hg_graph.specs.Places.{IsParentPlace}
use Rattle.hg_graph.proofs.QueueLemmas.{widens-then}
use Rattle.hg_graph.proofs.place_queue.PlaceQueue.insert_parents.Goals as goal

pub returns : goal.returns
returns c =
    let parents = c.parent_places-parents.result in
    on_ok_weaker c.insert_some-2.result
    (widens-then (λ k. parents.first ≡ Some k) (λ k. parents.second ≡ Some k) (IsParentPlace c.args.graph.now
    c.args.place) c.args.self.now c.insert_some.new.self c.insert_some-2.new.self c.parent_places-parents.ensures.places
    c.in_ok-insert_some.ensures) c.insert_some-2.ensures

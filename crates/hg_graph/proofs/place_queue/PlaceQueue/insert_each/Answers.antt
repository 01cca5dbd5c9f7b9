use Rattle.std.proofs.Common.{ℕ, List, [], Contains, subst}
use Rattle.std.proofs.lemmas.List.{take_all}
use Rattle.hg_changeset.proofs.ListLemmas.{Contains-none}
use Rattle.hg_graph.specs.Waiting.{Widens}
use Rattle.hg_graph.proofs.QueueLemmas.{widens-none, places-more}
use Rattle.hg_graph.proofs.place_queue.PlaceQueue.insert_each.Goals as goal

pub loop-place-init : goal.loop-place-init
loop-place-init c = widens-none (Contains []) c.args.self.now (λ k. Contains-none k)

pub loop-place-preserved : goal.loop-place-preserved
loop-place-preserved c =
    places-more c.args.places.now c.loop-place.place-index 0 c.args.self.now c.loop-place.self c.insert.new.self
    c.loop-place-test.true c.loop-place.invariant c.in_ok-insert.ensures

pub returns : goal.returns
returns c =
    subst (λ (ks : List ℕ). Widens (Contains ks) c.args.self.now c.loop-place.self)
    (take_all c.loop-place.place-index c.args.places.now c.loop-place-test.false) c.loop-place.invariant

use Rattle.std.proofs.Common.{◌≡◌, Some, sym, ap, ◌∙◌}
use Rattle.std.proofs.lemmas.Option.{same_Some}
use Rattle.std.proofs.lemmas.Result.{on_ok_weaker}
use Rattle.hg_graph.proofs.QueueLemmas.{widens-same}
use Rattle.hg_graph.proofs.place_queue.PlaceQueue.insert_some.Goals as goal

pub returns-in-Some : goal.returns-in-Some
returns-in-Some c =
    let place = c.in-Some.place in
    on_ok_weaker c.insert.result
    (widens-same (λ k. place ≡ k) (λ k. c.args.place ≡ Some k) c.args.self.now c.insert.new.self
    (λ k. (λ e. same_Some place k (sym c.in-Some.is ∙ e), λ e. c.in-Some.is ∙ ap (λ j. Some j) e))) c.insert.ensures

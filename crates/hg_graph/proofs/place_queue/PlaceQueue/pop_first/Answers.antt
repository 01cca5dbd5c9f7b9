use Rattle.std.proofs.Common.{List, ℕ, Contains, subst}
use Rattle.hg_graph.specs.Waiting.{TakesFirst}
use Rattle.hg_graph.proofs.QueueLemmas.{took-first}
use Rattle.hg_graph.proofs.place_queue.PlaceQueue.pop_first.Goals as goal

pub returns : goal.returns
returns c =
    let before = c.self.inside.places.keys in
    subst (λ (old : List ℕ). TakesFirst (Contains old) c.pop_first.new.self.keys c.pop_first.result) c.self.view_is
    (took-first c.pop_first.result before c.pop_first.new.self.keys c.pop_first.ensures.variant
    c.pop_first.ensures.removal c.pop_first.ensures.all_above)

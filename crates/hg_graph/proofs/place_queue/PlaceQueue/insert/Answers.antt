use Rattle.std.proofs.Common.{List, ℕ, ◌≡◌, subst}
use Rattle.std.proofs.lemmas.Cmp.{nat_cmp_total}
use Rattle.std.proofs.lemmas.Map.Lookups.{exact_unsigned}
use Rattle.hg_graph.specs.Waiting.{Widens}
use Rattle.hg_graph.proofs.WalkLemmas.{inserted}
use Rattle.hg_graph.proofs.place_queue.PlaceQueue.insert.Goals as goal

pub returns : goal.returns
returns c =
    subst (λ (old : List ℕ). Widens (λ k. c.args.place ≡ k) old c.insert.new.self.keys) c.self.view_is
    (inserted nat_cmp_total exact_unsigned c.self.inside.places c.insert.new.self c.args.place
    c.in_ok-insert.ensures.updates)

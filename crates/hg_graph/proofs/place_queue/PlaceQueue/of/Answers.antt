use Rattle.std.proofs.Common.{List, ℕ, Contains, ◌↔◌, sym, subst, ◌∙◌}
use Rattle.std.proofs.lemmas.Cmp.{nat_cmp_total}
use Rattle.std.proofs.lemmas.Iterator.{YieldsList-from_slice, items_from_drains}
use Rattle.std.proofs.lemmas.Iterator.Consumers.{YieldsList-at, YieldsList-from_copied}
use Rattle.std.proofs.lemmas.List.{map-id}
use Rattle.std.proofs.lemmas.Map.Lookups.{exact_unsigned}
use Rattle.hg_graph.proofs.WalkLemmas.{collected}
use Rattle.hg_graph.proofs.place_queue.PlaceQueue.of.Goals as goal

pub returns-clause-answer : goal.returns-clause-answer
returns-clause-answer c =
    let (xs, drains, made) = c.in_ok-places.ensures.ran in
    let yields = YieldsList-from_copied
    (YieldsList-at c.copied.ensures.source (YieldsList-from_slice c.args.places.now c.iter.ensures.rest)) in
    let all = sym (map-id xs) ∙ items_from_drains xs drains yields in
    λ k. subst (λ (ys : List ℕ). Contains c.in_ok-places.places.keys k ↔ Contains ys k) all
    (collected nat_cmp_total exact_unsigned xs c.in_ok-places.places made k)

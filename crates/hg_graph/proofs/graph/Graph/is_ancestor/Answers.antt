use Rattle.std.proofs.Common.{refl}
use Rattle.hg_graph.proofs.PlaceLemmas.{placed_within, Holds-reached, Holds-reaching}
use Rattle.hg_graph.proofs.graph.Graph.is_ancestor.Goals as goal

pub is_ancestor_place-requires-clause-low : goal.is_ancestor_place-requires-clause-low
is_ancestor_place-requires-clause-low c = placed_within c.args.self.now c.args.ancestor c.in-Some.low
    ((c.in-Some.ensures.place c.in-Some.low).1 refl)

pub is_ancestor_place-requires-clause-high : goal.is_ancestor_place-requires-clause-high
is_ancestor_place-requires-clause-high c = placed_within c.args.self.now c.args.node c.in-Some-place.high
    ((c.in-Some-place.ensures.place c.in-Some-place.high).1 refl)

pub returns-in-None-clause-answer : goal.returns-in-None-clause-answer
returns-in-None-clause-answer c = (λ e. cc, λ r. absurd (c.in-None.ensures.place (Holds-reaching c.args.self.now r)))

pub returns-in-None-place-clause-answer : goal.returns-in-None-place-clause-answer
returns-in-None-place-clause-answer c =
    (λ e. cc, λ r. absurd (c.in-None-place.ensures.place (Holds-reached c.args.self.now r)))

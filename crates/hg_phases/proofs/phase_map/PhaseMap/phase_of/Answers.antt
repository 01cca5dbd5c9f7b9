use Rattle.std.proofs.Common.{subst, refl, arith}
use Rattle.std.proofs.lemmas.List.{length-map}
use Rattle.std.proofs.lemmas.Option.{slice_get_within}
use Rattle.hg_changeset.specs.Changeset.{node_of}
use Rattle.hg_graph.specs.Graph.{Holds as GraphHolds, nodes}
use Rattle.hg_phases.proofs.PlaceLemmas.{changesets-held_of, phase_at}
use Rattle.hg_phases.proofs.phase_map.PhaseMap.phase_of.Goals as goal

pub at-requires-clause-within : goal.at-requires-clause-within
at-requires-clause-within c =
    let cs = c.args.graph.now in
    let at = (c.in-Some.ensures.place c.in-Some.place).1 refl in
    omega (arith, slice_get_within (nodes cs) c.in-Some.place c.args.node at, length-map cs node_of)

pub returns-in-Some : goal.returns-in-Some
returns-in-Some c =
    let at = (c.in-Some.ensures.place c.in-Some.place).1 refl in
    phase_at c.args.graph.now c.args.self.now c.args.node c.in-Some.place c.at.result at c.at.ensures

pub returns-in-None : goal.returns-in-None
returns-in-None c held =
    c.in-None.ensures.place
    (subst (λ cs. GraphHolds cs c.args.node) (changesets-held_of c.args.graph.now c.args.self.now c.requires) held)

use Rattle.std.proofs.Common.{refl, inl, inr, ◌∙◌, arith}
use Rattle.std.proofs.lemmas.List.{length-map}
use Rattle.std.proofs.lemmas.Option.{slice_get_within}
use Rattle.std.proofs.lemmas.Result.{on_ok_weaker, on_err_weaker}
use Rattle.hg_changeset.specs.Changeset.{node_of}
use Rattle.hg_graph.specs.Graph.{nodes}
use Rattle.hg_phases.specs.State.{state_of}
use Rattle.hg_phases.proofs.PlaceLemmas.{above_at}
use Rattle.hg_phases.proofs.LawLemmas.{least-valid}
use Rattle.hg_phases.proofs.phase_map.PhaseMap.lower_logged.Goals as goal

pub lower_at-requires-clause-within : goal.lower_at-requires-clause-within
lower_at-requires-clause-within c =
    let cs = c.args.graph.now in
    let at = (c.in-Some.ensures.place c.in-Some.place).1 refl in
    omega (arith, slice_get_within (nodes cs) c.in-Some.place c.args.node at, length-map cs node_of, c.requires.len)

pub returns-in-Some-clause-valid : goal.returns-in-Some-clause-valid
returns-in-Some-clause-valid c =
    let at = (c.in-Some.ensures.place c.in-Some.place).1 refl in
    on_ok_weaker c.lower_at.result (λ least. least-valid _ _ _ (least c.args.node at) c.requires.valid)
    c.lower_at.ensures.least

pub returns-in-Some-clause-memory : goal.returns-in-Some-clause-memory
returns-in-Some-clause-memory c =
    let at = (c.in-Some.ensures.place c.in-Some.place).1 refl in
    on_err_weaker c.lower_at.result (above_at _ _ _ _ _ at) c.lower_at.ensures.memory

pub returns-in-Some-clause-still : goal.returns-in-Some-clause-still
returns-in-Some-clause-still c =
    let at = (c.in-Some.ensures.place c.in-Some.place).1 refl in
    elim c.lower_at.ensures.still [
      | inl above ↦ inl (above_at c.args.graph.now c.args.self.now c.args.node c.in-Some.place c.args.phase at above)
      | inr same ↦ inr (same.0, same.1 ∙ c.log.view_is)
    ]

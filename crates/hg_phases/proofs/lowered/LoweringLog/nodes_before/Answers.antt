use Rattle.std.proofs.Common.{sym, ap, subst, ◌∙◌}
use Rattle.std.specs.List.{flat_map}
use Rattle.std.proofs.lemmas.Result.{IfOk-weaker}
use Rattle.hg_graph.specs.Graph.{nodes}
use Rattle.hg_phases.specs.State.{state_of}
use Rattle.hg_phases.specs.Log.{node_before}
use Rattle.hg_phases.specs.Lowered.{ListsLowered}
use Rattle.hg_phases.proofs.LoweredLemmas.{lowered_are}
use Rattle.hg_phases.proofs.lowered.LoweringLog.nodes_before.Goals as goal

pub returns-clause-lowered : goal.returns-clause-lowered
returns-clause-lowered c =
    let cs = c.args.graph.now in
    IfOk-weaker c.nodes_of.result _ _ (λ found told phase start now graph logged.
    subst (ListsLowered _ (state_of cs now))
    (sym (told ∙ ap (flat_map (node_before (nodes cs) c.args.before)) (c.as_slice.ensures ∙ c.self.view_is)))
    (lowered_are _ _ _ _ _ _ graph logged)) c.nodes_of.ensures.nodes

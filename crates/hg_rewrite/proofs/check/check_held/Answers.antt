use Rattle.std.proofs.Common.{[], get_or, refl, arith, true≢false, sym, subst, ◌∙◌}
use Rattle.hg_graph.specs.Graph.{Holds as GraphHolds}
use Rattle.hg_rewrite.specs.declared.refusal.Refusal.TheVariants.{Unknown}
use Rattle.hg_rewrite.specs.Refusals.{unknown}
use Rattle.hg_rewrite.proofs.RowLemmas.{none_more, first_next, none_of_all}
use Rattle.hg_rewrite.proofs.check.check_held.Goals as goal

pub returns-then-not-contains-clause-answer : goal.returns-then-not-contains-clause-answer
returns-then-not-contains-clause-answer c =
    let ns = c.args.nodes.now in
    let i = c.loop-node.node-index in
    first_next (unknown c.args.replica.now.history) ns i (record { 0 = [] })
    (Unknown (get_or ns i (record { 0 = [] }))) (omega arith) c.loop-node.invariant (
      (λ held. true≢false
          (sym (c.contains.ensures.1 (subst (λ cs. GraphHolds cs (get_or ns i (record { 0 = [] })))
          (sym c.graph-graph.ensures.graph) held)) ∙ c.if-not-contains.true)),
      refl,
    )

pub loop-node-preserved : goal.loop-node-preserved
loop-node-preserved c =
    none_more (unknown c.args.replica.now.history) c.args.nodes.now c.loop-node.node-index (record { 0 = [] })
    (omega arith) c.loop-node.invariant
    (λ r. r.1.0 (subst (λ cs. GraphHolds cs (get_or c.args.nodes.now c.loop-node.node-index
    (record { 0 = [] }))) c.graph-graph.ensures.graph (c.contains.ensures.0 c.if-not-contains.false)))

pub returns-clause-answer : goal.returns-clause-answer
returns-clause-answer c = none_of_all (unknown c.args.replica.now.history) c.args.nodes.now c.loop-node.node-index
    (omega arith) c.loop-node.invariant

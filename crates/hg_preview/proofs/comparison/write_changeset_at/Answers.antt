use Rattle.std.proofs.Common.{◌≡◌, ◌∙◌, List, ap, subst, sym, true≢false}
use Rattle.hg_changeset.specs.Contents.{Contents}
use Rattle.hg_graph.specs.Graph.{Holds as GraphHolds}
use Rattle.hg_phases.specs.State.{Holds, changesets}
use Rattle.hg_replica.specs.State.{ReplicaState}
use Rattle.hg_preview.proofs.ComparisonLemmas.{line_where, no_line_where}
use Rattle.hg_preview.proofs.comparison.write_changeset_at.Goals as goal

pub returns-then-contains : goal.returns-then-contains
returns-then-contains g c =
    let lacking = c.args.lacking.now.kept.now in
    let node = c.node_at-node.result in
    let held : c.graph.result.now ≡ changesets lacking.replica.history =
    c.graph.ensures.graph ∙ ap (λ (t : ReplicaState). changesets t.history) c.replica.ensures.replica in
    let P : List Contents → Type 0 = λ cs. GraphHolds cs node in
    no_line_where c.args.having.now.kept.now c.args.place (λ n. ¬ (Holds lacking.replica.history n)) node _
    c.node_at-node.ensures (λ lacks. lacks (subst P held (c.contains.ensures.0 c.if-contains.true)))

pub returns : goal.returns
returns g c =
    let lacking = c.args.lacking.now.kept.now in
    let node = c.node_at-node.result in
    let held : c.graph.result.now ≡ changesets lacking.replica.history =
    c.graph.ensures.graph ∙ ap (λ (t : ReplicaState). changesets t.history) c.replica.ensures.replica in
    let P : List Contents → Type 0 = λ cs. GraphHolds cs node in
    let written = c.in_ok-write_line.ensures.written in
    line_where c.args.having.now.kept.now c.args.place (λ n. ¬ (Holds lacking.replica.history n)) node _ _
    c.node_at-node.ensures
    (λ holds. true≢false (sym (c.contains.ensures.1 (subst P (sym held) holds)) ∙ c.if-contains.false))
    (written.0, (c.push_named.new.line.items, c.in_ok-push_named.ensures, written.1), written.2)

use Rattle.std.proofs.Common.{true≢false, sym, subst, ◌∙◌, List, IsTrue, ◌↔◌}
use Rattle.hg_changeset.specs.Contents.{Contents}
use Rattle.hg_changeset.proofs.ListLemmas.{on_err_anyway}
use Rattle.hg_graph.specs.Graph.{Holds}
use Rattle.hg_history.proofs.ContentLemmas.{content-node, node_in_content}
use Rattle.hg_rewrite.proofs.ListLemmas.{not_true, not_untrue}
use Rattle.hg_rewrite.proofs.query.is_hidden.Goals as goal

pub returns-then-not-contains-clause-answer : goal.returns-then-not-contains-clause-answer
returns-then-not-contains-clause-answer c =
    let s = c.args.replica.now in
    let told = subst (λ (ds : List Contents). IsTrue c.contains.result ↔ Holds ds c.args.node)
    c.graph-graph.ensures.graph c.contains.ensures in (
      (λ no. absurd (true≢false (sym no))),
      (λ hidden. absurd (true≢false
          (sym (told.1 (node_in_content s.history c.graph-graph.ensures.valid.graph c.args.node hidden.0))
          ∙ c.if-not-contains.true))),
    )

pub returns-clause-answer : goal.returns-clause-answer
returns-clause-answer c =
    let s = c.args.replica.now in
    let told = subst (λ (ds : List Contents). IsTrue c.contains.result ↔ Holds ds c.args.node)
    c.graph-graph.ensures.graph c.contains.ensures in
    let held = content-node s.history c.graph-graph.ensures.valid.graph c.args.node (told.0 c.if-not-contains.false) in
    let is = c.in_ok-is_visible.ensures.answer in (
      (λ t. (held, λ v. not_true c.in_ok-is_visible.is_visible t (is.1 v))),
      (λ hidden. not_untrue c.in_ok-is_visible.is_visible (λ t. hidden.1 (is.0 t))),
    )

pub returns-in_err-is_visible-clause-memory : goal.returns-in_err-is_visible-clause-memory
returns-in_err-is_visible-clause-memory c = on_err_anyway c.from_residual.result _ c.in_err-is_visible.ensures.memory.0

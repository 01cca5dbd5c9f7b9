use Rattle.std.proofs.Common.{true≢false, refl, sym, subst, List}
use Rattle.hg_changeset.specs.Contents.{Contents}
use Rattle.hg_graph.specs.Graph.{Holds}
use Rattle.hg_graph.specs.Places.{IsAt}
use Rattle.hg_history.proofs.ContentLemmas.{node_in_content}
use Rattle.hg_instab.proofs.query.is_obsolete.Goals as goal

pub returns-in-Some : goal.returns-in-Some
returns-in-Some c = c.is_obsolete_at.ensures c.args.node
    (subst (λ (cs : List Contents). IsAt cs c.args.node c.in-Some.place) c.graph.ensures.graph
    ((c.in-Some.ensures.place c.in-Some.place).1 refl))

pub returns-in-None : goal.returns-in-None
returns-in-None c = (
  λ t. absurd (true≢false (sym t)),
  λ h. absurd (c.in-None.ensures.place
      (subst (λ (cs : List Contents). Holds cs c.args.node) (sym c.graph.ensures.graph)
      (node_in_content c.args.replica.now.history c.graph.ensures.valid.graph c.args.node (h.0.0, h.0.1)))),
)

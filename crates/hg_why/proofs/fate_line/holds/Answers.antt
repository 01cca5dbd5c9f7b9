use Rattle.std.proofs.Common.{◌↔◌, IsTrue, List, subst}
use Rattle.hg_changeset.specs.Contents.{Contents}
use Rattle.hg_graph.specs.Graph.{Holds}
use Rattle.hg_phases.specs.State.{changesets}
use Rattle.hg_history.proofs.ContentLemmas.{content-node, node_in_content}
use Rattle.hg_why.proofs.fate_line.holds.Goals as goal

pub returns : goal.returns
returns c =
    let history = c.args.replica.now.history in
    let graph = c.graph.ensures.valid.graph in
    let n = c.args.node in
    let told : IsTrue c.contains.result ↔ Holds (changesets history) n =
    subst (λ (cs : List Contents). IsTrue c.contains.result ↔ Holds cs n) c.graph.ensures.graph c.contains.ensures in
    (λ h. content-node history graph n (told.0 h), λ h. told.1 (node_in_content history graph n h))

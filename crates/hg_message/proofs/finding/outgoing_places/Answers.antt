use Rattle.std.proofs.Common.{◌↔◌, Bool, List, length, sym, ap, subst, arith, ◌∙◌}
use Rattle.std.proofs.lemmas.Result.{IfOk-weaker}
use Rattle.hg_changeset.specs.declared.node.Node.{Node}
use Rattle.hg_changeset.specs.Contents.{Contents}
use Rattle.hg_changeset.proofs.ListLemmas.{slice_get_some}
use Rattle.hg_graph.specs.Graph.{IsAncestorOfOne}
use Rattle.hg_graph.specs.Marks.{IsMarkedNode}
use Rattle.hg_graph.proofs.MarkLemmas.{IsMarked-within}
use Rattle.hg_phases.specs.State.{changesets}
use Rattle.hg_replica.specs.Content.{content_of}
use Rattle.hg_message.specs.Offer.{IsNamed}
use Rattle.hg_message.proofs.OfferLemmas.{outgoing-marked}
use Rattle.hg_message.proofs.finding.outgoing_places.Goals as goal

pub marked_but-requires : goal.marked_but-requires
marked_but-requires c =
    ap length c.deref.ensures.value
    ∙ c.in_ok-known.ensures.len
    ∙ ap length c.graph-graph.ensures.graph
    ∙ sym c.requires.len

pub returns-clause-places : goal.returns-clause-places
returns-clause-places c =
    let s = c.args.replica.now in
    let cs = changesets s.history in
    let common = c.args.common.now in
    let known = c.deref.result.now in
    let is_known : (n : Node) → IsMarkedNode cs known n ↔ IsAncestorOfOne cs common n =
    subst (λ (ms : List Bool). (n : Node) → IsMarkedNode cs ms n ↔ IsAncestorOfOne cs common n)
    (sym c.deref.ensures.value)
    (subst (λ (ds : List Contents). (n : Node) → IsMarkedNode ds c.in_ok-known.known.items n
    ↔ IsAncestorOfOne ds common n) c.graph-graph.ensures.graph c.in_ok-known.ensures.marked) in
    IfOk-weaker c.marked_but.result _ _
    (λ found listed pins scope are.
    let told = outgoing-marked s c.graph-graph.ensures.valid (IsNamed (content_of s) pins scope) common
    c.requires.common c.args.named.now known are.exact is_known in
    record {
      ascending = listed.ascending;
      exact = λ i. (
        λ h.
            let q = (listed.exact i).0 h in
            let there = slice_get_some cs i (omega
            (arith, IsMarked-within 0 c.args.named.now i q.0, c.requires.len)) in
            (there.0, there.1, (told i there.0 there.1).0 q),
        λ out. (listed.exact i).1 ((told i out.0 out.1).1 out.2),
      );
    })
    c.marked_but.ensures

use Rattle.std.proofs.Common.{true≢false, sym, subst, ◌∙◌, List, IsTrue, ◌↔◌}
use Rattle.hg_changeset.specs.Contents.{Contents}
use Rattle.hg_graph.specs.Graph.{Holds}
use Rattle.hg_view.proofs.ShownLemmas.{shown-visible}
use Rattle.hg_view.proofs.shown.is_visible.Goals as goal

pub returns-then-not-counts_as_obsolete-clause-answer : goal.returns-then-not-counts_as_obsolete-clause-answer
returns-then-not-counts_as_obsolete-clause-answer c =
    let s = c.args.replica.now in
    let are = shown-visible s c.graph.ensures.valid c.args.pins.now c.args.node
    (λ is. true≢false (sym (c.counts_as_obsolete.ensures.1 is) ∙ c.if-not-counts_as_obsolete.true)) in
    let told = subst (λ (ds : List Contents). IsTrue c.contains.result ↔ Holds ds c.args.node) c.graph.ensures.graph
    c.contains.ensures in
    (λ t. are.0 (told.0 t), λ v. told.1 (are.1 v))

pub has_shown-requires : goal.has_shown-requires
has_shown-requires c = c.counts_as_obsolete.ensures.0 c.if-not-counts_as_obsolete.false

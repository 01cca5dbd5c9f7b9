use Rattle.std.proofs.Common.{sym, refl, subst, ◌∙◌, Contains}
use Rattle.hg_graph.specs.Graph.{Holds as GraphHolds}
use Rattle.hg_rewrite.proofs.ReadingLemmas.{parents_in-held, parents_in-missing}
use Rattle.hg_rewrite.proofs.query.parents_in.Goals as goal

pub returns-in-Some : goal.returns-in-Some
returns-in-Some c =
    let changeset = c.in-Some.changeset.now in
    c.parents.ensures.parents
    ∙ sym (parents_in-held c.args.replica.now.history c.graph.ensures.valid c.args.node changeset
    (subst (λ cs. Contains cs changeset) c.graph.ensures.graph c.in-Some.ensures.found.0) c.in-Some.ensures.found.1)

pub returns-in-None : goal.returns-in-None
returns-in-None c =
    sym (parents_in-missing c.args.replica.now.history c.args.node
    (λ held. c.in-None.ensures.missing refl (subst (λ cs. GraphHolds cs c.args.node)
    (sym c.graph.ensures.graph) held)))

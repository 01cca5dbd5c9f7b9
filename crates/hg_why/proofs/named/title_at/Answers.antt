use Rattle.std.proofs.Common.{List, Contains, ◌∙◌, refl, sym, subst}
use Rattle.hg_changeset.specs.Contents.{Contents}
use Rattle.hg_graph.specs.Graph.{Holds}
use Rattle.hg_why.proofs.NameLemmas.{title-found, title-missing}
use Rattle.hg_why.proofs.named.title_at.Goals as goal

pub returns-in-Some : goal.returns-in-Some
returns-in-Some c =
    let changeset = c.in-Some.changeset.now in
    c.title_of.ensures
    ∙ title-found c.args.replica.now c.graph.ensures.valid c.args.node changeset
    (subst (λ (cs : List Contents). Contains cs changeset) c.graph.ensures.graph c.in-Some.ensures.found.0)
    c.in-Some.ensures.found.1

pub returns-in-None : goal.returns-in-None
returns-in-None c =
    let n = c.args.node in
    let same = sym c.graph.ensures.graph in
    title-missing c.args.replica.now c.graph.ensures.valid n
    (λ held. c.in-None.ensures.missing refl (subst (λ (cs : List Contents). Holds cs n) same held))

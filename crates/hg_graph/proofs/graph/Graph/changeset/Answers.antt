use Rattle.std.proofs.Common.{refl, subst}
use Rattle.hg_graph.specs.Graph.{nodes, Holds}
use Rattle.hg_graph.specs.Places.{IsAt}
use Rattle.hg_graph.proofs.GraphLemmas.{Contains-from_place, null_not_held}
use Rattle.hg_graph.proofs.PlaceLemmas.{told_found, told_there}
use Rattle.hg_graph.proofs.graph.Graph.changeset.Goals as goal

-- the node stands where it was looked for
at : (c : goal.After-changeset_at) → IsAt c.args.self.now c.args.node c.in-Some.place
at c = (c.in-Some.ensures.place c.in-Some.place).1 refl

pub returns-in-Some-clause-found : goal.returns-in-Some-clause-found
returns-in-Some-clause-found c =
    told_found c.args.self.now c.args.node c.in-Some.place (at c) c.changeset_at.result c.changeset_at.ensures

pub returns-in-Some-clause-missing : goal.returns-in-Some-clause-missing
returns-in-Some-clause-missing c none =
    absurd (told_there c.args.self.now c.args.node c.in-Some.place (at c) c.changeset_at.result c.changeset_at.ensures
    none)

pub returns-in-Some-clause-null : goal.returns-in-Some-clause-null
returns-in-Some-clause-null c null =
    let cs = c.args.self.now in
    let held : Holds cs c.args.node = Contains-from_place (nodes cs) c.in-Some.place c.args.node (at c) in
    absurd (null_not_held cs c.in-Some.ensures.graph (subst (Holds cs) null held))

use Rattle.std.proofs.Common.{sym, ap, ◌∙◌}
use Rattle.hg_phases.specs.State.{changesets}
use Rattle.hg_phases.proofs.PlaceLemmas.{changesets-held_of}
use Rattle.hg_history.proofs.history.History.graph.Goals as goal

pub returns-clause-graph : goal.returns-clause-graph
returns-clause-graph c = sym (changesets-held_of c.self.inside.graph c.self.inside.kept.phases c.self.invariant.0.len)
    ∙ ap changesets c.self.view_is

use Rattle.std.proofs.Common.{sym, ◌∙◌, ap}
use Rattle.hg_marker.specs.Fields.{Fields}
use Rattle.hg_marker.specs.Parents.{parents_of}
use Rattle.hg_marker.proofs.ParentsLemmas.{none_recorded}
use Rattle.hg_marker.proofs.marker.Marker.parents.Goals as goal

pub returns-then-not-self : goal.returns-then-not-self
returns-then-not-self c =
    sym (none_recorded c.self.inside.metadata (sym c.self.invariant.1 ∙ c.if-not-self.true))
    ∙ ap (λ (m : Fields). parents_of m.metadata) c.self.view_is

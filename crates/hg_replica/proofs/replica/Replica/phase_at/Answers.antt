use Rattle.std.proofs.Common.{◌≡◌, ◌≤◌, length, Some, slice_get, MatchOption, subst}
use Rattle.hg_phases.specs.State.{Held}
use Rattle.hg_replica.proofs.replica.Replica.phase_at.Goals as goal

pub returns : goal.returns
returns c =
    subst (λ s. MatchOption c.phase_at.result (length s.history.held ≤ c.args.place)
    (λ phase. (h : Held) × (slice_get s.history.held c.args.place ≡ Some h) × (h.phase ≡ phase))) c.self.view_is
    c.phase_at.ensures

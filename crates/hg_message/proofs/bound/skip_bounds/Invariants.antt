use Rattle.std.proofs.Common.{◌≡◌, ◌-◌, List}
use Rattle.hg_changeset.specs.declared.node.Node.{Node}
use Rattle.hg_phases.specs.declared.phase.Phase.{Phase}
use Rattle.hg_message.specs.Bound.{bound_at}
use Rattle.hg_message.specs.Counted.{counted}
use Rattle.hg_message.proofs.CountedLemmas.{with_front}
use Rattle.hg_message.proofs.bound.skip_bounds.Given as goal

-- some bounds, with what is left to check, are all that there is
abbrev pub invariant-loop : goal.invariant-loop
invariant-loop l = (front : List (Node × Phase))
    × (with_front front (counted (λ _. bound_at l.total) l.counter (l.count - l.counter) l.rest) ≡ counted
    (λ _. bound_at l.total) 0 l.count l.bytes)

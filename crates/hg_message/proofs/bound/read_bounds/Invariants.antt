use Rattle.std.proofs.Common.{◌≡◌, ◌-◌}
use Rattle.hg_message.specs.Counted.{counted}
use Rattle.hg_message.specs.Bound.{bound_at}
use Rattle.hg_message.proofs.CountedLemmas.{with_front}
use Rattle.hg_message.proofs.bound.read_bounds.Given as goal

-- the bounds, with what is left to read, are all that there is
abbrev pub invariant-loop : goal.invariant-loop
invariant-loop l = with_front l.bounds.items (counted (λ _. bound_at l.total) l.counter (l.count - l.counter) l.rest)
    ≡ counted (λ _. bound_at l.total) 0 l.count l.bytes

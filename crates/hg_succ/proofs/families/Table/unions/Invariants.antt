use Rattle.std.proofs.Common.{◌≡◌, take}
use Rattle.std.specs.List.{flat_map}
use Rattle.hg_succ.specs.Answer.{sets_of}
use Rattle.hg_succ.specs.Numbered.{successors_at}
use Rattle.hg_succ.specs.Unions.{choices}
use Rattle.hg_succ.proofs.families.Table.unions.Given as goal

abbrev pub invariant-loop-place : goal.invariant-loop-place
invariant-loop-place l = sets_of l.found.items ≡ flat_map (λ place. choices l.self (successors_at l.markers place))
    (take l.place-index l.places)

use Rattle.std.proofs.Common.{◌≡◌, ◌≤◌, ℕ, take, sum, Contains}
use Rattle.hg_succ.specs.Numbered.{successors_at}
use Rattle.hg_succ.specs.Cover.{NoneOverfull}
use Rattle.hg_succ.specs.Factors.{ways_at}
use Rattle.hg_succ.proofs.families.Table.all_ways.Given as goal
use Rattle.hg_succ.specs.Limits.{union_limit}

abbrev pub invariant-loop-place : goal.invariant-loop-place
invariant-loop-place l = record {
  so_far : ((p : ℕ) → Contains (take l.place-index l.places) p → NoneOverfull l.self (successors_at l.markers p))
      × (l.sum ≡ sum (ways_at l.self l.markers (take l.place-index l.places)));
  few : l.sum ≤ union_limit;
}

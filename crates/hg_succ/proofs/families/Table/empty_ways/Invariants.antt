use Rattle.std.proofs.Common.{◌≡◌, ◌≤◌, take}
use Rattle.hg_succ.specs.Factors.{empties_at}
use Rattle.hg_succ.proofs.families.Table.empty_ways.Given as goal

abbrev pub invariant-loop-place : goal.invariant-loop-place
invariant-loop-place l = record {
  count : l.count ≡ empties_at l.self l.markers (take l.place-index l.places);
  few : l.count ≤ l.place-index;
}

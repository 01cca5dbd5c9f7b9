use Rattle.std.proofs.Common.{◌≡◌, ◌≤◌, length, take}
use Rattle.hg_trial.specs.Differences.{markers_lacked}
use Rattle.hg_trial.proofs.difference.markers_lacked.Given as goal

-- so many of the markers so far are lacking
abbrev pub invariant-loop-marker : goal.invariant-loop-marker
invariant-loop-marker l = record {
  count : l.count ≡ length (markers_lacked l.lacking (take l.marker-index l.markers));
  few : l.count ≤ l.marker-index;
}

use Rattle.std.proofs.Common.{◌≡◌, ◌<◌, length, All}
use Rattle.smallvec.specs.SmallVec.{small_vec_len}
use Rattle.hg_phases.specs.Log.{restored}
use Rattle.hg_phases.specs.RootPlaces.{AreRootPlaces}
use Rattle.hg_phases.proofs.root_places.take_back_logged.Given as goal

abbrev pub invariant-loop-place : goal.invariant-loop-place
invariant-loop-place l = record {
  len : length l.phases ≡ length l.graph;
  within : All (λ e. e.place < length l.graph) l.log.items;
  rest : restored l.phases l.log.items ≡ restored l.fn.phases l.fn.log.items;
  rooted : AreRootPlaces l.graph l.phases l.roots;
}

abbrev pub decreases-loop-place : goal.decreases-loop-place
decreases-loop-place l = small_vec_len l.log

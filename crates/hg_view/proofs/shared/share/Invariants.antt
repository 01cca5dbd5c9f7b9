use Rattle.hg_view.proofs.ShareLemmas.{SharesFirst}
use Rattle.hg_view.proofs.shared.share.Given as goal

abbrev pub invariant-loop-place : goal.invariant-loop-place
invariant-loop-place l = SharesFirst l.replica l.found l.place

use Rattle.std.proofs.Common.{◌≡◌, ◌≤◌, ◌<◌, ℕ, slice_get, Some}
use Rattle.hg_changeset.specs.Contents.{Contents}
use Rattle.hg_view.specs.Common.{IsFree}
use Rattle.hg_discovery.proofs.compared.are_free_from.Given as goal

abbrev pub invariant-loop-place : goal.invariant-loop-place
invariant-loop-place l = (j : ℕ) (c : Contents) → l.from ≤ j → j < l.place → slice_get l.graph j ≡ Some c
    → IsFree c l.other

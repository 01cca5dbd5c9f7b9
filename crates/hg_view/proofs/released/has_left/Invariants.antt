use Rattle.std.proofs.Common.{◌≤◌, ◌<◌, ℕ, get_or, length}
use Rattle.hg_view.specs.Released.{IsLeftAt}
use Rattle.hg_view.proofs.released.has_left.Given as goal

abbrev pub invariant-loop-index : goal.invariant-loop-index
invariant-loop-index l = (i : ℕ) → l.index ≤ i → i < length l.places
    → ¬ (IsLeftAt l.graph l.upheld.keys l.gone.keys (get_or l.places i 0))

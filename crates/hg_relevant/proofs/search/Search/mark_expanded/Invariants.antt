use Rattle.std.proofs.Common.{◌≡◌, ℕ, ◌↔◌, ◌⊎◌, length, take, Contains}
use Rattle.hg_relevant.specs.Search.{IsMarked}
use Rattle.hg_relevant.proofs.search.Search.mark_expanded.Given as goal

abbrev pub invariant-loop-place : goal.invariant-loop-place
invariant-loop-place l = record {
  expanded : (i : ℕ) → IsMarked l.self.expanded.items i
      ↔ (IsMarked l.fn.self.expanded.items i ⊎ Contains (take l.place-index l.places) i);
  marks : length l.self.expanded.items ≡ length l.fn.self.expanded.items;
  found : l.self.found.items ≡ l.fn.self.found.items;
  queue : l.self.queue.items ≡ l.fn.self.queue.items;
}

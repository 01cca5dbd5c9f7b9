use Rattle.std.proofs.Common.{◌≡◌, Some, inl, inr}
use Rattle.std.proofs.lemmas.Result.{on_ok_weaker}
use Rattle.hg_graph.specs.Places.{IsParentPlace}
use Rattle.hg_graph.proofs.QueueLemmas.{widens-then}
use Rattle.hg_view.specs.Released.{IsLeftAt}
use Rattle.hg_view.proofs.released.wait_parents.Goals as goal

pub returns : goal.returns
returns c =
    let cs = c.args.graph.now in
    let left = IsLeftAt cs c.args.upheld.now.keys c.args.gone.now.keys in
    let parents = c.parent_places-parents.result in
    on_ok_weaker c.wait_at-2.result
    (λ w. widens-then (λ k. (parents.first ≡ Some k) × left k) (λ k. (parents.second ≡ Some k) × left k)
    (λ k. IsParentPlace cs c.args.place k × left k) c.args.waiting.now c.wait_at.new.waiting
    c.wait_at-2.new.waiting
    (λ k. let are = c.parent_places-parents.ensures.places k in (
      λ h. elim (are.0 h.0) [ inl e ↦ inl (e, h.1) | inr e ↦ inr (e, h.1) ],
      λ h. elim h [ inl x ↦ (are.1 (inl x.0), x.1) | inr x ↦ (are.1 (inr x.0), x.1) ],
    )) c.in_ok-wait_at.ensures w) c.wait_at-2.ensures

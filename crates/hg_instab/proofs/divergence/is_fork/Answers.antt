use Rattle.std.proofs.Common.{◌≡◌, ℕ, List, length, sym, subst}
use Rattle.std.proofs.lemmas.Bool.{ltb-true, lt-ltb}
use Rattle.hg_marker.specs.Fields.{Fields}
use Rattle.hg_obsstore.specs.Markers.{ArePlaces}
use Rattle.hg_instab.proofs.ForkLemmas.{fork-from_places, places-from_fork}
use Rattle.hg_instab.proofs.divergence.is_fork.Goals as goal

pub returns : goal.returns
returns c =
    let ms = c.args.store.now in
    let node = c.args.node in
    let places = c.as_predecessor.result.now in
    let are = subst (λ (ps : List ℕ). ArePlaces (λ (m : Fields). m.predecessor ≡ node) ms ps)
    (sym c.as_predecessor.ensures) c.mentions.ensures.predecessor in (
      λ t. fork-from_places ms node places are (ltb-true 1 (length places) t),
      λ fork. lt-ltb 1 (length places) (places-from_fork ms node places are fork),
    )

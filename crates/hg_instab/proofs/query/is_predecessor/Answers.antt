use Rattle.std.proofs.Common.{◌≡◌, List, ℕ, subst, sym}
use Rattle.hg_marker.specs.Fields.{Fields}
use Rattle.hg_obsstore.specs.Markers.{ArePlaces}
use Rattle.hg_instab.proofs.QueryLemmas.{told_predecessor}
use Rattle.hg_instab.proofs.query.is_predecessor.Goals as goal

pub returns : goal.returns
returns c =
    let are = subst (λ (ps : List ℕ). ArePlaces (λ (m : Fields). m.predecessor ≡ c.args.node) c.store.result.now ps)
    (sym c.as_predecessor.ensures) c.mentions-mentions.ensures.predecessor in
    told_predecessor c.args.replica.now c.args.node c.store.result.now c.as_predecessor.result.now c.is_empty.result
    c.store.ensures are c.is_empty.ensures

use Rattle.std.proofs.Common.{◌≡◌, ◌+◌, ◌∷◌, drop, sym, ap, ◌∙◌, arith}
use Rattle.std.proofs.lemmas.List.{drop_more}
use Rattle.std.proofs.lemmas.Result.{err_from_is_err_and}
use Rattle.hg_obsstore.specs.Growth.{united}
use Rattle.hg_obsstore.proofs.GrowthLemmas.{next_new}
use Rattle.hg_obsstore.proofs.store.Store.add_copies.Goals as goal

pub returns-in_err-add_copy-clause-memory : goal.returns-in_err-add_copy-clause-memory
returns-in_err-add_copy-clause-memory c =
    let p = err_from_is_err_and c.from_residual.result c.from_residual.ensures.1 in
    let ms = c.args.markers.now in
    let i = c.loop-marker.marker-index in
    let m = c.marker-item.result in
    let rest : drop i ms ≡ m ∷ drop (i + 1) ms =
    drop_more ms i m (omega arith) ∙ ap (λ x. x ∷ drop (i + 1) ms) (sym c.marker-item.is) in
    rw (p.1) (next_new c.args.self.now c.loop-marker.self ms (drop (i + 1) ms) m c.loop-marker.invariant.0
    (ap (united c.loop-marker.self) (sym rest) ∙ c.loop-marker.invariant.1) c.in_err-add_copy.ensures.memory)

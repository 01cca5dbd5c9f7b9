use Rattle.std.proofs.Common.{◌≡◌, ◌∙◌, ap, sym, None}
use Rattle.hg_journal.proofs.StepLemmas.{begins_moves}
use Rattle.hg_journal.proofs.journal.Opened.new.Goals as goal

pub compare_exchange-found-requires : goal.compare_exchange-found-requires
compare_exchange-found-requires g c =
    let first = c.open-seen.ensures in
    let h = c.tracked-head.ensures in
    let pen = c.no_pen-pen.ensures in
    let offer = c.plain-nothing.ensures in
    let nib = first.4 in
    let key : c.tracked-head.result.key ≡ 0 = ap (λ w. w.key) h.0 ∙ ap (λ p. p.key) nib in
    let book : c.tracked-head.result.book ≡ c.open-seen.result.0.book = ap (λ w. w.book) h.0 ∙ first.2 in (
      ap (λ w. w.tracked) h.0,
      sym book,
      pen.0 ∙ sym book,
      offer.0,
      rw (key, pen.1, offer.3, first.1) (begins_moves (None, 0)),
    )

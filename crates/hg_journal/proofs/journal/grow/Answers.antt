use Rattle.std.proofs.Common.{◌∙◌, ap, sym, None}
use Rattle.hg_journal.proofs.StepLemmas.{grows_moves}
use Rattle.hg_journal.proofs.journal.grow.Goals as goal

pub compare_exchange-found-requires : goal.compare_exchange-found-requires
compare_exchange-found-requires g c =
    let h = c.requires.head in
    let pen = c.no_pen-pen.ensures in
    let offer = c.plain-nothing.ensures in (
      ap (λ w. w.tracked) h,
      sym (ap (λ w. w.book) h),
      pen.0 ∙ sym (ap (λ w. w.book) h),
      offer.0,
      rw (ap (λ w. w.key) h, pen.1, offer.3) (grows_moves c.args.seen.now.log (None, 0)),
    )

use Rattle.std.proofs.Common.{sym, ◌∙◌}
use Rattle.std.proofs.lemmas.Bool.{true≢false}
use Rattle.hg_obsstore.proofs.PlaceLemmas.{one_more, no_more}
use Rattle.hg_relevant.specs.Search.{IsMarked}
use Rattle.hg_relevant.proofs.search.marked_places.Goals as goal
use Rattle.hg_relevant.proofs.search.marked_places.Goals.{then-marked+in_ok-push, else-marked}

pub loop-place-preserved : goal.loop-place-preserved
loop-place-preserved c =
    let so_far = c.loop-place.places.items in
    elim c.if-marked.branch [
      | then-marked+in_ok-push w ↦ rw (w.places-is, w.in_ok-push.ensures.items)
          (one_more (IsMarked c.args.marks.now) so_far c.loop-place.place c.loop-place.invariant w.if-marked.true)
      | else-marked w ↦
          rw w.places-is (no_more (IsMarked c.args.marks.now) so_far c.loop-place.place c.loop-place.invariant
          (λ h. true≢false (sym h ∙ w.if-marked.false)))
    ]

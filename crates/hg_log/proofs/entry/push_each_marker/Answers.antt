use Rattle.std.proofs.Common.{List, false, subst, sym, take}
use Rattle.std.specs.Prelude.{codes}
use Rattle.hg_marker.specs.Fields.{Fields}
use Rattle.hg_obsstore.specs.Places.{picked}
use Rattle.hg_obsstore.proofs.PlaceLemmas.{picked-some}
use Rattle.hg_log.specs.Entries.{marker_text}
use Rattle.hg_log.specs.Json.{AreDivided}
use Rattle.hg_log.proofs.JsonLemmas.{divided_more}
use Rattle.hg_log.proofs.entry.push_each_marker.Goals as goal

pub loop-place-preserved : goal.loop-place-preserved
loop-place-preserved c =
    let told = c.in_ok-push_marker.ensures in
    let i = c.loop-place.place-index in
    let store = c.args.store.now in
    let places = c.args.places.now in
    let line = c.push_marker.new.line.items in
    subst (λ (ms : List Fields). AreDivided false (codes ", ") marker_text ms c.args.line.now.items line
    c.push_divider.new.is_behind) (sym (picked-some store places i c.loop-place-test.true told.0 told.1))
    (divided_more false (codes ", ") marker_text (picked store (take i places)) told.0 _ _ _ _ _ _
    c.loop-place.invariant
    c.in_ok-push_divider.ensures.divider told.2 c.in_ok-push_divider.ensures.behind)

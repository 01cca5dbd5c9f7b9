use Rattle.std.proofs.Common.{◌<◌, ℕ, ap, sym, subst, ◌∙◌}
use Rattle.hg_changeset.proofs.ListLemmas.{slice_get_some}
use Rattle.hg_line.proofs.ReportLemmas.{rows_more}
use Rattle.hg_line.proofs.report.rows_by_place.Goals as goal
use Rattle.hg_line.proofs.report.rows_by_place.Goals.{in-Some+in_ok-push-in-Some, in-None}

pub loop-place-preserved : goal.loop-place-preserved
loop-place-preserved c =
    let cs = c.graph-graph.result.now in
    let place = c.loop-place.place in
    elim c.match-changeset_at.branch [
      | in-Some+in_ok-push-in-Some w ↦
          rows_more cs w.in-Some.changeset.now c.loop-place.rows.items c.match-changeset_at.rows.items
          w.last_line.result place (sym w.in-Some.ensures) w.last_line.ensures
          (ap (λ v. v.items) w.rows-is ∙ w.in_ok-push-in-Some.ensures.items) c.loop-place.invariant
      | in-None w ↦
          let within = subst (λ (n : ℕ). place < n) c.len-place-end.ensures.len c.loop-place-test.true in
          let there = slice_get_some cs place within in
          let missing = w.in-None.ensures in
          absurd (cc)
    ]

use Rattle.std.proofs.Common.{◌+◌, ◌-◌, ◌<◌, length, sym, subst, arith, ◌∙◌}
use Rattle.std.proofs.lemmas.Option.{none-some}
use Rattle.hg_graph.specs.Marks.{IsMarked}
use Rattle.hg_graph.proofs.PlaceLemmas.{IsAt-within}
use Rattle.hg_graph.proofs.HeadLemmas.{IsMarkedBefore, AreUnmarked, before_all, before_more, before_same, before_other}
use Rattle.hg_graph.proofs.HeadLemmas.{marked_here, clear_here, unmarked_same, unmarked_push}
use Rattle.hg_graph.proofs.graph.Graph.unmarked.Goals as goal
use Rattle.hg_graph.proofs.graph.Graph.unmarked.Goals.{then-marks-place+then-not-above-place+in-Some+in_ok-insert}
use Rattle.hg_graph.proofs.graph.Graph.unmarked.Goals.{then-marks-place+then-not-above-place+in_default}
use Rattle.hg_graph.proofs.graph.Graph.unmarked.Goals.{else-marks-place}
use Rattle.hg_graph.proofs.graph.Graph.unmarked.Goals.{else-marks-place-via-then-marks-place+else-not-above-place}
use Rattle.hg_graph.proofs.graph.Graph.unmarked.Goals.{else-marks-place-via-else-marks-place}

pub loop-place-preserved : goal.loop-place-preserved
loop-place-preserved c =
    let cs = c.args.self.now in
    let low = c.args.low in
    let marks = c.args.marks.now in
    let above = c.args.above.now in
    let place = c.loop-place.place in
    let from = c.loop-place.auto.place in
    let in_marks : place - low < length marks = omega arith in
    let in_above : place - low < length above = omega arith in
    elim c.if-marks-place.branch [
      | then-marks-place+then-not-above-place+in-Some+in_ok-insert w ↦
          let at = sym w.node_at.ensures ∙ w.in-Some.is in
          let clear = clear_here low above place from in_above w.if-not-above-place.true in
          let more = before_more low marks place from in_marks w.if-marks-place.true in
          let pushed = unmarked_push cs low above (IsMarkedBefore low marks place)
          (IsMarkedBefore low marks (place + 1)) place c.loop-place.found w.insert.new.self w.in-Some.node at clear
          w.in_ok-insert.ensures.updates more c.loop-place.invariant in
          subst (λ f. AreUnmarked cs low above (IsMarkedBefore low marks (place + 1)) f.keys) (sym w.found-is) pushed
      | then-marks-place+then-not-above-place+in_default w ↦
          let n = IsAt-within cs place (omega arith) in
          absurd (none-some n.0 (sym w.in_default.is ∙ w.node_at.ensures ∙ n.1))
      | else-marks-place w ↦ elim w.else-marks-place.branch [
        | else-marks-place-via-then-marks-place+else-not-above-place w' ↦
            let marked = marked_here low above place from in_above w'.if-not-above-place.false in
            subst (λ f. AreUnmarked cs low above (IsMarkedBefore low marks (place + 1)) f.keys) (sym w.found-is)
            (unmarked_same cs low above (IsMarkedBefore low marks place) (IsMarkedBefore low marks (place + 1))
            c.loop-place.found.keys (λ k clear. before_other low marks place k
            (λ e. clear (subst (IsMarked low above) (sym e) marked))) c.loop-place.invariant)
        | else-marks-place-via-else-marks-place w' ↦
            let same = before_same low marks place from in_marks w'.if-marks-place.false in
            subst (λ f. AreUnmarked cs low above (IsMarkedBefore low marks (place + 1)) f.keys) (sym w.found-is)
            (unmarked_same cs low above (IsMarkedBefore low marks place) (IsMarkedBefore low marks (place + 1))
            c.loop-place.found.keys (λ k _. same k) c.loop-place.invariant)
      ]
    ]

pub returns : goal.returns
returns c =
    let cs = c.args.self.now in
    let low = c.args.low in
    let marks = c.args.marks.now in
    let all = before_all low marks c.loop-place.place (omega arith) in
    unmarked_same cs low c.args.above.now (IsMarkedBefore low marks c.loop-place.place) (IsMarked low marks)
    c.loop-place.found.keys (λ k _. all k) c.loop-place.invariant

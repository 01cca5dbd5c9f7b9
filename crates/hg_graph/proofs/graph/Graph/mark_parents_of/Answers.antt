use Rattle.std.proofs.Common.{◌+◌, ◌-◌, ◌<◌, ℕ, length, sym, subst, arith}
use Rattle.hg_graph.specs.Places.{IsParentPlace}
use Rattle.hg_graph.specs.Marks.{IsMarked, MarksAlso}
use Rattle.hg_graph.proofs.MarkLemmas.{MarksAlso-none}
use Rattle.hg_graph.proofs.HeadLemmas.{IsMarkedBefore, before_none, before_all, before_more, before_same, parents_more}
use Rattle.hg_graph.proofs.HeadLemmas.{parents_same}
use Rattle.hg_graph.proofs.graph.Graph.mark_parents_of.Goals as goal
use Rattle.hg_graph.proofs.graph.Graph.mark_parents_of.Goals.{then-marks-place, else-marks-place}

pub loop-place-init : goal.loop-place-init
loop-place-init c = MarksAlso-none c.args.low _ c.args.above.now
    (λ j le l h. before_none c.args.low c.args.marks.now h.0 h.1)

pub loop-place-preserved : goal.loop-place-preserved
loop-place-preserved c =
    let cs = c.args.self.now in
    let low = c.args.low in
    let marks = c.args.marks.now in
    let place = c.loop-place.place in
    let first = c.args.above.now in
    let within : place - low < length marks = omega arith in
    elim c.if-marks-place.branch [
      | then-marks-place w ↦
          let more = before_more low marks place c.loop-place.auto.place within w.if-marks-place.true in
          let also = parents_more cs low (IsMarkedBefore low marks place) (IsMarkedBefore low marks (place + 1)) place
          first c.loop-place.above w.mark_parents.new.marks more c.loop-place.invariant w.mark_parents.ensures in
          subst (MarksAlso low (λ k. (j : ℕ) × IsMarkedBefore low marks (place + 1) j × IsParentPlace cs j k) first)
          (sym w.above-is) also
      | else-marks-place w ↦
          let same = before_same low marks place c.loop-place.auto.place within w.if-marks-place.false in
          let also = parents_same cs low (IsMarkedBefore low marks place) (IsMarkedBefore low marks (place + 1)) first
          c.loop-place.above same c.loop-place.invariant in
          subst (MarksAlso low (λ k. (j : ℕ) × IsMarkedBefore low marks (place + 1) j × IsParentPlace cs j k) first)
          (sym w.above-is) also
    ]

pub returns : goal.returns
returns c =
    let low = c.args.low in
    let marks = c.args.marks.now in
    let place = c.loop-place.place in
    parents_same c.args.self.now low (IsMarkedBefore low marks place) (IsMarked low marks) c.args.above.now
    c.loop-place.above (before_all low marks place (omega arith)) c.loop-place.invariant

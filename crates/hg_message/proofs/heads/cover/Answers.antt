use Rattle.std.proofs.Common.{◌≡◌, ◌+◌, ◌-◌, ◌<◌, ℕ, get_or, true, false, length, sym, subst, arith}
use Rattle.hg_graph.specs.Marks.{IsMarked, MarksAlso}
use Rattle.hg_graph.proofs.MarkLemmas.{MarksAlso-none}
use Rattle.hg_graph.proofs.HeadLemmas.{IsMarkedBefore, before_none, before_all, before_more, before_same}
use Rattle.hg_message.specs.Covered.{IsParentAlike}
use Rattle.hg_message.proofs.CoveredLemmas.{along_more, along_same}
use Rattle.hg_message.proofs.heads.cover.Goals as goal
use Rattle.hg_message.proofs.heads.cover.Goals.{then-named-place, else-named-place}

pub loop-place-init : goal.loop-place-init
loop-place-init c = MarksAlso-none 0 _ c.args.covered.now (λ j le l h. before_none 0 c.args.named.now h.0 h.1)

pub loop-place-preserved : goal.loop-place-preserved
loop-place-preserved c =
    let R = IsParentAlike c.args.replica.now.history in
    let marks = c.args.named.now in
    let place = c.loop-place.place in
    let first = c.args.covered.now in
    let at_zero : place ≡ place - 0 = omega arith in
    let within : place - 0 < length marks = omega arith in
    elim c.if-named-place.branch [
      | then-named-place w ↦
          let mark = subst (λ i. get_or marks i false ≡ true) at_zero w.if-named-place.true in
          let more = before_more 0 marks place (omega arith) within mark in
          let also = along_more R (IsMarkedBefore 0 marks place) (IsMarkedBefore 0 marks (place + 1)) place first
          c.loop-place.covered w.cover_parents.new.covered more c.loop-place.invariant w.cover_parents.ensures in
          subst (MarksAlso 0 (λ k. (j : ℕ) × IsMarkedBefore 0 marks (place + 1) j × R j k) first)
          (sym w.covered-is) also
      | else-named-place w ↦
          let mark = subst (λ i. get_or marks i false ≡ false) at_zero w.if-named-place.false in
          let same = before_same 0 marks place (omega arith) within mark in
          let also = along_same R (IsMarkedBefore 0 marks place) (IsMarkedBefore 0 marks (place + 1)) first
          c.loop-place.covered same c.loop-place.invariant in
          subst (MarksAlso 0 (λ k. (j : ℕ) × IsMarkedBefore 0 marks (place + 1) j × R j k) first)
          (sym w.covered-is) also
    ]

pub returns : goal.returns
returns c =
    let marks = c.args.named.now in
    let place = c.loop-place.place in
    along_same (IsParentAlike c.args.replica.now.history) (IsMarkedBefore 0 marks place) (IsMarked 0 marks)
    c.args.covered.now c.loop-place.covered (before_all 0 marks place (omega arith)) c.loop-place.invariant

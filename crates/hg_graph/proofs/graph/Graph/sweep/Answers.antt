use Rattle.std.proofs.Common.{◌≡◌, ◌<◌, ◌-◌, suc, arith, length, true, false, Some, slice_get, ap, sym, subst, ◌∙◌}
use Rattle.std.proofs.Common.{true≢false}
use Rattle.std.proofs.lemmas.Option.{slice_get-get_or, same_Some}
use Rattle.hg_graph.specs.Marks.{IsMarked}
use Rattle.hg_graph.proofs.MarkLemmas.{IsSwept, IsSwept-start, IsSwept-marked, IsSwept-unmarked, IsSwept-end}
use Rattle.hg_graph.proofs.graph.Graph.sweep.Goals as goal

pub loop-place-init : goal.loop-place-init
loop-place-init c = IsSwept-start c.args.self.now c.requires.graph c.args.low c.args.marks.now c.args.high
    c.requires.window c.requires.within

pub loop-place-preserved-then-marks-place : goal.loop-place-preserved-then-marks-place
loop-place-preserved-then-marks-place c =
    let cs = c.args.self.now in
    let marks = c.loop-place.marks in
    let i = c.loop-place.place - 1 in
    let next : c.loop-place.place ≡ suc i = omega arith in
    let within : (i - c.args.low) < length marks = omega arith in
    let marked : IsMarked c.args.low marks i =
    (omega arith, slice_get-get_or marks (i - c.args.low) false within ∙ ap (λ b. Some b) c.if-marks-place.true) in
    let before : IsSwept cs c.args.low c.args.marks.now (suc i) marks =
    subst (λ k. IsSwept cs c.args.low c.args.marks.now k marks) next c.loop-place.invariant in
    IsSwept-marked cs c.requires.graph c.args.low c.args.marks.now i marks c.mark_parents.new.marks before marked
    c.mark_parents.ensures

pub loop-place-preserved : goal.loop-place-preserved
loop-place-preserved c =
    let cs = c.args.self.now in
    let marks = c.loop-place.marks in
    let i = c.loop-place.place - 1 in
    let next : c.loop-place.place ≡ suc i = omega arith in
    let within : (i - c.args.low) < length marks = omega arith in
    let clear : slice_get marks (i - c.args.low) ≡ Some false = slice_get-get_or marks (i - c.args.low) false within
    ∙ ap (λ b. Some b) c.if-marks-place.false in
    let before : IsSwept cs c.args.low c.args.marks.now (suc i) marks =
    subst (λ k. IsSwept cs c.args.low c.args.marks.now k marks) next c.loop-place.invariant in
    IsSwept-unmarked cs c.requires.graph c.args.low c.args.marks.now i marks before (omega arith)
    (λ m. true≢false (same_Some true false (sym m.1 ∙ clear)))

pub returns : goal.returns
returns c = IsSwept-end c.args.self.now c.requires.graph c.args.low c.args.marks.now c.loop-place.place
    c.loop-place.marks (omega arith) c.loop-place.invariant

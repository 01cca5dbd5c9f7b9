use Rattle.std.proofs.Common.{◌≡◌, ℕ, List, arith, length, subst, ap, ◌∙◌, ◌≤◌, take}
use Rattle.std.specs.Str.Lines.{lines}
use Rattle.hg_changeset.proofs.ListLemmas.{take-drop_rest}
use Rattle.hg_expect.specs.Fronts.{IsLineLong}
use Rattle.hg_expect.proofs.LineLemmas.{front_all, front_lines, next_front}
use Rattle.hg_expect.proofs.lines.first_lines.Goals as goal

pub returns-then-end-text-clause-cut : goal.returns-then-end-text-clause-cut
returns-then-end-text-clause-cut c =
    let all = front_all c.args.text.now c.loop.end c.loop.counter c.loop.invariant.1 c.if-end-text.true in
    omega (arith, all, c.loop-test.true)

pub loop-preserved : goal.loop-preserved
loop-preserved c =
    let text = c.args.text.now in
    let n = c.length_of_line-end.result in
    let line = subst (λ (rest : List ℕ). IsLineLong rest n) (take-drop_rest text c.loop.end)
    c.length_of_line-end.ensures.line in
    let left = ap length (take-drop_rest text c.loop.end) in (
      omega (arith, c.length_of_line-end.ensures.within, left, c.loop.invariant.0),
      next_front text c.loop.end c.loop.counter n c.loop.invariant.1 line,
    )

pub returns-clause-cut : goal.returns-clause-cut
returns-clause-cut c =
    let text = c.args.text.now in
    let done : c.loop.counter ≡ c.args.count = omega (arith, c.loop-test.false, c.loop.auto.counter-end) in
    subst (λ (count : ℕ). (count ≤ length (lines text)) × (lines (take c.loop.end text) ≡ take count (lines text))) done
    (front_lines text c.loop.end c.loop.counter c.loop.invariant.1)

use Rattle.std.proofs.Common.{◌≡◌, ◌+◌, ◌-◌, ◌∷◌, List, ℕ, length, take, drop, sym, ap, ◌∙◌, arith}
use Rattle.std.specs.Str.Lines.{lines}
use Rattle.std.proofs.lemmas.List.{take_all, length-drop}
use Rattle.hg_expect.proofs.LineLemmas.{lines_at_end, line_at_end, nothing_after}
use Rattle.hg_expect.proofs.lines.cut_line.Goals as goal

pub returns-in-Some-clause-lines : goal.returns-in-Some-clause-lines
returns-in-Some-clause-lines c =
    let text = c.args.text.now in
    let i = c.in-Some.end in
    let after : take (length text - (i + 1)) (drop (i + 1) text) ≡ drop (i + 1) text =
    take_all _ _ (omega (arith, length-drop (i + 1) text)) in
    lines_at_end text i (sym c.end_of_line.ensures ∙ c.in-Some.is)
    ∙ ap (λ (l : List ℕ). l ∷ lines (drop (i + 1) text)) (sym c.without_return.ensures)
    ∙ ap (λ (rest : List ℕ). c.without_return.result.now ∷ lines rest) (sym after)

pub returns-in-None-clause-lines : goal.returns-in-None-clause-lines
returns-in-None-clause-lines c =
    let text = c.args.text.now in
    line_at_end text (sym c.end_of_line.ensures ∙ c.in-None.is) c.requires
    ∙ sym (ap (λ (rest : List ℕ). text ∷ lines rest) (nothing_after text))

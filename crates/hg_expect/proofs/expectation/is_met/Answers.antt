use Rattle.std.proofs.Common.{List, sym, ap, ◌∙◌}
use Rattle.std.specs.Str.{bytes_eq}
use Rattle.std.specs.Cmp.Lexicographic.{pointwise}
use Rattle.std.proofs.lemmas.Option.{MatchOption-at_none}
use Rattle.hg_expect.specs.Expectations.{Text, marked}
use Rattle.hg_expect.proofs.FilledLemmas.{nothing_met}
use Rattle.hg_expect.proofs.expectation.is_met.Goals as goal

pub returns : goal.returns
returns c =
    let left = c.loop-line.left.now in
    c.is_empty-2.ensures
    ∙ sym (nothing_met left)
    ∙ sym
    (ap (λ (ls : List Text). pointwise bytes_eq ls (marked left))
    (MatchOption-at_none _ _ c.in_default.is c.cut_expected.ensures.cases))
    ∙ c.loop-line.invariant

use Rattle.std.proofs.Common.{◌≡◌, ℕ, List, [], ◌∷◌, ◌++◌, decimal, refl, ap, ◌∙◌, lit<, lit≤}
use Rattle.std.proofs.lemmas.Fmt.{decimal_digit, decimal_step}
use Rattle.hg_line.proofs.output.printed_lines_are_those_of_the_format.Goals as goal

one : decimal 1 ≡ 49 ∷ []
one = decimal_digit 1 (lit< tt)

two : decimal 2 ≡ 50 ∷ []
two = decimal_digit 2 (lit< tt)

four : decimal 4 ≡ 52 ∷ []
four = decimal_digit 4 (lit< tt)

twelve : decimal 12 ≡ 49 ∷ 50 ∷ []
twelve = decimal_step 12 (lit≤ tt) (lit< tt) ∙ ap (λ (ds : List ℕ). ds ++ 50 ∷ []) one

pub returns-clause-refusal : goal.returns-clause-refusal
returns-clause-refusal c = rw (four, one) refl

pub returns-clause-replica : goal.returns-clause-replica
returns-clause-replica c = rw (twelve, four) refl

pub returns-clause-view : goal.returns-clause-view
returns-clause-view c = λ n. rw (twelve, two) refl

pub returns-clause-totals : goal.returns-clause-totals
returns-clause-totals c = rw (four, one) refl

pub returns-clause-sentence : goal.returns-clause-sentence
returns-clause-sentence c = rw (twelve, four) refl

-- Reading line by line.
use Rattle.std.proofs.Common.{◌≡◌, ℕ, ◌+◌, List, [], ◌∷◌, ◌++◌, Option, Result, Ok, Err, Some, None, append_assoc}
use Rattle.std.proofs.Common.{append-nil, refl, sym, ap, ◌∙◌}
use Rattle.hg_phaseroots.specs.declared.error.RootsError.{RootsError}
use Rattle.hg_phaseroots.specs.Lines.{lines_of}
use Rattle.hg_phaseroots.specs.Reading.{Root, root_in, then_roots, roots_in, roots_of}

-- the roots so far, and then what the rest says
abbrev pub after_roots : List Root → Result (List Root) RootsError → Result (List Root) RootsError
after_roots roots (Ok more) = Ok (roots ++ more)
after_roots roots (Err e) = Err e

pub after_none : (r : Result (List Root) RootsError) → r ≡ after_roots [] r
after_none (Ok more) = refl
after_none (Err e) = refl

pub after_one_more : (roots : List Root) (root : Root) (r : Result (List Root) RootsError)
    → after_roots roots (then_roots (Ok (Some root)) r) ≡ after_roots (roots ++ root ∷ []) r
after_one_more roots root (Ok more) = ap (λ rs. Ok rs) (sym (append_assoc roots (root ∷ []) more))
after_one_more roots root (Err e) = refl

-- what the text says, when the roots so far were read and the rest begins with the n-th line
abbrev pub IsReadTo : List ℕ → List Root → ℕ → List ℕ → Type 0
IsReadTo text roots n rest = roots_of text ≡ after_roots roots (roots_in n (lines_of rest))

module _ (text : List ℕ) (roots : List Root) (n : ℕ) (rest line after : List ℕ)
    (split : lines_of rest ≡ line ∷ lines_of after) (read : IsReadTo text roots n rest) where
  pub read_root : (root : Root) → Ok (Some root) ≡ root_in n line → IsReadTo text (roots ++ root ∷ []) (n + 1) after
  read_root root says =
      read ∙ ap (λ ls. after_roots roots (roots_in n ls)) split
      ∙ ap (λ r. after_roots roots (then_roots r (roots_in (n + 1) (lines_of after)))) (sym says)
      ∙ after_one_more roots root (roots_in (n + 1) (lines_of after))

  pub read_none : Ok None ≡ root_in n line → IsReadTo text roots (n + 1) after
  read_none says =
      read ∙ ap (λ ls. after_roots roots (roots_in n ls)) split
      ∙ ap (λ r. after_roots roots (then_roots r (roots_in (n + 1) (lines_of after)))) (sym says)

  pub read_fault : (e : RootsError) → Err e ≡ root_in n line → roots_of text ≡ Err e
  read_fault e says =
      read ∙ ap (λ ls. after_roots roots (roots_in n ls)) split
      ∙ ap (λ r. after_roots roots (then_roots r (roots_in (n + 1) (lines_of after)))) (sym says)

  -- whatever a line without fault lists
  pub read_line : (o : Option Root) → Ok o ≡ root_in n line → (more : List Root) × IsReadTo text more (n + 1) after
  read_line None says = (roots, read_none says)
  read_line (Some root) says = (roots ++ root ∷ [], read_root root says)

-- Lines one after the other, and outputs that are met.
use Rattle.std.proofs.Common.{◌≡◌, ℕ, ◌+◌, ◌<◌, ◌≤◌, ◌==◌, List, [], ◌∷◌, ◌++◌, length, map, Option, Some, None, refl}
use Rattle.std.proofs.Common.{sym, ap, ◌∙◌}
use Rattle.std.proofs.Common.{arith, false, suc}
use Rattle.std.specs.Prelude.{position}
use Rattle.std.specs.Str.{bytes_eq}
use Rattle.std.specs.Str.Lines.{lines}
use Rattle.std.specs.Cmp.Lexicographic.{pointwise}
use Rattle.std.proofs.lemmas.List.{append_assoc, length-append}
use Rattle.hg_expect.specs.Expectations.{Text, first_text, later_texts, marked, marked_line}
use Rattle.hg_expect.specs.Filled.{differing, differing_line, filled, filled_line, hunk_of, hunks, under}
use Rattle.hg_expect.proofs.LineLemmas.{is_end, line_at_end, lines_at_end}

-- lines after lines
pub under-append : (front : Text) (xs ys : List Text) → under front (xs ++ ys) ≡ under front xs ++ under front ys
under-append front [] ys = refl
under-append front (x ∷ xs) ys =
    let more = under-append front xs ys in
    ap (λ (t : Text). front ++ (x ++ 10 ∷ t)) more
    ∙ ap (λ (t : Text). front ++ t) (sym (append_assoc x (10 ∷ under front xs) (under front ys)))
    ∙ sym (append_assoc front (x ++ 10 ∷ under front xs) (under front ys))

-- lines have a byte each at least
pub under-long : (front : Text) (xs : List Text) → length xs ≤ length (under front xs)
under-long front [] = omega arith
under-long front (x ∷ xs) = omega (
  arith,
  under-long front xs,
  length-append front (x ++ 10 ∷ under front xs),
  length-append x (10 ∷ under front xs),
)

-- a text that isn't empty has a line
pub some_line : (text : List ℕ) → 0 < length text → 0 < length (lines text)
some_line text some = at (position is_end text) refl
  where
    at : (place : Option ℕ) → position is_end text ≡ place → 0 < length (lines text)
    at (Some i) e = omega (arith, ap length (lines_at_end text i e))
    at None e = omega (arith, ap length (line_at_end text e some))

-- where nothing is expected, nothing is to be printed
pub nothing_met : (output : Text) → pointwise bytes_eq [] (marked output) ≡ (length output == 0)
nothing_met [] = refl
nothing_met (b ∷ output) =
    none (lines (b ∷ output)) (some_line (b ∷ output) (omega arith)) ∙ sym (more (length output))
  where
    none : (ls : List Text) → 0 < length ls → pointwise bytes_eq [] (map marked_line ls) ≡ false
    none [] l = absurd (omega (arith, l))
    none (x ∷ ls) l = refl

    more : (n : ℕ) → (suc n == 0) ≡ false
    more n = grind arith

-- ---- one line more of a script

pub filled-next : (number : ℕ) (ls after : List Text) (line output : Text) (outputs later : List Text)
    → ls ≡ line ∷ after → output ≡ first_text outputs → later ≡ later_texts outputs
    → filled number ls outputs ≡ filled_line number line output ++ filled (number + 1) after later
filled-next number ls after line output outputs later cut first others =
    ap (λ (l : List Text). filled number l outputs) cut
    ∙ ap (λ (o : Text). filled_line number line o ++ filled (number + 1) after (later_texts outputs)) (sym first)
    ∙ ap (λ (os : List Text). filled_line number line output ++ filled (number + 1) after os) (sym others)

-- what was filled in so far, and the lines that are left
pub filled-goes_on : (number : ℕ) (held holds total : Text) (ls after : List Text) (line output : Text)
    (outputs later : List Text) → ls ≡ line ∷ after → output ≡ first_text outputs → later ≡ later_texts outputs
    → holds ≡ held ++ under [] (filled_line number line output)
    → held ++ under [] (filled number ls outputs) ≡ total
    → holds ++ under [] (filled (number + 1) after later) ≡ total
filled-goes_on number held holds total ls after line output outputs later cut first others grew so =
    let here = filled_line number line output in
    let rest = filled (number + 1) after later in
    ap (λ (t : Text). t ++ under [] rest) grew
    ∙ append_assoc held (under [] here) (under [] rest)
    ∙ ap (λ (t : Text). held ++ t) (sym (under-append [] here rest))
    ∙ ap (λ (l : List Text). held ++ under [] l)
    (sym (filled-next number ls after line output outputs later cut first others))
    ∙ so

pub hunks-goes_on : (old new count : ℕ) (held holds total : Text) (ls after : List Text) (line output : Text)
    (outputs later : List Text) → ls ≡ line ∷ after → output ≡ first_text outputs → later ≡ later_texts outputs
    → holds ≡ held ++ hunk_of old new line after output → count ≡ length (filled_line old line output)
    → held ++ hunks old new ls outputs ≡ total
    → holds ++ hunks (old + 1) (new + count) after later ≡ total
hunks-goes_on old new count held holds total ls after line output outputs later cut first others grew counted so =
    let here = hunk_of old new line after output in
    ap (λ (t : Text). t ++ hunks (old + 1) (new + count) after later) grew
    ∙ append_assoc held here (hunks (old + 1) (new + count) after later)
    ∙ ap (λ (n : ℕ). held ++ (here ++ hunks (old + 1) (new + n) after later)) counted
    ∙ ap (λ (os : List Text). held ++ (here ++ hunks (old + 1) (new + length (filled_line old line output)) after os))
    others
    ∙ ap (λ (o : Text). held ++ (hunk_of old new line after o
    ++ hunks (old + 1) (new + length (filled_line old line o)) after (later_texts outputs))) first
    ∙ ap (λ (l : List Text). held ++ hunks old new l outputs) (sym cut)
    ∙ so

pub differing-next : (number : ℕ) (ls after : List Text) (line output : Text) (outputs later : List Text)
    → ls ≡ line ∷ after → output ≡ first_text outputs → later ≡ later_texts outputs
    → differing number ls outputs ≡ differing_line number line after output + differing (number + 1) after later
differing-next number ls after line output outputs later cut first others =
    ap (λ (l : List Text). differing number l outputs) cut
    ∙ ap (λ (o : Text). differing_line number line after o + differing (number + 1) after (later_texts outputs))
    (sym first)
    ∙ ap (λ (os : List Text). differing_line number line after output + differing (number + 1) after os) (sym others)

-- The lines of a text, one by one.
use Rattle.std.proofs.Common.{◌≡◌, ℕ, ◌+◌, ◌-◌, ◌<◌, ◌==◌, List, [], ◌∷◌, length, take, drop, Some, None, refl, ap, ◌∙◌}
use Rattle.std.proofs.Common.{◌≤◌, ◌++◌, Bool, arith, cond, false, suc, sym, true, zero}
use Rattle.std.specs.Prelude.{not, position}
use Rattle.std.specs.List.{after_first, before_first, position_or_len, prefix_len, slice_split}
use Rattle.std.specs.Str.Lines.{lines, lines_of_parts, strip_carriage_return}
use Rattle.std.proofs.lemmas.List.{append-nil, append_assoc, drop-drop, drop-take, drop_all, length-append, length-drop}
use Rattle.std.proofs.lemmas.List.{length-take, nil_from_length, take-append-le, take-take, take_all}
use Rattle.std.proofs.lemmas.Bool.{lt-ltb}
use Rattle.std.proofs.lemmas.List.Splits.{slice_split_first, slice_split_none, length-slice_split}
use Rattle.std.proofs.lemmas.List.Sums.{fails_before_first}
use Rattle.std.proofs.lemmas.Bool.Decides.{nat_tests}
use Rattle.hg_changeset.proofs.ListLemmas.{position-found, position-none}
use Rattle.hg_expect.specs.Fronts.{IsLineLong}

abbrev pub is_end : ℕ → Bool
is_end b = b == 10

-- a part that others follow is a line, without one CR at its end
first_of_parts : (part : List ℕ) (parts : List (List ℕ)) → 0 < length parts
    → lines_of_parts (part ∷ parts) ≡ strip_carriage_return part ∷ lines_of_parts parts
first_of_parts part [] l = absurd (omega arith)
first_of_parts part (next ∷ parts) l = refl

-- where there is an LF, the first line is what stands before it, and the others are those of what comes after it
pub lines_at_end : (text : List ℕ) (i : ℕ) → position is_end text ≡ Some i
    → lines text ≡ strip_carriage_return (take i text) ∷ lines (drop (i + 1) text)
lines_at_end text i e =
    let found = position-found is_end text i e in
    ap lines_of_parts (slice_split_first is_end text 0 found.0)
    ∙ first_of_parts (before_first is_end text) (slice_split is_end (after_first is_end text))
    (omega (arith, length-slice_split is_end (after_first is_end text)))
    ∙ ap (λ (n : ℕ). strip_carriage_return (take n text) ∷ lines (drop (n + 1) text)) found.1

-- a text is one line where there is none, if it isn't empty
pub line_at_end : (text : List ℕ) → position is_end text ≡ None → 0 < length text → lines text ≡ text ∷ []
line_at_end text e some =
    let past = position-none is_end text e in
    ap lines_of_parts (slice_split_none is_end text (λ k d lt. fails_before_first is_end text k d (omega arith)))
    ∙ one text some
  where
    one : (text : List ℕ) → 0 < length text → lines_of_parts (text ∷ []) ≡ text ∷ []
    one [] l = absurd (omega arith)
    one (b ∷ bs) l = grind (arith, nat_tests)

-- nothing comes after the whole text
pub nothing_after : (text : List ℕ) → take (length text - length text) (drop (length text) text) ≡ []
nothing_after text =
    nil_from_length _
    (omega (arith, length-take (length text - length text) (drop (length text) text), length-drop (length text) text))

-- ---- fronts

-- where the first places that fail are within the front, they are those of all
front_fails : (test : ℕ → Bool) (xs : List ℕ) (n : ℕ) → prefix_len test xs < n
    → prefix_len test (take n xs) ≡ prefix_len test xs
front_fails test xs zero l = absurd (omega (arith, l))
front_fails test [] (suc n) l = refl
front_fails test (x ∷ xs) (suc n) l = go (test x) l (λ within. front_fails test xs n within)
  where
    go : (b : Bool) → cond b (1 + prefix_len test xs) 0 < suc n
        → (prefix_len test xs < n → prefix_len test (take n xs) ≡ prefix_len test xs)
        → cond b (1 + prefix_len test (take n xs)) 0 ≡ cond b (1 + prefix_len test xs) 0
    go false within more = refl
    go true within more = ap (λ (k : ℕ). 1 + k) (more (omega (arith, within)))

-- the first LF is that of each front that reaches behind it
end_in_front : (text : List ℕ) (i n : ℕ) → position is_end text ≡ Some i → i < n
    → position is_end (take n text) ≡ Some i
end_in_front text i n e l =
    let found = position-found is_end text i e in
    let here : position_or_len is_end (take n text) ≡ i =
    front_fails (λ b. not (is_end b)) text n (omega (arith, l, found.1)) ∙ found.1 in
    let inside : position_or_len is_end (take n text) < length (take n text) =
    omega (arith, here, l, found.0, found.1, length-take n text) in
    ap (λ (b : Bool). cond b (Some (position_or_len is_end (take n text))) None) (lt-ltb _ _ inside) ∙ ap Some here

-- a line with its LF
pub line_with_end : (text : List ℕ) (i : ℕ) → position is_end text ≡ Some i → IsLineLong text (i + 1)
line_with_end text i e = (strip_carriage_return (take i text), at)
  where
    at : (k : ℕ) → lines (take (i + 1 + k) text)
        ≡ strip_carriage_return (take i text) ∷ lines (take k (drop (i + 1) text))
    at k =
        lines_at_end (take (i + 1 + k) text) i (end_in_front text i (i + 1 + k) e (omega arith))
        ∙ ap (λ (front : List ℕ). strip_carriage_return front ∷ lines (drop (i + 1) (take (i + 1 + k) text)))
        (take-take i (i + 1 + k) text (omega arith))
        ∙ ap (λ (rest : List ℕ). strip_carriage_return (take i text) ∷ lines rest) (drop-take (i + 1) k text)

-- a line without one is the whole text
pub line_without_end : (text : List ℕ) → position is_end text ≡ None → 0 < length text → IsLineLong text (length text)
line_without_end text e some = (text, at)
  where
    at : (k : ℕ) → lines (take (length text + k) text) ≡ text ∷ lines (take k (drop (length text) text))
    at k =
        ap lines (take_all (length text + k) text (omega arith)) ∙ line_at_end text e some
        ∙ ap (λ (rest : List ℕ). text ∷ lines rest)
        (sym (ap (take k) (drop_all (length text) text (omega arith)) ∙ take_all k [] (omega arith)))

-- so many bytes of the text are so many lines
pub record IsFront (text : List ℕ) (end count : ℕ) : Type 0 where
  pub first : List (List ℕ)
  pub counted : length first ≡ count
  pub cut : (k : ℕ) → lines (take (end + k) text) ≡ first ++ lines (take k (drop end text))

pub next_front : (text : List ℕ) (end count n : ℕ) → IsFront text end count → IsLineLong (drop end text) n
    → IsFront text (end + n) (count + 1)
next_front text end count n held (line, more) = record {
  first = held.first ++ line ∷ [];
  counted = omega (arith, length-append held.first (line ∷ []), held.counted);
  cut = at;
}
  where
    at : (k : ℕ) → lines (take (end + n + k) text)
        ≡ (held.first ++ line ∷ []) ++ lines (take k (drop (end + n) text))
    at k =
        let on : end + n + k ≡ end + (n + k) = omega arith in
        ap (λ (m : ℕ). lines (take m text)) on ∙ held.cut (n + k)
        ∙ ap (λ (ls : List (List ℕ)). held.first ++ ls) (more k)
        ∙ ap (λ (rest : List ℕ). held.first ++ line ∷ lines (take k rest)) (drop-drop n end text)
        ∙ sym (append_assoc held.first (line ∷ []) (lines (take k (drop (end + n) text))))

-- the lines of the whole text begin with those of its front
whole : (text : List ℕ) (end count : ℕ) → (front : IsFront text end count)
    → lines text ≡ front.first ++ lines (drop end text)
whole text end count front =
    sym (ap lines (take_all (end + length text) text (omega arith))) ∙ front.cut (length text)
    ∙ ap (λ (rest : List ℕ). front.first ++ lines rest)
    (take_all (length text) (drop end text) (omega (arith, length-drop end text)))

-- the lines of the front
pub front_lines : (text : List ℕ) (end count : ℕ) → IsFront text end count
    → (count ≤ length (lines text)) × (lines (take end text) ≡ take count (lines text))
front_lines text end count front =
    let all = whole text end count front in
    let here : lines (take end text) ≡ front.first =
    ap (λ (m : ℕ). lines (take m text)) (omega arith) ∙ front.cut 0 ∙ append-nil front.first in (
      omega (arith, ap length all, length-append front.first (lines (drop end text)), front.counted),
      here ∙ sym (ap (take count) all ∙ take-append-le count front.first (lines (drop end text))
          (omega (arith, front.counted)) ∙ take_all count front.first (omega (arith, front.counted))),
    )

-- where the front is all, the text has no more lines
pub front_all : (text : List ℕ) (end count : ℕ) → IsFront text end count → end ≡ length text
    → length (lines text) ≡ count
front_all text end count front is =
    let nothing_left = drop_all end text (omega (arith, is)) in
    ap length (whole text end count front ∙ ap (λ (rest : List ℕ). front.first ++ lines rest) nothing_left
    ∙ append-nil front.first) ∙ front.counted

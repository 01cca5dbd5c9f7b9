-- The words of a line.
use Rattle.std.proofs.Common.{◌≡◌, ◌≤◌, ◌-◌, ◌==◌, ℕ, Bool, false, cond, not, Some, List, [], ◌∷◌, length, take, drop}
use Rattle.std.proofs.Common.{get_or}
use Rattle.std.proofs.Common.{arith, refl, sym, ap, ◌∙◌}
use Rattle.std.specs.Prelude.{◌&&◌, codes}
use Rattle.std.specs.List.{find, onto_first, slice_split}
use Rattle.std.specs.Option.{option_map_or}
use Rattle.std.specs.Str.{bytes_eq}
use Rattle.std.proofs.lemmas.Bool.{or_parts}
use Rattle.std.proofs.lemmas.List.{take_all}
use Rattle.hg_line.specs.Words.{has_node, may_have_node}

-- what isn't empty has a first element, and the others behind it
pub first_and_rest : {A : Type 0} (xs : List A) (d : A) → 1 ≤ length xs
    → xs ≡ get_or xs 0 d ∷ take (length xs - 1) (drop 1 xs)
first_and_rest [] d l = absurd (omega (arith, l))
first_and_rest (x ∷ xs) d l = ap (λ ys. x ∷ ys) (sym (take_all (length (x ∷ xs) - 1) xs (omega arith)))

-- among parts of which the first begins with another letter the first that isn't empty isn't `node`
abbrev is_node_first : List (List ℕ) → Bool
is_node_first parts =
    option_map_or (λ word. bytes_eq word (codes "node")) (find (λ word. not (length word == 0)) parts) false

other_letter : (b : ℕ) (parts : List (List ℕ)) → (b == 110) ≡ false → is_node_first (onto_first b parts) ≡ false
other_letter b [] h = ap (λ (t : Bool). t && bytes_eq [] (codes "ode")) h
other_letter b (part ∷ parts) h =
    let long : (length (b ∷ part) == 0) ≡ false = grind arith in
    let later = find (λ word. not (length word == 0)) parts in
    ap (λ (t : Bool). option_map_or (λ word. bytes_eq word (codes "node")) (cond (not t) (Some (b ∷ part)) later) false)
    long
    ∙ ap (λ (t : Bool). t && bytes_eq part (codes "ode")) h

-- a line that begins otherwise hasn't `node` as its first word
pub no_node : (line : List ℕ) → may_have_node line ≡ false → has_node line ≡ false
no_node [] h = refl
no_node (b ∷ rest) h =
    let p = or_parts (b == 110) (b == 32) h in
    let parts = slice_split (λ c. c == 32) rest in
    ap (λ (t : Bool). is_node_first (cond t ([] ∷ parts) (onto_first b parts))) p.1 ∙ other_letter b parts p.0

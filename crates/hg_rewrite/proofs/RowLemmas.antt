-- Rows that are tried one after another.
use Rattle.std.proofs.Common.{◌≡◌, ℕ, zero, suc, ◌<◌, ◌≤◌, ◌+◌, ◌⊎◌, inl, inr, List, [], ◌∷◌, ◌++◌, length, map, take}
use Rattle.std.proofs.Common.{drop, get_or, slice_get, Some, Result, Ok, Err, Contains, refl, sym, ap, subst, ◌∙◌}
use Rattle.std.proofs.Common.{arith}
use Rattle.std.proofs.lemmas.List.{take_more, take_all}
use Rattle.std.proofs.lemmas.Option.{none-some, same_Some}
use Rattle.std.specs.declared.vec.Vec.{Vec}
use Rattle.std.specs.declared.alloc.Global.{Global}
use Rattle.hg_changeset.specs.declared.node.Node.{Node}
use Rattle.hg_phases.specs.State.{State, Holds}
use Rattle.hg_rewrite.specs.declared.refusal.Refusal.{Refusal}
use Rattle.hg_rewrite.specs.declared.refusal.Refusal.TheVariants.{Exists}
use Rattle.hg_rewrite.specs.Refusals.{Row, Applies, NoneApplies, IsFirstRefusal, existing}
use Rattle.hg_rewrite.specs.Answer.{IsRefusal, Gives}

pub first_later : (xs ys : List Row) (r : Refusal) → NoneApplies xs → IsFirstRefusal ys r → IsFirstRefusal (xs ++ ys) r
first_later [] ys r none first = first
first_later (x ∷ xs) ys r none first = inr (none.0, first_later xs ys r none.1 first)

pub first_sooner : (xs ys : List Row) (r : Refusal) → IsFirstRefusal xs r → IsFirstRefusal (xs ++ ys) r
first_sooner [] ys r first = absurd first
first_sooner (x ∷ xs) ys r (inl h) = inl h
first_sooner (x ∷ xs) ys r (inr h) = inr (h.0, first_sooner xs ys r h.1)

pub none_both : (xs ys : List Row) → NoneApplies xs → NoneApplies ys → NoneApplies (xs ++ ys)
none_both [] ys none others = others
none_both (x ∷ xs) ys none others = (none.0, none_both xs ys none.1 others)

pub none_sooner : (xs ys : List Row) → NoneApplies (xs ++ ys) → NoneApplies xs
none_sooner [] ys none = tt
none_sooner (x ∷ xs) ys none = (none.0, none_sooner xs ys none.1)

pub none_later : (xs ys : List Row) → NoneApplies (xs ++ ys) → NoneApplies ys
none_later [] ys none = none
none_later (x ∷ xs) ys none = none_later xs ys none.1

-- none of the first rows applies
pub later : (xs ys : List Row) (r : Refusal) → NoneApplies xs → IsRefusal ys r → IsRefusal (xs ++ ys) r
later xs ys r none (inl e) = inl e
later xs ys r none (inr h) = inr (first_later xs ys r none h)

-- one of the first rows applies
pub sooner : (xs ys : List Row) (r : Refusal) → IsRefusal xs r → IsRefusal (xs ++ ys) r
sooner xs ys r (inl e) = inl e
sooner xs ys r (inr h) = inr (first_sooner xs ys r h)

pub gives_later : {X : Type 0} (xs ys : List Row) (vs : List X) (r : Result (Vec X Global) Refusal) → NoneApplies xs
    → Gives ys vs r → Gives (xs ++ ys) vs r
gives_later xs ys vs (Ok v) none h = (none_both xs ys none h.0, h.1)
gives_later xs ys vs (Err r) none h = later xs ys r none h

-- one row for each of some values, as far as a loop has come
module _ {X : Type 0} (row : X → Row) where
  pub none_push : (xs : List X) (x : X) → NoneApplies (map row xs) → ¬ (Applies (row x))
      → NoneApplies (map row (xs ++ x ∷ []))
  none_push [] x none not = (not, tt)
  none_push (y ∷ xs) x none not = (none.0, none_push xs x none.1 not)

  -- one more doesn't apply
  pub none_more : (xs : List X) (i : ℕ) (d : X) → i < length xs → NoneApplies (map row (take i xs))
      → ¬ (Applies (row (get_or xs i d))) → NoneApplies (map row (take (i + 1) xs))
  none_more xs i d lt none not = subst (λ ys. NoneApplies (map row ys)) (sym (take_more xs i d lt))
      (none_push (take i xs) (get_or xs i d) none not)

  -- the next one applies
  pub first_next : (xs : List X) (i : ℕ) (d : X) (r : Refusal) → i < length xs → NoneApplies (map row (take i xs))
      → row (get_or xs i d) r → IsFirstRefusal (map row xs) r
  first_next [] i d r lt none is = absurd (omega arith)
  first_next (x ∷ xs) zero d r lt none is = inl is
  first_next (x ∷ xs) (suc i) d r lt none is = inr (none.0, first_next xs i d r (omega arith) none.1 is)

  pub first_after : (xs ys : List X) (x : X) (r : Refusal) → NoneApplies (map row xs) → row x r
      → IsFirstRefusal (map row (xs ++ x ∷ ys)) r
  first_after [] ys x r none is = inl is
  first_after (z ∷ xs) ys x r none is = inr (none.0, first_after xs ys x r none.1 is)

  -- all were tried
  pub none_of_all : (xs : List X) (i : ℕ) → length xs ≤ i → NoneApplies (map row (take i xs)) → NoneApplies (map row xs)
  none_of_all xs i le none = subst (λ ys. NoneApplies (map row ys)) (take_all i xs le) none

-- new ids, as far as a loop has come
abbrev pub IsTaken : State → List Node → ℕ → Node → Type 0
IsTaken s ns k n = Holds s n ⊎ Contains (drop (k + 1) ns) n

drop_next : (k : ℕ) (n : Node) (ns : List Node) → drop (suc k + 1) (n ∷ ns) ≡ drop (k + 1) ns
drop_next k n ns = ap (λ j. drop j (n ∷ ns)) (add_one (suc k)) ∙ ap (λ j. drop j ns) (sym (add_one k))
  where
    add_one : (j : ℕ) → j + 1 ≡ suc j
    add_one j = omega arith

taken_later : (s : State) (n : Node) (ns : List Node) (k : ℕ) (m : Node) → IsTaken s ns k m
    → IsTaken s (n ∷ ns) (suc k) m
taken_later s n ns k m h = subst (λ xs. Holds s m ⊎ Contains xs m) (sym (drop_next k n ns)) h

pub none_existing : (s : State) (ns : List Node) → ((k : ℕ) (n : Node) → slice_get ns k ≡ Some n
    → ¬ (IsTaken s ns k n)) → NoneApplies (existing s ns)
none_existing s [] not = tt
none_existing s (n ∷ ns) not =
    ((λ r. not 0 n refl r.1.0), none_existing s ns (λ k m at is. not (suc k) m at (taken_later s n ns k m is)))

pub first_existing : (s : State) (ns : List Node) (i : ℕ) (n : Node)
    → ((k : ℕ) → k < i → (m : Node) → slice_get ns k ≡ Some m → ¬ (IsTaken s ns k m)) → slice_get ns i ≡ Some n
    → IsTaken s ns i n → IsFirstRefusal (existing s ns) (Exists n)
first_existing s [] i n not at is = absurd (none-some n at)
first_existing s (m ∷ ns) zero n not at is =
    let e : m ≡ n = same_Some m n at in
    inl (subst (λ x. Holds s x ⊎ Contains ns x) (sym e) is, (λ i. Exists (sym e i)))
first_existing s (m ∷ ns) (suc i) n not at is =
    inr (
      (λ r. not 0 (omega arith) m refl r.1.0),
      first_existing s ns i n (λ k lt x at_x is_x. not (suc k) (omega arith) x at_x (taken_later s m ns k x is_x)) at
          (subst (λ xs. Holds s n ⊎ Contains xs n) (drop_next i m ns) is),
    )

-- rows of values that are made of others
module _ {X Y : Type 0} (row : Y → Row) (f : X → Y) where
  pub none_mapped : (xs : List X) → NoneApplies (map (λ x. row (f x)) xs) → NoneApplies (map row (map f xs))
  none_mapped [] none = tt
  none_mapped (x ∷ xs) none = (none.0, none_mapped xs none.1)

  pub first_mapped : (xs : List X) (r : Refusal) → IsFirstRefusal (map (λ x. row (f x)) xs) r
      → IsFirstRefusal (map row (map f xs)) r
  first_mapped [] r first = absurd first
  first_mapped (x ∷ xs) r (inl h) = inl h
  first_mapped (x ∷ xs) r (inr h) = inr (h.0, first_mapped xs r h.1)

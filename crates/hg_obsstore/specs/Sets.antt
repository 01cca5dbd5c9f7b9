-- Sets, as the answers that they give to "is it in?", and the laws of their union.
use Rattle.std.specs.Prelude.{◌≡◌, ◌↔◌, Bool, true, false, ◌||◌, [], ◌∷◌, ⊤}
use Rattle.std.proofs.Common.{refl, sym, ap, ◌∙◌}
use Rattle.std.proofs.lemmas.Bool.{or_left, or_right}
use Rattle.std.proofs.Math.Bool.{or_comm, or_assoc, or_self}
use Rattle.std.specs.Cmp.{both_ways}
use Rattle.hg_join.specs.Order.{IsPartialOrder, IsLeastAbove, IsLeastCovering, again_by_least, swap_by_least}

either_within : (a b c : Bool) → (a ≡ true → c ≡ true) → (b ≡ true → c ≡ true) → (a || b) ≡ true → c ≡ true
either_within true b c f g h = f refl
either_within false b c f g h = g h

module _ {K : Type 0} where
  -- any set will do
  abbrev pub IsSet : (K → Bool) → Type 0
  IsSet s = ⊤

  -- each member of s is one of t
  abbrev pub IsWithin : (K → Bool) → (K → Bool) → Type 0
  IsWithin s t = (k : K) → s k ≡ true → t k ≡ true

  -- t has each member of s
  abbrev pub HasAll : (K → Bool) → (K → Bool) → Type 0
  HasAll t s = IsWithin s t

  -- u has the members of s and of t, and no others
  abbrev pub IsUnion : (K → Bool) → (K → Bool) → (K → Bool) → Type 0
  IsUnion s t u = u ≡ (λ k. s k || t k)

  pub sets_ordered : IsPartialOrder IsSet IsWithin
  sets_ordered = record {
    reflexive = λ s u k h. h;
    transitive = λ s t u x y z f g k h. g k (f k h);
    antisymmetric = λ s t x y f g i k. both_ways (s k) (t k) (f k) (g k) i;
  }

  pub union_commutes : (s t u : K → Bool) → IsUnion s t u → IsUnion t s u
  union_commutes s t u e = e ∙ (λ i k. or_comm (s k) (t k) i)

  pub union_associates : (s t u stu : K → Bool) → ((st : K → Bool) × IsUnion s t st × IsUnion st u stu)
      ↔ ((tu : K → Bool) × IsUnion t u tu × IsUnion s tu stu)
  union_associates s t u stu = (
    (λ h. ((λ k. t k || u k), refl, h.2 ∙ (λ i k. (h.1 i) k || u k) ∙ (λ i k. or_assoc (s k) (t k) (u k) i))),
    (λ h. ((λ k. s k || t k), refl, h.2 ∙ (λ i k. s k || (h.1 i) k) ∙ sym (λ i k. or_assoc (s k) (t k) (u k) i))),
  )

  pub union_idempotent : (s : K → Bool) → IsUnion s s s
  union_idempotent s = sym (λ i k. or_self (s k) i)

  at_point : (s t u : K → Bool) → IsUnion s t u → (k : K) → u k ≡ (s k || t k)
  at_point s t u e k = ap (λ (f : K → Bool). f k) e

  pub union_least : (s t u : K → Bool) → IsUnion s t u → IsLeastAbove IsSet IsWithin s t u
  union_least s t u e = record {
    valid = tt;
    above_first = λ k h. at_point s t u e k ∙ or_left (s k) (t k) h;
    above_second = λ k h. at_point s t u e k ∙ or_right (s k) (t k) h;
    least = λ other v f g k h. either_within (s k) (t k) (other k) (f k) (g k) (sym (at_point s t u e k) ∙ h);
  }

  pub stays_within : (s t p : K → Bool) → ⊤ → ⊤ → IsWithin s t → HasAll s p → HasAll t p
  stays_within s t p v w up covered k h = up k (covered k h)

  pub union_absorbed : (s u p : K → Bool) → ⊤ → IsUnion s p u → IsLeastCovering IsSet IsWithin HasAll s (p ∷ []) u
  union_absorbed s u p v e = let l = union_least s p u e in record {
    valid = tt;
    above = l.above_first;
    covers = (l.above_second, tt);
    least = λ other w f g. l.least other w f g.0;
  }

  pub union_again : (s u p : K → Bool) → ⊤ → HasAll s p → IsUnion s p u → u ≡ s
  union_again s u p = again_by_least sets_ordered stays_within union_absorbed s u p

  pub union_swap : (s sp spq sq sqp p q : K → Bool) → ⊤ → IsUnion s p sp → IsUnion sp q spq → IsUnion s q sq
      → IsUnion sq p sqp → spq ≡ sqp
  union_swap = swap_by_least sets_ordered stays_within union_absorbed

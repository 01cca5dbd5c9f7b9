-- What the tests of a changeset tell.
use Rattle.std.proofs.Common.{◌≡◌, ◌↔◌, ◌⊎◌, ◌∙◌, Bool, true, false, not, IsTrue, inl, inr, sym, refl}
use Rattle.std.proofs.Common.{true≢false}

map_or : {A B P Q : Type 0} → (A → P) → (B → Q) → A ⊎ B → P ⊎ Q
map_or f g (inl a) = inl (f a)
map_or f g (inr b) = inr (g b)

-- any of three words is there where what one of them says is so
pub any_told : (b : Bool) (A B C P Q R : Type 0) → A ↔ P → B ↔ Q → C ↔ R → IsTrue b ↔ (A ⊎ (B ⊎ C))
    → IsTrue b ↔ (P ⊎ (Q ⊎ R))
any_told b A B C P Q R first second third any = (
  λ t. map_or first.0 (map_or second.0 third.0) (any.0 t),
  λ so. any.1 (map_or first.1 (map_or second.1 third.1) so),
)

-- what isn't so, by its test
pub not_so : (b : Bool) (P : Type 0) → IsTrue b ↔ P → b ≡ false → ¬ P
not_so b P told e = λ so. true≢false (sym (told.1 so) ∙ e)

-- what isn't so is not so
pub is_so : (b : Bool) → not b ≡ false → IsTrue b
is_so true e = refl
is_so false e = absurd (true≢false e)

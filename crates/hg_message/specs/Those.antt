-- Some of a list, in their order.
use Rattle.std.specs.Prelude.{◌≡◌, ◌⊎◌, List, [], ◌∷◌}

-- ys are exactly those of xs that are so, in their order
abbrev pub AreThose : {X : Type 0} → (X → Type 0) → List X → List X → Type 0
AreThose P [] ys = ys ≡ []
AreThose {X = X} P (x ∷ xs) ys = (P x × ((zs : List X) × (ys ≡ x ∷ zs) × AreThose P xs zs))
    ⊎ (¬ (P x) × AreThose P xs ys)

-- Those of some nodes of which something holds.
use Rattle.std.proofs.Common.{◌≡◌, Bool, true, false, true≢false, not, IsTrue, ℕ, ◌+◌, ◌<◌, ◌≤◌, List, [], ◌∷◌, ◌++◌}
use Rattle.std.proofs.Common.{length, take, get_or, Contains, ◌↔◌, ◌⊎◌, inl, inr, refl, sym, ap, subst, ◌∙◌}
use Rattle.std.proofs.lemmas.List.{take_more, take_all}
use Rattle.hg_changeset.specs.declared.node.Node.{Node}
use Rattle.hg_changeset.proofs.ListLemmas.{Contains-none, Contains-pushed, Contains-taken}
use Rattle.hg_marker.specs.Fields.{Fields}

-- of what was seen, the found ones are those that are so
abbrev pub AreThose : (Node → Type 0) → (Node → Type 0) → List Node → Type 0
AreThose Seen P found = (n : Node) → Contains found n ↔ (Seen n × P n)

-- one node more
abbrev pub IsAlso : Node → (Node → Type 0) → (Node → Type 0) → Type 0
IsAlso m Old New = (n : Node) → New n ↔ (Old n ⊎ (m ≡ n))

module _ (Seen More P : Node → Type 0) (found : List Node) (m : Node) (those : AreThose Seen P found)
    (more : IsAlso m Seen More) where
  pub those-found : P m → (new : List Node) → IsAlso m (Contains found) (Contains new) → AreThose More P new
  those-found p new grown n = (
    λ h. elim ((grown n).0 h) [
      | inl old ↦ let x = (those n).0 old in ((more n).1 (inl x.0), x.1)
      | inr e ↦ ((more n).1 (inr e), subst P e p)
    ],
    λ h. (grown n).1 (elim ((more n).0 h.0) [ inl old ↦ inl ((those n).1 (old, h.1)) | inr e ↦ inr e ]),
  )

  pub those-pushed : P m → (new : List Node) → new ≡ found ++ m ∷ [] → AreThose More P new
  those-pushed p new is = those-found p new (λ n. (
    λ h. (Contains-pushed found m n).0 (subst (λ ns. Contains ns n) is h),
    λ h. subst (λ ns. Contains ns n) (sym is) ((Contains-pushed found m n).1 h),
  ))

  pub those-other : ¬ (P m) → AreThose More P found
  those-other not n = (
    λ h. let x = (those n).0 h in ((more n).1 (inl x.0), x.1),
    λ h. elim ((more n).0 h.0) [ inl old ↦ (those n).1 (old, h.1) | inr e ↦ absurd (not (subst P (sym e) h.1)) ],
  )

-- of what was seen, the found ones pass, and the others fail
abbrev pub AreDivided : (Node → Type 0) → (Node → Type 0) → (Node → Type 0) → List Node → Type 0
AreDivided Seen Pass Fail found = (n : Node) → (Contains found n → Seen n × Pass n)
    × (Seen n → Contains found n ⊎ Fail n)

pub divided-none : (Seen Pass Fail : Node → Type 0) (found : List Node) → found ≡ [] → ((n : Node) → ¬ (Seen n))
    → AreDivided Seen Pass Fail found
divided-none Seen Pass Fail found is never n =
    (λ h. absurd (Contains-none n (subst (λ ns. Contains ns n) is h)), λ h. absurd (never n h))

module _ (Seen More Pass Fail : Node → Type 0) (found : List Node) (m : Node)
    (divided : AreDivided Seen Pass Fail found) (more : IsAlso m Seen More) where
  pub divided-pushed : Pass m → (new : List Node) → new ≡ found ++ m ∷ [] → AreDivided More Pass Fail new
  divided-pushed p new is n = (
    λ h. elim ((Contains-pushed found m n).0 (subst (λ ns. Contains ns n) is h)) [
      | inl old ↦ let x = (divided n).0 old in ((more n).1 (inl x.0), x.1)
      | inr e ↦ ((more n).1 (inr e), subst Pass e p)
    ],
    λ h. elim ((more n).0 h) [
      | inl old ↦ elim ((divided n).1 old)
          [ inl f ↦ inl (subst (λ ns. Contains ns n) (sym is) ((Contains-pushed found m n).1 (inl f))) | inr f ↦ inr f ]
      | inr e ↦ inl (subst (λ ns. Contains ns n) (sym is) ((Contains-pushed found m n).1 (inr e)))
    ],
  )

  pub divided-other : Fail m → AreDivided More Pass Fail found
  divided-other f n = (
    λ h. let x = (divided n).0 h in ((more n).1 (inl x.0), x.1),
    λ h. elim ((more n).0 h) [ inl old ↦ (divided n).1 old | inr e ↦ inr (subst Fail e f) ],
  )

-- what passes is so, and what fails isn't
pub those-divided : (Seen Pass Fail P : Node → Type 0) (found : List Node) → AreDivided Seen Pass Fail found
    → ((n : Node) → Pass n → IsTrue true ↔ P n) → ((n : Node) → Fail n → IsTrue false ↔ P n) → AreThose Seen P found
those-divided Seen Pass Fail P found divided passes fails n = (
  λ h. let x = (divided n).0 h in (x.0, (passes n x.1).0 refl),
  λ h. elim ((divided n).1 h.0) [ inl f ↦ f | inr f ↦ absurd (true≢false (sym ((fails n f).1 h.1))) ],
)

-- what a test tells
pub told-alike : {P : Type 0} (a b : Bool) → a ≡ b → IsTrue a ↔ P → IsTrue b ↔ P
told-alike {P = P} a b is told = subst (λ (x : Bool). IsTrue x ↔ P) is told

pub other-told : {P : Type 0} (b : Bool) → IsTrue b ↔ P → IsTrue (not b) ↔ (¬ P)
other-told true told = (λ h. absurd (true≢false (sym h)), λ no. absurd (no (told.0 refl)))
other-told false told = (λ h p. true≢false (sym (told.1 p)), λ no. refl)

-- all were seen
pub those-all : {X : Type 0} (Seen : List X → Node → Type 0) (P : Node → Type 0) (xs : List X) (i : ℕ)
    (found : List Node) → length xs ≤ i → AreThose (Seen (take i xs)) P found → AreThose (Seen xs) P found
those-all Seen P xs i found le those = subst (λ zs. AreThose (Seen zs) P found) (take_all i xs le) those

pub also-taken : (xs : List Node) (i : ℕ) (d : Node) → i < length xs
    → IsAlso (get_or xs i d) (Contains (take i xs)) (Contains (take (i + 1) xs))
also-taken xs i d l n =
    let more : take (i + 1) xs ≡ take i xs ++ get_or xs i d ∷ [] = take_more xs i d l in (
      λ h. (Contains-pushed (take i xs) (get_or xs i d) n).0 (subst (λ zs. Contains zs n) more h),
      λ h. subst (λ zs. Contains zs n) (sym more) ((Contains-pushed (take i xs) (get_or xs i d) n).1 h),
    )

-- the predecessors of markers
abbrev pub HavePredecessor : List Fields → Node → Type 0
HavePredecessor ms n = (m : Fields) × Contains ms m × (m.predecessor ≡ n)

pub also-predecessor : (ms : List Fields) (i : ℕ) (m : Fields) → i < length ms
    → get_or ms i m ≡ m → IsAlso m.predecessor (HavePredecessor (take i ms)) (HavePredecessor (take (i + 1) ms))
also-predecessor ms i m l is n = (
  λ h. elim ((Contains-taken ms i m h.0 l is).0 h.1)
      [ inl old ↦ inl (h.0, old, h.2) | inr e ↦ inr (ap (λ x. x.predecessor) e ∙ h.2) ],
  λ h. elim h [
    | inl old ↦ (old.0, (Contains-taken ms i m old.0 l is).1 (inl old.1), old.2)
    | inr e ↦
        (m, (Contains-taken ms i m m l is).1 (inr refl), e)
  ],
)

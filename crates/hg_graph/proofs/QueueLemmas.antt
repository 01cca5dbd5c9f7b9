-- Places that wait.
use Rattle.std.proofs.Common.{◌≡◌, ℕ, ◌+◌, ◌<◌, ◌≤◌, max, List, [], ◌∷◌, length, take, get_or, Option, Some, None}
use Rattle.std.proofs.Common.{IsSome, IfSome, All, Contains, true≢false, ◌↔◌, ◌⊎◌, inl, inr, refl, sym}
use Rattle.std.proofs.Common.{ap, subst, arith}
use Rattle.std.specs.Ordering.{nat_cmp}
use Rattle.std.specs.declared.cmp.Ordering.TheVariants.{Less}
use Rattle.std.proofs.lemmas.List.Elements.{All-contains}
use Rattle.hg_changeset.specs.Contents.{Contents}
use Rattle.hg_changeset.proofs.ListLemmas.{Contains-none, Contains-first, Contains-later, Contains-cons_cases}
use Rattle.hg_graph.specs.Graph.{IsGraph}
use Rattle.hg_graph.specs.Places.{IsParentPlace}
use Rattle.hg_graph.specs.Waiting.{Widens, IsLast, TakesFirst}
use Rattle.hg_graph.proofs.PlaceLemmas.{parent_first}
use Rattle.hg_graph.proofs.WalkLemmas.{emptied, less_from_cmp, taken_one, contains_none}

-- ---- more of them

pub widens-none : (P : ℕ → Type 0) (ks : List ℕ) → ((k : ℕ) → ¬ (P k)) → Widens P ks ks
widens-none P ks none k = (λ h. inl h, λ h. elim h [ inl old ↦ old | inr p ↦ absurd (none k p) ])

pub widens-same : (P Q : ℕ → Type 0) (old new : List ℕ) → ((k : ℕ) → Q k ↔ P k) → Widens P old new → Widens Q old new
widens-same P Q old new same w k = (
  λ h. elim ((w k).0 h) [ inl was ↦ inl was | inr p ↦ inr ((same k).1 p) ],
  λ h. (w k).1 (elim h [ inl was ↦ inl was | inr q ↦ inr ((same k).0 q) ]),
)

pub widens-then : (P Q R : ℕ → Type 0) (old between new : List ℕ) → ((k : ℕ) → R k ↔ (P k ⊎ Q k))
    → Widens P old between → Widens Q between new → Widens R old new
widens-then P Q R old between new joins a b k = (
  λ h. elim ((b k).0 h) [
    | inl mid ↦ elim ((a k).0 mid) [ inl was ↦ inl was | inr p ↦ inr ((joins k).1 (inl p)) ]
    | inr q ↦ inr ((joins k).1 (inr q))
  ],
  λ h. (b k).1 (elim h [
    | inl was ↦ inl ((a k).1 (inl was))
    | inr r ↦ elim ((joins k).0 r) [ inl p ↦ inl ((a k).1 (inr p)) | inr q ↦ inr q ]
  ]),
)

-- the places up to one more
pub places-more : (places : List ℕ) (i d : ℕ) (old between new : List ℕ) → i < length places
    → Widens (Contains (take i places)) old between → Widens (λ k. get_or places i d ≡ k) between new
    → Widens (Contains (take (i + 1) places)) old new
places-more places i d old between new l a b =
    widens-then (Contains (take i places)) (λ k. get_or places i d ≡ k) (Contains (take (i + 1) places)) old between new
    (λ k. taken_one places i d k l) a b

-- ---- the first of them is taken

pub took-first : (o : Option ℕ) (waiting rest : List ℕ) → IsSome o ↔ (0 < length waiting)
    → IfSome o (λ w. waiting ≡ w ∷ rest) → IfSome o (λ w. All (λ k. nat_cmp w k ≡ Less) rest)
    → TakesFirst (Contains waiting) rest o
took-first None waiting rest any is above = λ k. contains_none waiting k
    (emptied waiting (λ l. true≢false (sym (any.1 l))))
took-first (Some w) waiting rest any is above = (
  λ k. (
    λ h. Contains-cons_cases w rest k (subst (λ ks. Contains ks k) is h),
    λ h. subst (λ ks. Contains ks k) (sym is) (elim h
        [ inl e ↦ subst (Contains (w ∷ rest)) e (Contains-first w rest) | inr later ↦ Contains-later w rest k later ]),
  ),
  λ k h. less_from_cmp w k (All-contains (λ k. nat_cmp w k ≡ Less) rest k above h),
)

-- ---- the work that is left

-- the most that the places give
abbrev pub most : (ℕ → ℕ) → List ℕ → ℕ
most f [] = 0
most f (k ∷ ks) = max (f k) (most f ks)

most-of : (f : ℕ → ℕ) (ks : List ℕ) (k : ℕ) → Contains ks k → f k ≤ most f ks
most-of f [] k h = absurd (Contains-none k h)
most-of f (j ∷ ks) k h = elim (Contains-cons_cases j ks k h) [
  | inl e ↦ let same : f j ≡ f k = ap f e in omega (arith, same)
  | inr later ↦ let l = most-of f ks k later in omega (arith, l)
]

most-below : (f : ℕ → ℕ) (ks : List ℕ) (b : ℕ) → 0 < b → ((k : ℕ) → Contains ks k → f k < b) → most f ks < b
most-below f [] b some each = some
most-below f (j ∷ ks) b some each =
    let first = each j (Contains-first j ks) in
    let rest = most-below f ks b some (λ k h. each k (Contains-later j ks k h)) in
    omega (arith, first, rest)

-- less is left where one is gone that gave more than each of those that are there now
pub most-falls : (f : ℕ → ℕ) (old new : List ℕ) (w : ℕ) → Contains old w → 0 < f w
    → ((k : ℕ) → Contains new k → f k < f w) → most f new < most f old
most-falls f old new w there some each =
    let least = most-of f old w there in
    let below = most-below f new (f w) some each in
    omega (arith, least, below)

-- the first place after all that wait
abbrev pub past : List ℕ → ℕ
past waiting = most (λ k. k + 1) waiting

module _ (cs : List Contents) (graph : IsGraph cs) (waiting rest now : List ℕ) (place : ℕ)
    (last : IsLast (Contains waiting) rest place)
    (from : (k : ℕ) → Contains now k → Contains rest k ⊎ IsParentPlace cs place k) where
  -- where the last is taken, and no others wait now than its parents
  pub waits_before : (k : ℕ) → Contains now k → k < place
  waits_before k h = elim (from k h) [ inl more ↦ last.1 k more | inr parent ↦ parent_first cs graph place k parent ]

  pub past-falls : past now < past waiting
  past-falls = most-falls (λ k. k + 1) waiting now place ((last.0 place).1 (inl refl)) (omega arith)
      (λ k h. let l = waits_before k h in omega (arith, l))

-- What waits beside places.
use Rattle.std.proofs.Common.{ℕ, ◌≡◌, ◌↔◌, ◌+◌, ◌-◌, ◌<◌, List, take, get_or, length, Contains, inl, inr, refl}
use Rattle.std.proofs.Common.{sym, subst, arith}
use Rattle.std.proofs.lemmas.Option.{slice_get_within}
use Rattle.hg_changeset.specs.declared.node.Node.{Node}
use Rattle.hg_changeset.specs.Contents.{Contents}
use Rattle.hg_graph.specs.Graph.{IsGraph}
use Rattle.hg_graph.specs.Places.{IsPlaceOfOne}
use Rattle.hg_graph.specs.Waiting.{Widens}
use Rattle.hg_graph.proofs.PlaceLemmas.{parent_first, placed_within}
use Rattle.hg_graph.proofs.WalkLemmas.{taken_one}
use Rattle.hg_instab.specs.declared.settling.Kind.{Kind}
use Rattle.hg_instab.specs.declared.settling.Kind.TheVariants.{Orphan, Extinct}
use Rattle.hg_instab.specs.declared.waiting.Beside.{Beside}
use Rattle.hg_instab.specs.declared.waiting.Beside.TheVariants.{Children, Parents}
use Rattle.hg_instab.specs.Settling.{IsBeside, WaitFrom, IsLater}

-- ---- more of them

-- what waits from the others up to one more
pub wait-more : (beside : Beside) (cs : List Contents) (places others : List ℕ) (i d : ℕ) (between new : List ℕ)
    → i < length others → WaitFrom beside cs places (take i others) between
    → Widens (IsBeside beside cs (get_or others i d)) between new
    → WaitFrom beside cs places (take (i + 1) others) new
wait-more beside cs places others i d between new l before widens k = (
  λ h. elim ((widens k).0 h) [
    | inl was ↦ elim ((before k).0 was) [
      | inl place ↦ inl place
      | inr other ↦ inr (other.0, (taken_one others i d other.0 l).1 (inl other.1), other.2)
    ]
    | inr more ↦ inr (get_or others i d, (taken_one others i d (get_or others i d) l).1 (inr refl), more)
  ],
  λ h. (widens k).1 (elim h [
    | inl place ↦ inl ((before k).1 (inl place))
    | inr other ↦ elim ((taken_one others i d other.0 l).0 other.1) [
      | inl was ↦ inl ((before k).1 (inr (other.0, was, other.2)))
      | inr is ↦ inr (subst (λ j. IsBeside beside cs j k) (sym is) other.2)
    ]
  ]),
)

-- ---- where they are

pub beside-within : (beside : Beside) (cs : List Contents) → IsGraph cs → (j k : ℕ) → j < length cs
    → IsBeside beside cs j k → k < length cs
beside-within Children cs graph j k l h = slice_get_within cs k h.0 h.2
beside-within Parents cs graph j k l h = let before = parent_first cs graph j k h in omega (arith, before, l)

-- what waits is in the graph
pub wait-within : (beside : Beside) (cs : List Contents) → IsGraph cs → (places others waiting : List ℕ)
    → ((k : ℕ) → Contains places k → k < length cs) → ((k : ℕ) → Contains others k → k < length cs)
    → WaitFrom beside cs places others waiting → (k : ℕ) → Contains waiting k → k < length cs
wait-within beside cs graph places others waiting some more from k h = elim ((from k).0 h) [
  | inl place ↦ some k place
  | inr other ↦ beside-within beside cs graph other.0 k (more other.0 other.1) other.2
]

-- ---- where a list and a graph are known by another name

pub wait-along : (beside : Beside) (g cs : List Contents) → g ≡ cs → (places others waiting : List ℕ)
    → WaitFrom beside g places others waiting → WaitFrom beside cs places others waiting
wait-along beside g cs is places others waiting from = subst (λ xs. WaitFrom beside xs places others waiting) is from

-- the places are those of the nodes
module _ (g cs : List Contents) (is : g ≡ cs) (ns : List Node) (found places : List ℕ) (same : places ≡ found)
    (all : (k : ℕ) → Contains found k ↔ IsPlaceOfOne g ns k) where
  pub placed-along : (k : ℕ) → Contains places k ↔ IsPlaceOfOne cs ns k
  placed-along k = subst (λ xs. Contains places k ↔ IsPlaceOfOne xs ns k) is
      (subst (λ ks. Contains ks k ↔ IsPlaceOfOne g ns k) (sym same) (all k))

  pub placed-in : (k : ℕ) → Contains places k → k < length cs
  placed-in k h = let x = (placed-along k).0 h in placed_within cs x.0 k x.2

-- ---- the work that is left

-- how much is left from a place on
abbrev pub left_from : Kind → ℕ → ℕ → ℕ
left_from Orphan len k = len - k
left_from Extinct len k = k + 1

pub left-some : (kind : Kind) (len k : ℕ) → k < len → 0 < left_from kind len k
left-some Orphan len k l = omega (arith, l)
left-some Extinct len k l = omega arith

pub left-falls : (kind : Kind) (len j k : ℕ) → j < len → IsLater kind j k → left_from kind len k < left_from kind len j
left-falls Orphan len j k l later = omega (arith, l, later)
left-falls Extinct len j k l later = omega (arith, later)

-- There is an order for placed nodes: they are put in order one by one.
use Rattle.std.proofs.Common.{◌≡◌, ◌↔◌, ◌⊎◌, inl, inr, List, [], ◌∷◌, get_or}
use Rattle.std.proofs.Common.{Contains, refl, ap, subst, ◌∙◌}
use Rattle.std.specs.List.{AllByRecursion}
use Rattle.std.specs.List.Sorted.{IsStrictlySortedBy}
use Rattle.std.specs.Ordering.{nat_cmp, ordering_then, ordering_reverse}
use Rattle.std.specs.Cmp.{IsTotalOrder}
use Rattle.std.specs.declared.cmp.Ordering.{Ordering}
use Rattle.std.specs.declared.cmp.Ordering.TheVariants.{Less, Equal, Greater}
use Rattle.std.proofs.lemmas.Cmp.{nat_cmp_total, on_total, then_total}
use Rattle.std.proofs.lemmas.List.Elements.{All-from_recursion, recursion_from_All, All-contains}
use Rattle.std.proofs.lemmas.List.Elements.{Contains-get_or}
use Rattle.std.proofs.lemmas.Map.Lookups.{exact_unsigned}
use Rattle.hg_changeset.specs.Node.{node_cmp}
use Rattle.hg_changeset.proofs.NodeLemmas.{node_cmp_exact, node_cmp_total}
use Rattle.hg_changeset.proofs.ListLemmas.{Contains-cons_cases, Contains-first, Contains-later, Contains-none}
use Rattle.hg_discovery.specs.declared.finding.PlacedNode.{PlacedNode}
use Rattle.hg_discovery.specs.Order.{placed_node_cmp}
use Rattle.hg_discovery.proofs.StartLemmas.{one_placed_node}

-- x beside the first of a list, which compares with it so; rest is what follows the first once x is put among that
abbrev put_beside : Ordering → PlacedNode → PlacedNode → List PlacedNode → List PlacedNode → List PlacedNode
put_beside Less x first others rest = first ∷ rest
put_beside Equal x first others rest = first ∷ others
put_beside Greater x first others rest = x ∷ first ∷ others

-- x put into an ascending list, unless it is there
abbrev put : PlacedNode → List PlacedNode → List PlacedNode
put x [] = x ∷ []
put x (y ∷ ys) = put_beside (placed_node_cmp y x) x y ys (put x ys)

-- the placed nodes ascending, each once
abbrev pub ordered : List PlacedNode → List PlacedNode
ordered [] = []
ordered (x ∷ xs) = put x (ordered xs)

-- ---- the order

pub placed_node_total : IsTotalOrder placed_node_cmp
placed_node_total = then_total (on_total (λ (x : PlacedNode). x.node) node_cmp_total)
    (on_total (λ (x : PlacedNode). x.place) nat_cmp_total)

pub placed_node_exact : (x y : PlacedNode) → placed_node_cmp x y ≡ Equal → x ≡ y
placed_node_exact x y h = by (node_cmp x.node y.node) refl h
  where
    by : (o : Ordering) → node_cmp x.node y.node ≡ o → ordering_then o (nat_cmp x.place y.place) ≡ Equal → x ≡ y
    by Less e h = let no : Less ≡ Equal = h in cc
    by Equal e h = one_placed_node x y (node_cmp_exact x.node y.node e) (exact_unsigned x.place y.place h)
    by Greater e h = let no : Greater ≡ Equal = h in cc

greater_back : (x y : PlacedNode) → placed_node_cmp x y ≡ Greater → placed_node_cmp y x ≡ Less
greater_back x y g = placed_node_total.antisymm y x ∙ ap ordering_reverse g

-- ---- what is in it

put_beside_members : (o : Ordering) (x y : PlacedNode) (ys rest : List PlacedNode) (z : PlacedNode)
    → (o ≡ Equal → y ≡ x)
    → Contains rest z ↔ ((x ≡ z) ⊎ Contains ys z)
    → Contains (put_beside o x y ys rest) z ↔ ((x ≡ z) ⊎ Contains (y ∷ ys) z)
put_beside_members Less x y ys rest z same h = (
  λ c. elim (Contains-cons_cases y rest z c) [
    | inl e ↦ inr (subst (Contains (y ∷ ys)) e (Contains-first y ys))
    | inr r ↦ elim (h.0 r) [ inl e ↦ inl e | inr old ↦ inr (Contains-later y ys z old) ]
  ],
  λ c. elim c [
    | inl e ↦ Contains-later y rest z (h.1 (inl e))
    | inr old ↦ elim (Contains-cons_cases y ys z old) [
      | inl e ↦ subst (Contains (y ∷ rest)) e (Contains-first y rest)
      | inr r ↦ Contains-later y rest z (h.1 (inr r))
    ]
  ],
)
put_beside_members Equal x y ys rest z same h = (
  λ c. inr c,
  λ c. elim c [ inl e ↦ subst (Contains (y ∷ ys)) (same refl ∙ e) (Contains-first y ys) | inr old ↦ old ],
)
put_beside_members Greater x y ys rest z same h = (
  λ c. Contains-cons_cases x (y ∷ ys) z c,
  λ c. elim c [
    | inl e ↦ subst (Contains (x ∷ y ∷ ys)) e (Contains-first x (y ∷ ys))
    | inr old ↦ Contains-later x (y ∷ ys) z old
  ],
)

put_members : (x : PlacedNode) (ys : List PlacedNode) (z : PlacedNode)
    → Contains (put x ys) z ↔ ((x ≡ z) ⊎ Contains ys z)
put_members x [] z = (
  λ c. Contains-cons_cases x [] z c,
  λ c. elim c [ inl e ↦ subst (Contains (x ∷ [])) e (Contains-first x []) | inr old ↦ absurd (Contains-none z old) ],
)
put_members x (y ∷ ys) z = put_beside_members (placed_node_cmp y x) x y ys (put x ys) z (placed_node_exact y x)
    (put_members x ys z)

pub ordered_members : (xs : List PlacedNode) (z : PlacedNode) → Contains (ordered xs) z ↔ Contains xs z
ordered_members [] z = (λ c. c, λ c. c)
ordered_members (x ∷ xs) z = (
  λ c. elim ((put_members x (ordered xs) z).0 c) [
    | inl e ↦ subst (Contains (x ∷ xs)) e (Contains-first x xs)
    | inr old ↦ Contains-later x xs z ((ordered_members xs z).0 old)
  ],
  λ c. (put_members x (ordered xs) z).1 (elim (Contains-cons_cases x xs z c) [
    | inl e ↦ inl e
    | inr later ↦ inr ((ordered_members xs z).1 later)
  ]),
)

-- ---- it ascends

abbrev Above : PlacedNode → List PlacedNode → Type 0
Above y zs = AllByRecursion (λ z. placed_node_cmp y z ≡ Less) zs

above_all : (y : PlacedNode) (zs : List PlacedNode) → ((z : PlacedNode) → Contains zs z → placed_node_cmp y z ≡ Less)
    → Above y zs
above_all y zs each =
    recursion_from_All (λ z. placed_node_cmp y z ≡ Less) zs (λ k d l. each (get_or zs k d) (Contains-get_or zs k d l))

above_each : (y : PlacedNode) (zs : List PlacedNode) → Above y zs → (z : PlacedNode) → Contains zs z
    → placed_node_cmp y z ≡ Less
above_each y zs h z = All-contains (λ x. placed_node_cmp y x ≡ Less) zs z
    (All-from_recursion (λ x. placed_node_cmp y x ≡ Less) zs h)

put_beside_sorted : (o : Ordering) (x y : PlacedNode) (ys : List PlacedNode) → placed_node_cmp y x ≡ o → Above y ys
    → IsStrictlySortedBy placed_node_cmp ys → IsStrictlySortedBy placed_node_cmp (put x ys)
    → IsStrictlySortedBy placed_node_cmp (put_beside o x y ys (put x ys))
unfolding IsStrictlySortedBy
put_beside_sorted Less x y ys e above sorted rest = (
  above_all y (put x ys) (λ z c. elim ((put_members x ys z).0 c) [
    | inl same ↦ subst (λ v. placed_node_cmp y v ≡ Less) same e
    | inr old ↦ above_each y ys above z old
  ]),
  rest,
)
put_beside_sorted Equal x y ys e above sorted rest = (above, sorted)
put_beside_sorted Greater x y ys e above sorted rest =
    let before : placed_node_cmp x y ≡ Less = greater_back y x e in (
      above_all x (y ∷ ys) (λ z c. elim (Contains-cons_cases y ys z c) [
        | inl same ↦ subst (λ v. placed_node_cmp x v ≡ Less) same before
        | inr old ↦ placed_node_total.trans x y z before (above_each y ys above z old)
      ]),
      (above, sorted),
    )

put_sorted : (x : PlacedNode) (ys : List PlacedNode) → IsStrictlySortedBy placed_node_cmp ys
    → IsStrictlySortedBy placed_node_cmp (put x ys)
unfolding IsStrictlySortedBy
put_sorted x [] h = (tt, tt)
put_sorted x (y ∷ ys) h = put_beside_sorted (placed_node_cmp y x) x y ys refl h.0 h.1 (put_sorted x ys h.1)

pub ordered_sorted : (xs : List PlacedNode) → IsStrictlySortedBy placed_node_cmp (ordered xs)
unfolding IsStrictlySortedBy
ordered_sorted [] = tt
ordered_sorted (x ∷ xs) = put_sorted x (ordered xs) (ordered_sorted xs)

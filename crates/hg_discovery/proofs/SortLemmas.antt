-- Placed nodes in the order of their ids.
use Rattle.std.proofs.Common.{◌≡◌, ◌↔◌, ℕ, Bool, true, false, List, [], ◌∷◌, get_or, Contains, refl, sym, ap, subst}
use Rattle.std.proofs.Common.{◌∙◌, arith, ◌&&◌, true≢false, eqb-true}
use lib.Dec.{eqb}
use Rattle.std.specs.List.{AllPairs}
use Rattle.std.specs.List.Sorted.{IsStrictlySortedBy}
use Rattle.std.specs.Ordering.{nat_cmp, ordering_then, ordering_reverse}
use Rattle.std.specs.declared.cmp.Ordering.{Ordering}
use Rattle.std.specs.declared.cmp.Ordering.TheVariants.{Less, Equal, Greater}
use Rattle.std.proofs.lemmas.Cmp.{nat_cmp_total}
use Rattle.std.proofs.lemmas.List.Elements.{All-from_recursion, Contains-get_or}
use Rattle.std.proofs.lemmas.List.Kept.{AllPairs-cons}
use Rattle.hg_changeset.specs.Node.{node_cmp, node_eq}
use Rattle.hg_changeset.proofs.NodeLemmas.{node_cmp_exact, same_node}
use Rattle.hg_discovery.specs.declared.finding.PlacedNode.{PlacedNode}
use Rattle.hg_discovery.specs.Order.{placed_node_cmp}
use Rattle.hg_discovery.specs.Search.{IsAscending, Lists}
use Rattle.hg_discovery.proofs.StartLemmas.{one_placed_node}

pub pairs : (xs : List PlacedNode) → IsStrictlySortedBy placed_node_cmp xs
    → AllPairs (λ x y. placed_node_cmp x y ≡ Less) xs
unfolding IsStrictlySortedBy
pairs [] h = λ i j d lt within. absurd (omega (arith, within))
pairs (x ∷ xs) h = AllPairs-cons (λ y z. placed_node_cmp y z ≡ Less) x xs
    (All-from_recursion (λ y. placed_node_cmp x y ≡ Less) xs h.0) (pairs xs h.1)

not_below_itself : (p q : ℕ) → q ≡ p → nat_cmp p q ≡ Less → ⊥
not_below_itself p q e l =
    let itself : nat_cmp p p ≡ Less = subst (λ z. nat_cmp p z ≡ Less) e l in
    let other : nat_cmp p p ≡ ordering_reverse Less = nat_cmp_total.antisymm p p ∙ ap ordering_reverse itself in
    cc (sym itself ∙ other)

by_node : (o : Ordering) (x y : PlacedNode) → node_cmp x.node y.node ≡ o → (x.node ≡ y.node → y.place ≡ x.place)
    → ordering_then o (nat_cmp x.place y.place) ≡ Less → o ≡ Less
by_node Less x y e same h = refl
by_node Equal x y e same h = absurd (not_below_itself x.place y.place (same (node_cmp_exact x.node y.node e)) h)
by_node Greater x y e same h = h

-- where no two have one id
pub ascending_placed_nodes : (xs : List PlacedNode) → ((x y : PlacedNode) → Contains xs x → Contains xs y
    → x.node ≡ y.node → x ≡ y)
    → IsStrictlySortedBy placed_node_cmp xs → IsAscending xs
ascending_placed_nodes xs distinct sorted i j d lt within =
    let x = get_or xs i d in
    let y = get_or xs j d in
    let in_x = Contains-get_or xs i d (omega (arith, lt, within)) in
    let in_y = Contains-get_or xs j d within in
    let less = pairs xs sorted i j d lt within in
    let place = λ (e : x.node ≡ y.node). ap (λ (z : PlacedNode). z.place) (sym (distinct x y in_x in_y e)) in
    by_node (node_cmp x.node y.node) x y refl place less

-- the derived test
abbrev pub placed_node_eq : PlacedNode → PlacedNode → Bool
placed_node_eq x y = node_eq x.node y.node && eqb x.place y.place

both_true : (a b : Bool) → (a && b) ≡ true → (a ≡ true) × (b ≡ true)
both_true true true h = (refl, refl)
both_true true false h = absurd (true≢false (sym h))
both_true false true h = absurd (true≢false (sym h))
both_true false false h = absurd (true≢false (sym h))

pub same_placed_node : (x y : PlacedNode) → placed_node_eq x y ≡ true → x ≡ y
same_placed_node x y h =
    let parts = both_true (node_eq x.node y.node) (eqb x.place y.place) h in
    one_placed_node x y (same_node x.node y.node parts.0) (eqb-true x.place y.place parts.1)

-- placed nodes in strict order of which P holds
pub sorted_lists : (xs : List PlacedNode) (P : PlacedNode → Type 0)
    → ((x y : PlacedNode) → Contains xs x → Contains xs y → x.node ≡ y.node → x ≡ y) → (some : List PlacedNode)
    → IsStrictlySortedBy placed_node_cmp some → ((x : PlacedNode) → P x → Contains xs x)
    → ((x : PlacedNode) → Contains some x ↔ P x)
    → Lists P some
sorted_lists xs P distinct some sorted within are = (
  ascending_placed_nodes some (λ x y hx hy e. distinct x y (within x ((are x).0 hx))
      (within y ((are y).0 hy)) e) sorted,
  are,
)

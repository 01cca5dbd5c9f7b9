-- Numbers of ids in lists where none stands twice.
use Rattle.std.proofs.Common.{◌≡◌, ℕ, ◌<◌, true, false, List, [], ◌∷◌, length, slice_get, get_or, Some, None}
use Rattle.std.proofs.Common.{inl, inr, refl, sym, ◌∙◌, arith, true≢false, zero, suc}
use Rattle.std.proofs.Common.{◌≢◌, Option, is_some, take}
use Rattle.std.specs.BTreeMap.{is_at}
use Rattle.std.specs.List.{IsDistinct, list_any, position_or_len}
use Rattle.std.specs.Ordering.{is_eq}
use Rattle.std.specs.declared.cmp.Ordering.{Ordering}
use Rattle.std.specs.declared.cmp.Ordering.TheVariants.{Less, Equal, Greater}
use Rattle.std.proofs.lemmas.Bool.{cases_order, false_from_ne_true}
use Rattle.std.proofs.lemmas.Grind.{common_steps}
use Rattle.std.proofs.lemmas.List.Quantifiers.{position-Some}
use Rattle.std.proofs.lemmas.List.Sums.{position_or_len_is}
use Rattle.std.proofs.lemmas.Map.Keys.{apart_from_distinct}
use Rattle.std.proofs.lemmas.Map.Views.{Contains-from_any, list_any-from_Contains}
use Rattle.std.proofs.lemmas.Option.{get_or_from_slice_get, none-some, slice_get_read, slice_get_within}
use Rattle.hg_changeset.specs.declared.node.Node.{Node}
use Rattle.hg_changeset.specs.Node.{node_cmp, node_eq}
use Rattle.hg_changeset.proofs.NodeLemmas.{node_apart, node_cmp_exact, node_eq_laws, node_itself, same_node}
use Rattle.hg_changeset.proofs.ListLemmas.{Contains-from_place, place_from_Contains}
use Rattle.hg_node_set.specs.Keys.{number_of}

-- an id stands at one place only
not_later : (ns : List Node) (n : Node) (i j : ℕ) → IsDistinct node_eq ns → slice_get ns i ≡ Some n
    → slice_get ns j ≡ Some n → i < j → ⊥
not_later ns n i j d at_i at_j l =
    let apart = apart_from_distinct node_eq ns i j n d l (slice_get_within ns j n at_j) in
    let first = sym (get_or_from_slice_get ns i n n at_i) in
    let later = sym (get_or_from_slice_get ns j n n at_j) in
    true≢false (sym (node_eq_laws.refl n) ∙ (λ t. node_eq (first t) (later t)) ∙ apart)

pub same_place : (ns : List Node) (n : Node) (i j : ℕ) → IsDistinct node_eq ns → slice_get ns i ≡ Some n
    → slice_get ns j ≡ Some n → j ≡ i
same_place ns n i j d at_i at_j =
    elim (cases_order i j) [
      | inl e ↦ sym e
      | inr o ↦ elim o [
        | inl l ↦ absurd (not_later ns n i j d at_i at_j l)
        | inr l ↦
            absurd (not_later ns n j i d at_j at_i l)
      ]
    ]

read : (ns : List Node) (k : ℕ) (n : Node) → k < length ns → n ≡ get_or ns k n → slice_get ns k ≡ Some n
read ns k n within is = slice_get_read ns (length ns) k n refl within is

-- an id has the number of its place
pub number_at : (ns : List Node) (n : Node) (k : ℕ) → IsDistinct node_eq ns → slice_get ns k ≡ Some n
    → number_of ns n ≡ Some k
number_at ns n k d at =
    let within : k < length ns = slice_get_within ns k n at in
    let before : (j : ℕ) → j < k → node_eq n (get_or ns j n) ≡ false =
    λ j lt. node_apart n (get_or ns j n) (λ e. not_later ns n j k d (read ns j n (omega arith) e) at lt) in
    let is : position_or_len (node_eq n) ns ≡ k =
    position_or_len_is (node_eq n) ns k n (omega arith) before
    (λ _. node_itself n (get_or ns k n) (sym (get_or_from_slice_get ns k n n at))) in
    grind (arith, common_steps)

pub held_at : (ns : List Node) (n : Node) (k : ℕ) → number_of ns n ≡ Some k → slice_get ns k ≡ Some n
held_at ns n k h =
    let found = position-Some (node_eq n) ns k n h in
    read ns k n found.0 (same_node n (get_or ns k n) found.1)

-- whether an id is there is told by its number
pub any_at : (ns : List Node) (n : Node) (k : ℕ) → slice_get ns k ≡ Some n → list_any (node_eq n) ns ≡ true
any_at ns n k at = list_any-from_Contains node_eq_laws n ns (Contains-from_place ns k n at)

pub none_at : (ns : List Node) (n : Node) → IsDistinct node_eq ns → number_of ns n ≡ None
    → list_any (node_eq n) ns ≡ false
none_at ns n d none = false_from_ne_true (list_any (node_eq n) ns)
    (λ h. let at = place_from_Contains ns n (Contains-from_any same_node n ns h) in
    none-some at.0 (sym none ∙ number_at ns n at.0 d at.1))

-- an element of a front of the list
pub get-take : {X : Type 0} (xs : List X) (n i : ℕ) (x : X) → slice_get (take n xs) i ≡ Some x
    → (i < n) × (slice_get xs i ≡ Some x)
get-take xs zero i x h = absurd (none-some x h)
get-take [] (suc n) i x h = absurd (none-some x h)
get-take (y ∷ xs) (suc n) zero x h = (omega arith, h)
get-take (y ∷ xs) (suc n) (suc i) x h = let r = get-take xs n i x h in (omega arith, r.1)

-- whether an id is there is whether it has a number
pub is_there : (ns : List Node) (n : Node) → IsDistinct node_eq ns
    → is_some (number_of ns n) ≡ list_any (node_eq n) ns
is_there ns n d = by (number_of ns n) refl
  where
    by : (o : Option ℕ) → number_of ns n ≡ o → is_some o ≡ list_any (node_eq n) ns
    by (Some k) e = sym (any_at ns n k (held_at ns n k e))
    by None e = sym (none_at ns n d e)

-- another id isn't found by this one
equal_told : (o : Ordering) → is_eq o ≡ true → o ≡ Equal
equal_told Less h = absurd cc
equal_told Equal h = refl
equal_told Greater h = absurd cc

pub not_at : (node q : Node) → q ≢ node → is_at (node_cmp node) q ≡ false
not_at node q other =
    false_from_ne_true (is_at (node_cmp node) q)
    (λ h. other (sym (node_cmp_exact node q (equal_told (node_cmp node q) h))))

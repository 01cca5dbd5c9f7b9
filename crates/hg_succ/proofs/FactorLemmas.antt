-- Products and sums of counts, and where they pass the limit.
use Rattle.std.proofs.Common.{◌≡◌, ℕ, ◌+◌, ◌-◌, ◌*◌, ◌<◌, ◌≤◌, ◌^◌, max, min, List, [], ◌∷◌, ◌++◌, length, sum, take}
use Rattle.std.proofs.Common.{drop, get_or, Contains, inl, inr, refl, sym, ap, subst, ◌∙◌, arith, Option, Some, None}
use Rattle.std.proofs.Common.{zero-add}
use Rattle.std.proofs.Math.Nat.{le-mul_of_pos_right, mul_assoc, mul-one, one-mul}
use Rattle.std.proofs.lemmas.List.{take-append-drop, map-append, take_more}
use Rattle.std.proofs.lemmas.List.Sums.{sum_by-append}
use Rattle.std.proofs.lemmas.Option.{none-some, same_Some}
use Rattle.hg_changeset.specs.declared.node.Node.{Node}
use Rattle.hg_marker.specs.Fields.{Fields}
use Rattle.hg_succ.specs.declared.families.Table.{Table}
use Rattle.hg_succ.specs.Successors.{ways}
use Rattle.hg_succ.specs.Numbered.{successors_at}
use Rattle.hg_succ.specs.Cover.{Known, entry, count_in, NoneOverfull}
use Rattle.hg_succ.specs.Cover.Known.{are_sets, counted, overfull}
use Rattle.hg_succ.specs.Unions.{counts}
use Rattle.hg_succ.specs.Factors.{factor_in, HasWays, HasManyWays, ways_at, many_at, have_none, empties_at}
use Rattle.std.proofs.lemmas.Bool.{cases_Bool}
use Rattle.hg_succ.proofs.NumberLemmas.{more_of}
use Rattle.hg_succ.proofs.SetLemmas.{filter_take, filter_drop}
use Rattle.hg_succ.specs.Limits.{union_limit}

factor_pos : (c : ℕ) → 0 < max c 1
factor_pos c = omega arith

pub ways_pos : (cs : List ℕ) → 0 < ways cs
ways_pos [] = omega arith
ways_pos (c ∷ cs) = (let a = ways_pos cs in let b = factor_pos c in let l = le-mul_of_pos_right (max c 1) a in
    omega arith)

pub ways-append : (cs ds : List ℕ) → ways (cs ++ ds) ≡ ways cs * ways ds
ways-append [] ds = sym (one-mul (ways ds))
ways-append (c ∷ cs) ds = ap (λ n. max c 1 * n) (ways-append cs ds) ∙ sym (mul_assoc (max c 1) (ways cs) (ways ds))

pub ways_front : (cs ds : List ℕ) → ways cs ≤ ways (cs ++ ds)
ways_front cs ds = (let e = ways-append cs ds in let l = le-mul_of_pos_right (ways cs) (ways_pos ds) in
    omega (arith, e, l))

pub ways_push : (cs : List ℕ) (c : ℕ) → ways (cs ++ c ∷ []) ≡ ways cs * max c 1
ways_push cs c = ways-append cs (c ∷ []) ∙ ap (λ n. ways cs * n) (mul-one (max c 1))

-- what a factor says of what is known
pub factor_some : (o : Option Known) (f : ℕ) → factor_in o ≡ Some f → (f ≡ max (count_in o) 1)
    × ((o ≡ Some overfull) → ⊥)
factor_some None f e = (sym (same_Some 1 f e), λ h. none-some overfull h)
factor_some (Some overfull) f e = absurd (none-some f e)
factor_some (Some (are_sets family)) f e =
    (sym (same_Some (max (length family) 1) f e), λ h. (let g = same_Some (are_sets family) overfull h in cc))
factor_some (Some (counted count)) f e =
    (sym (same_Some (max count 1) f e), λ h. (let g = same_Some (counted count) overfull h in cc))

pub factor_none : (o : Option Known) → factor_in o ≡ None → o ≡ Some overfull
factor_none None e = absurd (none-some 1 (sym e))
factor_none (Some overfull) e = refl
factor_none (Some (are_sets family)) e = absurd (none-some (max (length family) 1) (sym e))
factor_none (Some (counted count)) e = absurd (none-some (max count 1) (sym e))

module _ (t : Table) (nodes : List Node) (i : ℕ) (x : Node) (inside : i < length nodes)
    (read : x ≡ get_or nodes i x) where
  split_nodes : take (i + 1) nodes ≡ take i nodes ++ x ∷ []
  split_nodes = take_more nodes i x inside ∙ ap (λ (z : Node). take i nodes ++ z ∷ []) (sym read)

  counts_more : counts t (take (i + 1) nodes) ≡ counts t (take i nodes) ++ count_in (entry t x) ∷ []
  counts_more = ap (counts t) split_nodes ∙ map-append (λ n. count_in (entry t n)) (take i nodes) (x ∷ [])

  ways_more : ways (counts t (take (i + 1) nodes)) ≡ ways (counts t (take i nodes)) * max (count_in (entry t x)) 1
  ways_more = ap ways counts_more ∙ ways_push (counts t (take i nodes)) (count_in (entry t x))

  ways_all : ways (counts t (take (i + 1) nodes)) ≤ ways (counts t nodes)
  ways_all =
      let e : counts t nodes ≡ counts t (take (i + 1) nodes) ++ counts t (drop (i + 1) nodes) =
      ap (counts t) (sym (take-append-drop (i + 1) nodes)) ∙ map-append (λ n. count_in (entry t n))
      (take (i + 1) nodes) (drop (i + 1) nodes) in
      let l = ways_front (counts t (take (i + 1) nodes)) (counts t (drop (i + 1) nodes)) in
      omega (arith, l, ap ways e)

  node_in : Contains nodes x
  node_in = (i, inside, sym read)

  -- the next node is overfull
  pub stops_overfull : factor_in (entry t x) ≡ None → HasManyWays t nodes
  stops_overfull e = inl (x, node_in, factor_none (entry t x) e)

  module _ (w f : ℕ) (few : HasWays t (take i nodes) w) (factor : factor_in (entry t x) ≡ Some f) (p : ℕ)
      (product : p ≡ min (w * f) (2 ^ 64 - 1)) where
    full : ways (counts t (take (i + 1) nodes)) ≡ w * f
    full = ways_more ∙ (λ j. sym few.ways j * sym (factor_some (entry t x) f factor).0 j)

    pub stops_many : union_limit < p → HasManyWays t nodes
    stops_many l = inr (let e = full in let b = ways_all in omega (arith, e, b, product, l))

    pub goes_on : p ≤ union_limit → HasWays t (take (i + 1) nodes) p
    goes_on l = record {
      ways = (let e = full in let k : p ≡ w * f = omega (arith, product, l) in k ∙ sym e);
      few = l;
      full = λ y h. elim ((more_of nodes i x inside read y).0 h) [
        | inl before ↦ few.full y before
        | inr same ↦ subst (λ z. entry t z ≡ Some overfull → ⊥) same (factor_some (entry t x) f factor).1
      ];
    }

-- the same for the markers at places
module _ (t : Table) (markers : List Fields) (places : List ℕ) (i place : ℕ) (inside : i < length places)
    (read : place ≡ get_or places i place) where
  split_places : take (i + 1) places ≡ take i places ++ place ∷ []
  split_places = take_more places i place inside ∙ ap (λ (z : ℕ). take i places ++ z ∷ []) (sym read)

  sum_more : sum (ways_at t markers (take (i + 1) places)) ≡ sum (ways_at t markers (take i places))
      + ways (counts t (successors_at markers place))
  sum_more =
      let one : sum (ways (counts t (successors_at markers place)) ∷ [])
      ≡ ways (counts t (successors_at markers place)) = zero-add (ways (counts t (successors_at markers place))) in
      ap (λ (ps : List ℕ). sum (ways_at t markers ps)) split_places
      ∙ ap sum (map-append (λ p. ways (counts t (successors_at markers p))) (take i places) (place ∷ []))
      ∙ sum_by-append (λ n. n) (ways_at t markers (take i places)) (ways (counts t (successors_at markers place)) ∷ [])
      ∙ ap (λ n. sum (ways_at t markers (take i places)) + n) one

  sum_all : sum (ways_at t markers (take (i + 1) places)) ≤ sum (ways_at t markers places)
  sum_all =
      let e = ap (λ (ps : List ℕ). sum (ways_at t markers ps)) (sym (take-append-drop (i + 1) places))
      ∙ ap sum (map-append (λ p. ways (counts t (successors_at markers p))) (take (i + 1) places) (drop (i + 1) places))
      ∙ sum_by-append (λ n. n) (ways_at t markers (take (i + 1) places)) (ways_at t markers (drop (i + 1) places)) in
      omega (arith, e)

  place_in : Contains places place
  place_in = (i, inside, sym read)

  -- one of the markers alone is too much
  one_too_many : ways (counts t (successors_at markers place)) ≤ sum (ways_at t markers places)
  one_too_many = (let a = sum_more in let b = sum_all in omega (arith, a, b))

  pub stops_there : HasManyWays t (successors_at markers place) → many_at t markers places
  stops_there h = elim h [
    | inl over ↦ inl (place, place_in, over)
    | inr many ↦ inr (let l = one_too_many in omega (arith, l, many))
  ]

  module _ (total w : ℕ) (so_far : ((p : ℕ) → Contains (take i places) p → NoneOverfull t (successors_at markers p))
      × (total ≡ sum (ways_at t markers (take i places)))) (few : HasWays t (successors_at markers place) w) where
    sum_is : sum (ways_at t markers (take (i + 1) places)) ≡ total + w
    sum_is = (let e = sum_more in omega (arith, e, so_far.1, few.ways))

    pub sum_stops : union_limit < total + w → many_at t markers places
    sum_stops l = inr (let a = sum_is in let b = sum_all in omega (arith, a, b, l))

    pub sum_goes_on : ((p : ℕ) → Contains (take (i + 1) places) p → NoneOverfull t (successors_at markers p))
        × (total + w ≡ sum (ways_at t markers (take (i + 1) places)))
    sum_goes_on = (
      (λ p h. elim ((more_of places i place inside read p).0 h) [
        | inl before ↦ so_far.0 p before
        | inr same ↦ subst (λ q. NoneOverfull t (successors_at markers q)) same few.full
      ]),
      sym sum_is,
    )

-- each marker gives a union, so there are no fewer than markers that give the empty one
pub empties_few : (t : Table) (markers : List Fields) (places : List ℕ)
    → empties_at t markers places ≤ sum (ways_at t markers places)
empties_few t markers [] = omega arith
empties_few t markers (p ∷ ps) =
    let rest = empties_few t markers ps in
    let one = ways_pos (counts t (successors_at markers p)) in
    let first : sum (ways_at t markers (p ∷ ps))
    ≡ ways (counts t (successors_at markers p)) + sum (ways_at t markers ps)
    = sum_by-append (λ n. n) (ways (counts t (successors_at markers p)) ∷ []) (ways_at t markers ps)
    ∙ ap (λ k. k + sum (ways_at t markers ps)) (zero-add (ways (counts t (successors_at markers p)))) in
    let test = λ (q : ℕ). have_none t (successors_at markers q) in
    elim (cases_Bool (test p)) [
      | inl empty ↦ (let e = ap length (filter_take test p ps empty) in omega (arith, rest, one, first, e))
      | inr some ↦ (let e = ap length (filter_drop test p ps some) in omega (arith, rest, one, first, e))
    ]

-- Where roots stand before and after changesets were added and phases went down.
use Rattle.std.proofs.Common.{◌≡◌, ℕ, zero, suc, ◌+◌, ◌<◌, ◌≤◌, true, false, List, [], ◌∷◌, ◌++◌, length}
use Rattle.std.proofs.Common.{take, drop, set, get_or, slice_get, Some, None, Option, Contains, Bool, ◌↔◌}
use Rattle.std.proofs.Common.{◌⊎◌, inl, inr, refl, sym, ap, subst, ◌∙◌, append_assoc, append-nil, arith, true≢false}
use Rattle.std.specs.List.Sorted.{IsStrictlySortedBy}
use Rattle.std.specs.Ordering.{nat_cmp}
use Rattle.std.proofs.lemmas.Bool.{cases_eq, cases_lt}
use Rattle.std.proofs.lemmas.List.{take-map, length-set, length-take-le}
use Rattle.std.proofs.lemmas.Map.Keys.{below_from_sorted}
use Rattle.std.proofs.lemmas.Option.{none-some, same_Some, slice_get_within, get_or_from_slice_get}
use Rattle.hg_changeset.specs.declared.node.Node.{Node}
use Rattle.hg_changeset.specs.Contents.{Contents}
use Rattle.hg_changeset.specs.Changeset.{node_of}
use Rattle.hg_changeset.proofs.ListLemmas.{slice_get-take, slice_get_some, Contains-none, Contains-first}
use Rattle.hg_changeset.proofs.ListLemmas.{Contains-later, Contains-cons_cases}
use Rattle.hg_graph.specs.Graph.{IsGraph, IsParent, nodes}
use Rattle.hg_graph.specs.Places.{IsAt, IsParentPlace}
use Rattle.hg_graph.proofs.GraphLemmas.{get-take, Contains-from_place, place_from_Contains}
use Rattle.hg_graph.proofs.PlaceLemmas.{parent_first, placed_within, IsAt-from, IsAt-within}
use Rattle.hg_graph.proofs.MarkLemmas.{get-set_same, get-set_other}
use Rattle.hg_graph.proofs.WalkLemmas.{taken_one}
use Rattle.hg_phases.specs.declared.phase.Phase.{Phase}
use Rattle.hg_phases.specs.declared.lowered.LoweredPlace.{LoweredPlace}
use Rattle.hg_phases.specs.Log.{IsLog}
use Rattle.hg_phases.specs.State.{Held, held_of, state_of}
use Rattle.hg_phases.specs.Roots.{IsRoot, AreRootsAmong, AreRoots}
use Rattle.hg_phases.specs.RootPlaces.{HasParentIn, IsRootPlace, AreRootPlaces, IsPlaceOrChild, IsTouched, IsUpToDate}
use Rattle.hg_phases.specs.RootPlaces.{AreRecomputed}
use Rattle.hg_phases.proofs.PlaceLemmas.{held-at, parts-at}

-- ---- the first places of a graph

module _ (cs : List Contents) (graph : IsGraph cs) (ks : List Phase) (n : ℕ) where
  parent-front : (p q : ℕ) → p < n → IsParentPlace cs p q → IsParentPlace (take n cs) p q
  parent-front p q l parent =
      let lower = parent_first cs graph p q parent in (
        parent.0,
        parent.1,
        slice_get-take cs n p parent.0 l parent.2,
        parent.3,
        subst (λ ns. slice_get ns q ≡ Some parent.1) (take-map node_of n cs)
            (slice_get-take (nodes cs) n q parent.1 (omega (arith, lower, l)) parent.4),
      )

  parent-whole : (p q : ℕ) → IsParentPlace (take n cs) p q → IsParentPlace cs p q
  parent-whole p q parent = (
    parent.0,
    parent.1,
    (get-take cs n p parent.0 parent.2).1,
    parent.3,
    (get-take (nodes cs) n q parent.1
        (subst (λ ns. slice_get ns q ≡ Some parent.1) (sym (take-map node_of n cs)) parent.4)).1,
  )

  root-front : (p : ℕ) → p < n → IsRootPlace cs ks p → IsRootPlace (take n cs) (take n ks) p
  root-front p l (k, at, np, none) =
      (k, slice_get-take ks n p k l at, np, λ h. none (h.0, parent-whole p h.0 h.1, (get-take ks n h.0 k h.2).1))

  root-whole : (p : ℕ) → IsRootPlace (take n cs) (take n ks) p → IsRootPlace cs ks p
  root-whole p (k, at, np, none) =
      let x = get-take ks n p k at in (
        k,
        x.1,
        np,
        λ h.
            let lower = parent_first cs graph p h.0 h.1 in
            none (h.0, parent-front p h.0 x.0 h.1, slice_get-take ks n h.0 k (omega (arith, lower, x.0)) h.2),
      )

-- ---- flags of a graph's first places

-- the first flags are those of the first places
pub roots-taken : (cs : List Contents) → IsGraph cs → (ks : List Phase) (n : ℕ) (flags : List Bool) → n ≤ length cs
    → AreRootPlaces cs ks flags → AreRootPlaces (take n cs) (take n ks) (take n flags)
roots-taken cs graph ks n flags le are = record {
  len = length-take-le n flags (omega (arith, le, are.len)) ∙ sym (length-take-le n cs le);
  up_to_date = λ p. (
    λ at. let x = get-take flags n p true at in root-front cs graph ks n p x.0 ((are.up_to_date p).0 x.1),
    λ root. slice_get-take flags n p true (get-take ks n p root.0 root.1).0
        ((are.up_to_date p).1 (root-whole cs graph ks n p root)),
  );
}

-- ---- recomputing

module _ (cs : List Contents) (ks : List Phase) where
  up_to_date-same : (old new : List Bool) (p : ℕ) → IsUpToDate cs ks old p → slice_get new p ≡ slice_get old p
      → IsUpToDate cs ks new p
  up_to_date-same old new p is e = ((λ at. is.0 (sym e ∙ at)), (λ root. e ∙ is.1 root))

  -- a root was flagged
  pub recompute-root : (flags : List Bool) (place : ℕ) → place < length flags → IsRootPlace cs ks place
      → (new : List Bool) → new ≡ set flags place true → AreRecomputed cs ks (λ p. place ≡ p) flags new
  recompute-root flags place l root new is = subst (AreRecomputed cs ks (λ p. place ≡ p) flags) (sym is) (record {
    len = length-set flags place true;
    each = λ p. elim (cases_eq p place) [
      | inl e ↦ inl (subst (IsUpToDate cs ks (set flags place true)) (sym e)
          ((λ at. root), (λ x. get-set_same flags place true l)))
      | inr ne ↦ inr ((λ e. ne (sym e)), get-set_other flags place p true ne)
    ];
  })

  -- the flag was taken down where no root stands
  pub recompute-other : (flags : List Bool) (place : ℕ) → place < length flags → ¬ (IsRootPlace cs ks place)
      → (new : List Bool) → new ≡ set flags place false → AreRecomputed cs ks (λ p. place ≡ p) flags new
  recompute-other flags place l none new is = subst (AreRecomputed cs ks (λ p. place ≡ p) flags) (sym is) (record {
    len = length-set flags place false;
    each = λ p. elim (cases_eq p place) [
      | inl e ↦ inl (subst (IsUpToDate cs ks (set flags place false)) (sym e) (
        (λ at. absurd
            (true≢false (same_Some true false (sym at ∙ get-set_same flags place false l)))),
        (λ root. absurd (none root)),
      ))
      | inr ne ↦ inr ((λ e. ne (sym e)), get-set_other flags place p false ne)
    ];
  })

  -- one recomputation after another
  pub recomputed-then : (P Q R : ℕ → Type 0) (old mid new : List Bool) → AreRecomputed cs ks P old mid
      → AreRecomputed cs ks Q mid new → ((p : ℕ) → R p → P p ⊎ Q p) → AreRecomputed cs ks R old new
  recomputed-then P Q R old mid new first second covers = record {
    len = second.len ∙ first.len;
    each = λ p. elim (second.each p) [
      | inl is ↦ inl is
      | inr x ↦ elim (first.each p) [
        | inl is ↦ inl (up_to_date-same mid new p is x.1)
        | inr y ↦ inr ((λ r. elim (covers p r) [ inl a ↦ y.0 a | inr b ↦ x.0 b ]), x.1 ∙ y.1)
      ]
    ];
  }

  -- fewer are recomputed
  pub recomputed-less : (P R : ℕ → Type 0) (old new : List Bool) → AreRecomputed cs ks P old new
      → ((p : ℕ) → R p → P p) → AreRecomputed cs ks R old new
  recomputed-less P R old new s fewer = record {
    len = s.len;
    each = λ p. elim (s.each p) [ inl is ↦ inl is | inr x ↦ inr ((λ r. x.0 (fewer p r)), x.1) ];
  }

  -- all places from one on
  pub recomputed-from : (n m : ℕ) (old new : List Bool) → length ks ≡ length cs → length old ≡ length cs
      → AreRecomputed cs ks (λ p. (n ≤ p) × (p < m)) old new → length cs ≤ m → AreRecomputed cs ks (λ p. n ≤ p) old new
  recomputed-from n m old new len long s le = record {
    len = s.len;
    each = λ p. elim (s.each p) [
      | inl is ↦ inl is
      | inr x ↦ elim (cases_lt p m) [
        | inl l ↦ inr ((λ ge. x.0 (ge, l)), x.1)
        | inr past ↦ inl (
          λ at. let l = slice_get_within new p true at in absurd (omega (arith, l, s.len, long, le, past)),
          λ root. let l = slice_get_within ks p root.0 root.1 in absurd (omega (arith, l, len, le, past)),
        )
      ]
    ];
  }

-- one that was logged more
pub touched-one : (cs : List Contents) (log : List LoweredPlace) (i : ℕ) (d : LoweredPlace) → i < length log
    → (p : ℕ) → IsTouched cs (take (i + 1) log) p
    → IsTouched cs (take i log) p ⊎ IsPlaceOrChild cs (get_or log i d).place p
touched-one cs log i d l p (e, at, family) = elim ((taken_one log i d e l).0 at) [
  | inl before ↦ inl (e, before, family)
  | inr same ↦ inr (subst (λ x. IsPlaceOrChild cs x.place p) (sym same) family)
]

-- ---- what stays

-- where neither a place nor a parent of it differs, a root stands in both or in none
module _ (cs : List Contents) (ks ls : List Phase) (D : ℕ → Type 0)
    (same : (j : ℕ) → (slice_get ls j ≡ slice_get ks j) ⊎ D j) where
  pub alike-root : (p : ℕ) → ((j : ℕ) → D j → ¬ (IsPlaceOrChild cs j p)) → IsRootPlace cs ks p → IsRootPlace cs ls p
  alike-root p un (k, at, np, none) = elim (same p) [
    | inr d ↦ absurd (un p d (inl refl))
    | inl e ↦ (
      k,
      e ∙ at,
      np,
      λ h. elim (same h.0) [ inr d ↦ un h.0 d (inr h.1) | inl f ↦ none (h.0, h.1, sym f ∙ h.2) ],
    )
  ]

other-way : (ks ls : List Phase) (D : ℕ → Type 0) → ((j : ℕ) → (slice_get ls j ≡ slice_get ks j) ⊎ D j)
    → (j : ℕ) → (slice_get ks j ≡ slice_get ls j) ⊎ D j
other-way ks ls D same j = elim (same j) [ inl e ↦ inl (sym e) | inr d ↦ inr d ]

-- one phase was set, and its family recomputed
pub roots-set : (cs : List Contents) (ks ls : List Phase) (place : ℕ) (k : Phase) (old new : List Bool)
    → ls ≡ set ks place k → AreRootPlaces cs ks old → AreRecomputed cs ls (IsPlaceOrChild cs place) old new
    → AreRootPlaces cs ls new
roots-set cs ks ls place k old new is are recomputed =
    let D : ℕ → Type 0 = λ j. place ≡ j in
    let same : (j : ℕ) → (slice_get ls j ≡ slice_get ks j) ⊎ (place ≡ j) = λ j. elim (cases_eq j place) [
      | inl e ↦ inr (sym e)
      | inr ne ↦ inl (ap (λ xs. slice_get xs j) is ∙ get-set_other ks place j k ne)
    ] in
    record {
      len = recomputed.len ∙ are.len;
      up_to_date = λ p. elim (recomputed.each p) [
        | inl x ↦ x
        | inr x ↦
            let un : (j : ℕ) → place ≡ j → ¬ (IsPlaceOrChild cs j p) =
            λ j e f. x.0 (subst (λ q. IsPlaceOrChild cs q p) (sym e) f) in (
              λ at. alike-root cs ks ls (λ j. place ≡ j) same p un ((are.up_to_date p).0 (sym x.1 ∙ at)),
              λ root. x.1 ∙ (are.up_to_date p).1
                  (alike-root cs ls ks (λ j. place ≡ j) (other-way ks ls (λ j. place ≡ j) same) p un root),
            )
      ];
    }

-- changesets were added, phases went down, and all that touches was recomputed
pub roots-updated : (cs : List Contents) → IsGraph cs → (phase : Phase) (start now : List Phase)
    (log : List LoweredPlace) → IsLog phase start now log → (n : ℕ) (old grown mid new : List Bool) → n ≤ length cs
    → AreRootPlaces (take n cs) (take n start) old → length grown ≡ length cs → take (length old) grown ≡ old
    → AreRecomputed cs now (λ p. n ≤ p) grown mid → AreRecomputed cs now (IsTouched cs log) mid new
    → AreRootPlaces cs now new
roots-updated cs graph phase start now log l n old grown mid new le are long front first second =
    let all = recomputed-then cs now (λ p. n ≤ p) (IsTouched cs log) (λ p. (n ≤ p) ⊎ IsTouched cs log p) grown mid new
    first second (λ p r. r) in
    let old_len : length old ≡ n = are.len ∙ length-take-le n cs le in
    let front_n : take n grown ≡ old = ap (λ m. take m grown) (sym old_len) ∙ front in
    record {
      len = all.len ∙ long;
      up_to_date = λ p. elim (all.each p) [
        | inl x ↦ x
        | inr x ↦ elim (cases_lt p n) [
          | inr ge ↦ absurd (x.0 (inl ge))
          | inl less ↦
              let un : (j : ℕ) → ((e : LoweredPlace) × Contains log e × (e.place ≡ j)) → ¬ (IsPlaceOrChild cs j p) =
              λ j d f. x.0 (inr (d.0, d.1, subst (λ q. IsPlaceOrChild cs q p) (sym d.2) f)) in (
                λ at. alike-root cs start now (λ j. (e : LoweredPlace) × Contains log e × (e.place ≡ j)) l.rest p un
                    (root-whole cs graph start n p
                    ((are.up_to_date p).0
                    (subst (λ xs. slice_get xs p ≡ Some true) front_n
                    (slice_get-take grown n p true less (sym x.1 ∙ at))))),
                λ root. x.1 ∙ (get-take grown n p true
                    (subst (λ xs. slice_get xs p ≡ Some true) (sym front_n)
                    ((are.up_to_date p).1
                    (root-front cs graph start n p less
                    (alike-root cs now start (λ j. (e : LoweredPlace) × Contains log e × (e.place ≡ j))
                    (other-way start now (λ j. (e : LoweredPlace) × Contains log e × (e.place ≡ j)) l.rest) p un
                    root))))).1,
              )
        ]
      ];
    }

-- either place holds a parent
pub parent_at_either : (cs : List Contents) (ks : List Phase) (i : ℕ) (phase : Phase) (first second : Option ℕ)
    → ((k : ℕ) → IsParentPlace cs i k ↔ ((first ≡ Some k) ⊎ (second ≡ Some k)))
    → (((p : ℕ) × (first ≡ Some p) × (slice_get ks p ≡ Some phase))
    ⊎ ((p : ℕ) × (second ≡ Some p) × (slice_get ks p ≡ Some phase))) ↔ HasParentIn cs ks i phase
parent_at_either cs ks i phase first second places = (
  λ h. elim h [ inl f ↦ (f.0, (places f.0).1 (inl f.1), f.2) | inr f ↦ (f.0, (places f.0).1 (inr f.1), f.2) ],
  λ h. elim ((places h.0).0 h.1) [ inl e ↦ inl (h.0, e, h.2) | inr e ↦ inr (h.0, e, h.2) ],
)

-- ---- listing the roots

-- each place's phase and node
abbrev pub ListsRoots : List Contents → List Phase → List ℕ → List (Phase × Node) → Type 0
ListsRoots cs ks [] out = out ≡ []
ListsRoots cs ks (p ∷ ps) out = (r : Phase × Node) × (slice_get ks p ≡ Some r.0) × (slice_get (nodes cs) p ≡ Some r.1)
    × (rest : List (Phase × Node)) × (out ≡ r ∷ rest) × ListsRoots cs ks ps rest

pub lists-next : (cs : List Contents) (ks : List Phase) (all before after : List ℕ) (p : ℕ)
    (listed new : List (Phase × Node)) (k : Phase) (n : Node) → before ≡ p ∷ after
    → slice_get ks p ≡ Some k → slice_get (nodes cs) p ≡ Some n → new ≡ listed ++ (k, n) ∷ []
    → ((rest : List (Phase × Node)) → ListsRoots cs ks before rest → ListsRoots cs ks all (listed ++ rest))
    → (rest : List (Phase × Node)) → ListsRoots cs ks after rest → ListsRoots cs ks all (new ++ rest)
lists-next cs ks all before after p listed new k n e at_k at_n is h rest are =
    subst (ListsRoots cs ks all) (sym (ap (λ xs. xs ++ rest) is ∙ append_assoc listed ((k, n) ∷ []) rest))
    (h ((k, n) ∷ rest)
    (subst (λ ps. ListsRoots cs ks ps ((k, n) ∷ rest)) (sym e) ((k, n), at_k, at_n, rest, refl, are)))

pub lists-left : (roots before after : List ℕ) (x : ℕ) → before ≡ x ∷ after
    → ((p : ℕ) → Contains before p → Contains roots p)
    → Contains roots x × ((p : ℕ) → Contains after p → Contains roots p)
lists-left roots before after x e h = (
  h x (subst (λ xs. Contains xs x) (sym e) (Contains-first x after)),
  λ p at. h p (subst (λ xs. Contains xs p) (sym e) (Contains-later x after p at)),
)

-- where a root stands, a node does
pub root-stands : (cs : List Contents) (ks : List Phase) → length ks ≡ length cs → (p : ℕ) → IsRootPlace cs ks p
    → slice_get (nodes cs) p ≡ None → ⊥
root-stands cs ks len p root none = let n =
    IsAt-within cs p (omega (arith, slice_get_within ks p root.0 root.1, len)) in none-some n.0 (sym none ∙ n.1)

pub lists-all : (cs : List Contents) (ks : List Phase) (all left : List ℕ) (listed : List (Phase × Node)) → left ≡ []
    → ((rest : List (Phase × Node)) → ListsRoots cs ks left rest → ListsRoots cs ks all (listed ++ rest))
    → ListsRoots cs ks all listed
lists-all cs ks all left listed e h =
    subst (ListsRoots cs ks all) (append-nil listed) (h [] (subst (λ ps. ListsRoots cs ks ps []) (sym e) refl))

changeset_there : (cs : List Contents) (n : Node) (k : ℕ) → IsAt cs n k
    → (c : Contents) × (slice_get cs k ≡ Some c) × (node_of c ≡ n)
changeset_there cs n k at =
    let c = slice_get_some cs k (placed_within cs n k at) in
    (c.0, c.1, same_Some (node_of c.0) n (sym (IsAt-from cs k c.0 (node_of c.0) c.1 refl) ∙ at))

past_end : {X : Type 0} (xs : List X) (j p : ℕ) (x : X) → drop j xs ≡ [] → j ≤ p → slice_get xs p ≡ Some x → ⊥
past_end [] j p x e le at = none-some x at
past_end (y ∷ xs) zero p x e le at = omega (arith, ap length e)
past_end (y ∷ xs) (suc j) zero x e le at = omega (arith, le)
past_end (y ∷ xs) (suc j) (suc p) x e le at = past_end xs j p x e (omega (arith, le)) at

-- a root at a place is a root of the state
module _ (cs : List Contents) (ks : List Phase) (j : ℕ) (h : Held) (at : slice_get (held_of cs ks) j ≡ Some h) where
  root_of_place : IsRootPlace cs ks j → IsRoot (state_of cs ks) h
  root_of_place (k, at_k, np, none) =
      let parts = parts-at cs ks j h at in
      let k_is : k ≡ h.phase = same_Some k h.phase (sym at_k ∙ parts.1) in
      record {
        not_public = λ e. np (k_is ∙ e);
        begins = λ p at_p is same.
            let place = place_from_Contains (held_of cs ks) p at_p in
            let up = parts-at cs ks place.0 p place.1 in
            none (
              place.0,
              (
                h.changeset,
                node_of p.changeset,
                parts.0,
                is,
                IsAt-from cs place.0 p.changeset (node_of p.changeset) up.0 refl,
              ),
              up.1
                  ∙ ap (λ x. Some x) (same ∙ sym k_is),
            );
      }

  place_of_root : IsRoot (state_of cs ks) h → IsRootPlace cs ks j
  place_of_root is =
      let parts = parts-at cs ks j h at in (
        h.phase,
        parts.1,
        is.not_public,
        λ x.
            let parent = x.1 in
            let c_is : parent.0 ≡ h.changeset = same_Some parent.0 h.changeset (sym parent.2 ∙ parts.0) in
            let d = changeset_there cs parent.1 x.0 parent.4 in
            let up : Held = record { changeset = d.0; phase = h.phase } in
            is.begins up (Contains-from_place (held_of cs ks) x.0 up (held-at cs ks x.0 d.0 h.phase d.1 x.2))
            (subst (λ n. IsParent h.changeset n) (sym d.2) (subst (λ y. IsParent y parent.1) c_is parent.3)) refl,
      )

drop_head : {X : Type 0} (xs : List X) (j : ℕ) (x : X) (ys : List X) → drop j xs ≡ x ∷ ys
    → (slice_get xs j ≡ Some x) × (drop (suc j) xs ≡ ys)
drop_head [] zero x ys e = absurd (omega (arith, ap length e))
drop_head [] (suc j) x ys e = absurd (omega (arith, ap length e))
drop_head (y ∷ xs) zero x ys e =
    let first : y ≡ x = cc in
    let others : xs ≡ ys = cc in
    (ap (λ z. Some z) first, others)
drop_head (y ∷ xs) (suc j) x ys e = drop_head xs j x ys e

abbrev Ascends : List ℕ → Type 0
Ascends xs = (i j : ℕ) → i < j → j < length xs → get_or xs i 0 < get_or xs j 0

above_first : (x : ℕ) (xs : List ℕ) → Ascends (x ∷ xs) → (p : ℕ) → Contains xs p → x < p
above_first x xs up p at =
    let place = place_from_Contains xs p at in
    let within = slice_get_within xs place.0 p place.1 in
    let l : x < get_or xs place.0 0 = up 0 (suc place.0) (omega arith) (omega (arith, within)) in
    let e = get_or_from_slice_get xs place.0 p 0 place.1 in
    omega (arith, l, e)

module _ (cs : List Contents) (ks : List Phase) where
  -- the listed places from j on are those of the roots there
  abbrev AreRootsFrom : ℕ → List ℕ → Type 0
  AreRootsFrom j xs = (p : ℕ) → Contains xs p ↔ ((j ≤ p) × IsRootPlace cs ks p)

  later : (j : ℕ) (xs : List ℕ) → AreRootsFrom j xs → ¬ (IsRootPlace cs ks j) → AreRootsFrom (suc j) xs
  later j xs are none p = (
    λ h. let x = (are p).0 h in (
      elim (cases_eq j p)
          [ inl e ↦ absurd (none (subst (IsRootPlace cs ks) (sym e) x.1)) | inr ne ↦ omega (arith, x.0, ne) ],
      x.1,
    ),
    λ h. (are p).1 (omega (arith, h.0), h.1),
  )

  listed_from : (hs : List Held) (j : ℕ) → drop j (held_of cs ks) ≡ hs → (xs : List ℕ) (out : List (Phase × Node))
      → Ascends xs → AreRootsFrom j xs → ListsRoots cs ks xs out → AreRootsAmong (state_of cs ks) hs out
  listed_from [] j e [] out up are lists = lists
  listed_from [] j e (x ∷ xs) out up are lists =
      let root = (are x).0 (Contains-first x xs) in
      let c = changeset_there cs lists.0.1 x lists.2 in
      absurd (past_end (held_of cs ks) j x (record { changeset = c.0; phase = lists.0.0 }) e root.0
      (held-at cs ks x c.0 lists.0.0 c.1 lists.1))
  listed_from (h ∷ hs) j e [] out up are lists =
      let at = drop_head (held_of cs ks) j h hs e in
      let none : ¬ (IsRootPlace cs ks j) = λ r. Contains-none j ((are j).1 (omega arith, r)) in
      inr (
        λ is. none (place_of_root cs ks j h at.0 is),
        listed_from hs (suc j) at.1 [] out up (later j [] are none) lists,
      )
  listed_from (h ∷ hs) j e (x ∷ xs) out up are lists =
      let at = drop_head (held_of cs ks) j h hs e in
      let first = (are x).0 (Contains-first x xs) in
      elim (cases_eq x j) [
        | inl same ↦
            let parts = parts-at cs ks j h at.0 in
            let r = lists.0 in
            let phase_is : h.phase ≡ r.0 =
            same_Some h.phase r.0 (sym parts.1 ∙ sym (ap (slice_get ks) same) ∙ lists.1) in
            let node_is : node_of h.changeset ≡ r.1 =
            same_Some (node_of h.changeset) r.1
            (sym (IsAt-from cs j h.changeset (node_of h.changeset) parts.0 refl)
            ∙ sym (ap (slice_get (nodes cs)) same) ∙ lists.2) in
            inl (
              root_of_place cs ks j h at.0 (subst (IsRootPlace cs ks) same first.1),
              lists.3,
              lists.4 ∙ (λ t. (sym phase_is t, sym node_is t) ∷ lists.3),
              listed_from hs (suc j) at.1 xs lists.3
                  (λ i k l within. up (suc i) (suc k) (omega (arith, l)) (omega (arith, within)))
                  (λ p. (
                    (λ in_rest. let l = above_first x xs up p in_rest in
                        (omega (arith, l, same), ((are p).0 (Contains-later x xs p in_rest)).1)),
                    (λ y. elim (Contains-cons_cases x xs p ((are p).1 (omega (arith, y.0), y.1)))
                        [ inl is ↦ absurd (omega (arith, y.0, is, same)) | inr more ↦ more ]),
                  ))
                  lists.5,
            )
        | inr ne ↦
            let none : ¬ (IsRootPlace cs ks j) = λ r. elim (Contains-cons_cases x xs j ((are j).1 (omega arith, r))) [
              | inl is ↦ ne is
              | inr more ↦ let l = above_first x xs up j more in omega (arith, l, first.0)
            ] in
            inr (
              λ is. none (place_of_root cs ks j h at.0 is),
              listed_from hs (suc j) at.1 (x ∷ xs) out up (later j (x ∷ xs) are none) lists,
            )
      ]

  pub listed-are : (places : List ℕ) (out : List (Phase × Node)) → IsStrictlySortedBy nat_cmp places
      → ((p : ℕ) → Contains places p ↔ IsRootPlace cs ks p) → ListsRoots cs ks places out
      → AreRoots (state_of cs ks) out
  listed-are places out sorted are lists =
      listed_from (held_of cs ks) 0 refl places out (λ i j l within. below_from_sorted places i j 0 sorted l within)
      (λ p. ((λ h. (omega arith, (are p).0 h)), (λ h. (are p).1 h.1))) lists

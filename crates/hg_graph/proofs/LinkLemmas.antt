-- The places of children.
use Rattle.std.proofs.Common.{◌≡◌, ◌≢◌, ℕ, ◌<◌, ◌≤◌, ◌+◌, ◌-◌, List, [], ◌∷◌, ◌++◌, length, take, get_or, set}
use Rattle.std.proofs.Common.{slice_get, Option, Some, None, Contains, IfSome, ◌↔◌, ◌⊎◌, inl, inr, refl}
use Rattle.std.proofs.Common.{sym, ap, subst, ◌∙◌, arith}
use Rattle.std.specs.List.Sorted.{IsStrictlyIncreasing}
use Rattle.smallvec.specs.SmallVec.{SmallVec}
use Rattle.std.proofs.Math.Seq.{take-append_seam, map-set_same}
use Rattle.std.proofs.lemmas.Bool.{cases_eq, cases_lt}
use Rattle.std.proofs.lemmas.List.{get_or_push, get_or-take, get_or-set_same, get_or-map, set-get_or, set-set, map-set}
use Rattle.std.proofs.lemmas.List.{length-map, length-append, length-set, length-take}
use Rattle.std.proofs.lemmas.List.Elements.{Contains-push, Contains-push_cases, Contains-append_left, Contains-get_or}
use Rattle.std.proofs.lemmas.Option.{slice_get_within, slice_get-get_or, get_or_from_slice_get, none-some, same_Some}
use Rattle.hg_changeset.specs.Contents.{Contents}
use Rattle.hg_changeset.specs.Changeset.{IsChangeset}
use Rattle.hg_changeset.proofs.NodeLemmas.{same_not_less}
use Rattle.hg_graph.specs.declared.graph.ParentPlaces.{ParentPlaces}
use Rattle.hg_graph.specs.Graph.{IsGraph, Holds, nodes}
use Rattle.hg_graph.specs.Places.{IsAt, IsParentPlace, IsPlaceOf, ArePlacesOf, ArePlaces}
use Rattle.hg_graph.specs.Links.{IsOneOf, IsLinkable, IsChildPlace, AreChildPlaces, AreChildren, lists_of, put_last}
use Rattle.hg_graph.specs.Links.{drop_last, changed_at}
use Rattle.hg_graph.proofs.GraphLemmas.{Contains-from_place, place_from_Contains, get-take, null_not_held}
use Rattle.hg_changeset.proofs.ListLemmas.{slice_get-append, slice_get-push_cases, slice_get-take, slice_get_some}
use Rattle.hg_changeset.proofs.ListLemmas.{IsStrictlyIncreasing-push}
use Rattle.hg_graph.proofs.PlaceLemmas.{placed_within, kept_places, parent_places_are}
use Rattle.hg_graph.proofs.MarkLemmas.{get-set_same, get-set_other}

-- ---- ascending places

increasing_take : (xs : List ℕ) (n : ℕ) → IsStrictlyIncreasing xs → IsStrictlyIncreasing (take n xs)
increasing_take xs n up j h =
    let short = length-take n xs in
    let next : j + 1 < n = omega (arith, h, short) in
    let here : j < n = omega arith in
    let within : j + 1 < length xs = omega (arith, h, short) in
    rw (get_or-take n xs (j + 1) 0 next, get_or-take n xs j 0 here) (up j within)

-- the greatest stands last
module _ (xs : List ℕ) (n : ℕ) (up : IsStrictlyIncreasing xs) (most : (i : ℕ) → Contains xs i → i ≤ n) where
  stands_last : (i : ℕ) → slice_get xs i ≡ Some n → i + 1 ≡ length xs
  stands_last i at =
      let l = slice_get_within xs i n at in
      elim (cases_lt (i + 1) (length xs)) [
        | inl next ↦
            let above : get_or xs i 0 < get_or xs (i + 1) 0 = up i next in
            absurd (omega (
              arith,
              above,
              get_or_from_slice_get xs i n 0 at,
              most (get_or xs (i + 1) 0)
                  (Contains-get_or xs (i + 1) 0 next),
            ))
        | inr ge ↦ omega (arith, l, ge)
      ]

  in_front : (i : ℕ) → Contains (drop_last xs) i → Contains xs i × (i ≢ n)
  in_front i h =
      let p = place_from_Contains (drop_last xs) i h in
      let r = get-take xs (length xs - 1) p.0 i p.1 in (
        Contains-from_place xs p.0 i r.1,
        λ e. absurd (let last : p.0 + 1 ≡ length xs = stands_last p.0 (subst (λ m. slice_get xs p.0 ≡ Some m) e r.1) in
            omega (arith, r.0, last)),
      )

  to_front : (i : ℕ) → Contains xs i → i ≢ n → Contains xs n → Contains (drop_last xs) i
  to_front i h other last =
      let p = place_from_Contains xs i h in
      let q = place_from_Contains xs n last in
      let end = stands_last q.0 q.1 in
      elim (cases_eq p.0 q.0) [
        | inl e ↦ absurd (other (same_Some i n (sym p.1 ∙ ap (slice_get xs) e ∙ q.1)))
        | inr ne ↦
            let l = slice_get_within xs p.0 i p.1 in
            let front : p.0 < length xs - 1 = omega (arith, l, end, ne) in
            Contains-from_place (drop_last xs) p.0 i (slice_get-take xs (length xs - 1) p.0 i front p.1)
      ]

-- ---- one changeset more or less

child_within : (ps : List ParentPlaces) (k j : ℕ) → IsChildPlace ps k j → j < length ps
child_within ps k j h = slice_get_within ps j h.0 h.1

module _ (ps : List ParentPlaces) (p : ParentPlaces) where
  child_more : (k j : ℕ) → IsChildPlace (ps ++ p ∷ []) k j ↔ (IsChildPlace ps k j ⊎ ((j ≡ length ps) × IsOneOf p k))
  child_more k j = (
    λ h. elim (slice_get-push_cases ps p j h.0 h.1) [
      | inl before ↦ inl (h.0, before, h.2)
      | inr last ↦ inr (last.0, subst (λ q. IsOneOf q k) (sym last.1) h.2)
    ],
    λ h. elim h [
      | inl before ↦ (before.0, slice_get-append ps (p ∷ []) j before.0 before.1, before.2)
      | inr last ↦
          let within : j < length (ps ++ p ∷ []) = omega (arith, length-append ps (p ∷ []), last.0) in
          (p, slice_get-get_or (ps ++ p ∷ []) j p within ∙ ap (λ q. Some q) (get_or_push ps p p j (sym last.0)), last.1)
    ],
  )

  module _ (k : ℕ) (places : List ℕ) where
    more_children : IsOneOf p k → AreChildPlaces ps k places
        → AreChildPlaces (ps ++ p ∷ []) k (put_last (length ps) places)
    more_children is old = record {
      ascending = IsStrictlyIncreasing-push places (length ps) old.ascending
          (λ i h. child_within ps k i ((old.exact i).0 h));
      exact = λ j. (
        λ h. (child_more k j).1
            (elim (Contains-push_cases places (length ps) j h)
            [ inl before ↦ inl ((old.exact j).0 before) | inr e ↦ inr (sym e, is) ]),
        λ h. elim ((child_more k j).0 h) [
          | inl before ↦ Contains-append_left places (length ps ∷ []) j ((old.exact j).1 before)
          | inr last ↦ subst (Contains (put_last (length ps) places)) (sym last.0) (Contains-push places (length ps))
        ],
      );
    }

    same_children : ¬ (IsOneOf p k) → AreChildPlaces ps k places → AreChildPlaces (ps ++ p ∷ []) k places
    same_children is_not old = record {
      ascending = old.ascending;
      exact = λ j. (
        λ h. (child_more k j).1 (inl ((old.exact j).0 h)),
        λ h. elim ((child_more k j).0 h) [ inl before ↦ (old.exact j).1 before | inr last ↦ absurd (is_not last.1) ],
      );
    }

    fewer_children : IsOneOf p k → AreChildPlaces (ps ++ p ∷ []) k places → AreChildPlaces ps k (drop_last places)
    fewer_children is old = record {
      ascending = increasing_take places (length places - 1) old.ascending;
      exact = λ j. (
        λ h.
            let front = in_front places (length ps) old.ascending most j h in
            elim ((child_more k j).0 ((old.exact j).0 front.0))
            [ inl before ↦ before | inr last ↦ absurd (front.1 last.0) ],
        λ h.
            let l = child_within ps k j h in
            to_front places (length ps) old.ascending most j ((old.exact j).1 ((child_more k j).1 (inl h)))
            (λ e. omega (arith, l, e)) ((old.exact (length ps)).1 ((child_more k (length ps)).1 (inr (refl, is)))),
      );
    }
      where
        most : (i : ℕ) → Contains places i → i ≤ length ps
        most i h = let l = child_within (ps ++ p ∷ []) k i ((old.exact i).0 h) in
            omega (arith, l, length-append ps (p ∷ []))

    kept_children : ¬ (IsOneOf p k) → AreChildPlaces (ps ++ p ∷ []) k places → AreChildPlaces ps k places
    kept_children is_not old = record {
      ascending = old.ascending;
      exact = λ j. (
        λ h. elim ((child_more k j).0 ((old.exact j).0 h)) [ inl before ↦ before | inr last ↦ absurd (is_not last.1) ],
        λ h. (old.exact j).1 ((child_more k j).1 (inl h)),
      );
    }

-- ---- the lists of all changesets

pub length-changed_at : (o : Option ℕ) (f : List ℕ → List ℕ) (lists : List (List ℕ))
    → length (changed_at o f lists) ≡ length lists
length-changed_at None f lists = refl
length-changed_at (Some k) f lists = length-set lists k (f (get_or lists k []))

changed_cases : (o : Option ℕ) (f : List ℕ → List ℕ) (lists : List (List ℕ)) (k : ℕ) (places : List ℕ)
    → slice_get (changed_at o f lists) k ≡ Some places
    → ((o ≡ Some k) × (old : List ℕ) × (slice_get lists k ≡ Some old) × (places ≡ f old))
    ⊎ (¬ (o ≡ Some k) × (slice_get lists k ≡ Some places))
changed_cases None f lists k places at = inr (λ e. none-some k e, at)
changed_cases (Some i) f lists k places at =
    let new = f (get_or lists i []) in
    let l : k < length lists = omega (arith, slice_get_within (set lists i new) k places at, length-set lists i new) in
    elim (cases_eq k i) [
      | inl e ↦
          let here : slice_get (set lists i new) k ≡ Some new = subst (λ j. slice_get (set lists i new) j ≡ Some new)
          (sym e) (get-set_same lists i new (omega arith)) in
          inl (
            ap (λ j. Some j) (sym e),
            get_or lists k [],
            slice_get-get_or lists k [] l,
            same_Some places new (sym at ∙ here) ∙ ap (λ j. f (get_or lists j [])) (sym e),
          )
      | inr ne ↦ inr (λ e. ne (sym (same_Some i k e)), sym (get-set_other lists i k new ne) ∙ at)
    ]

-- what is pushed and then dropped
pub dropped_again : (o : Option ℕ) (n : ℕ) (lists : List (List ℕ)) → IfSome o (λ k. k < length lists)
    → changed_at o drop_last (changed_at o (put_last n) lists) ≡ lists
dropped_again None n lists within = refl
dropped_again (Some k) n lists within =
    let old = get_or lists k [] in
    let new = put_last n old in
    let there : get_or (set lists k new) k [] ≡ new = get_or-set_same lists k new [] within in
    let long : length new ≡ length old + 1 = length-append old (n ∷ []) in
    let shorter : length new - 1 ≡ length old = omega (arith, long) in
    let back : drop_last new ≡ old = ap (λ m. take m new) shorter ∙ take-append_seam old (n ∷ []) in
    ap (λ ks. set (set lists k new) k (drop_last ks)) there ∙ ap (set (set lists k new) k) back
    ∙ set-set lists k new old ∙ set-get_or lists k []

-- one list is changed, in its vector
pub lists_set : (vectors : List (SmallVec ℕ)) (o : Option ℕ) (k : ℕ) (v old : SmallVec ℕ) (f : List ℕ → List ℕ)
    → o ≡ Some k → k < length vectors → old ≡ get_or vectors k old → v.items ≡ f old.items
    → lists_of (set vectors k v) ≡ changed_at o f (lists_of vectors)
lists_set vectors o k v old f o_is within read new =
    let was : get_or (lists_of vectors) k [] ≡ old.items = get_or-map (λ v. v.items) vectors k old [] within
    ∙ ap (λ v. v.items) (sym read) in
    map-set (λ v. v.items) vectors k v ∙ ap (set (lists_of vectors) k) (new ∙ ap f (sym was))
    ∙ ap (λ o. changed_at o f (lists_of vectors)) (sym o_is)

pub lists_kept : (vectors : List (SmallVec ℕ)) (k : ℕ) (v old : SmallVec ℕ) → old ≡ get_or vectors k old
    → v.items ≡ old.items → lists_of (set vectors k v) ≡ lists_of vectors
lists_kept vectors k v old read same = map-set_same (λ v. v.items) vectors k v old (same ∙ ap (λ v. v.items) read)

pub within_option : (o : Option ℕ) (n : ℕ) → ((k : ℕ) → o ≡ Some k → k < n) → IfSome o (λ k. k < n)
within_option None n h = tt
within_option (Some k) n h = h k refl

pub within_index : (o : Option ℕ) (k n : ℕ) → IfSome o (λ k. k < n) → o ≡ Some k → k < n
within_index None k n h e = absurd (none-some k e)
within_index (Some i) k n h e = subst (λ j. j < n) (same_Some i k e) h

module _ (p : ParentPlaces) (f : List ℕ → List ℕ) (lists : List (List ℕ)) where
  abbrev pub both : List (List ℕ)
  both = changed_at p.second f (changed_at p.first f lists)

  pub length-both : length both ≡ length lists
  length-both = length-changed_at p.second f (changed_at p.first f lists) ∙ length-changed_at p.first f lists

  pub both_vectors : (vectors new : List (SmallVec ℕ))
      → lists_of vectors ≡ lists → lists_of new ≡ both → length new ≡ length vectors
  both_vectors vectors new old_is new_is = sym (length-map new (λ v. v.items)) ∙ ap length new_is
      ∙ length-both ∙ ap length (sym old_is) ∙ length-map vectors (λ v. v.items)

  both_cases : (n : ℕ) → IsLinkable n p → (k : ℕ) (places : List ℕ) → slice_get both k ≡ Some places
      → (IsOneOf p k × (old : List ℕ) × (slice_get lists k ≡ Some old) × (places ≡ f old))
      ⊎ (¬ (IsOneOf p k) × (slice_get lists k ≡ Some places))
  both_cases n link k places at = elim (changed_cases p.second f (changed_at p.first f lists) k places at) [
    | inl second ↦ elim (changed_cases p.first f lists k second.1 second.2) [
      | inl first ↦ absurd (link.apart k first.0 second.0)
      | inr first ↦ inl (inr second.0, second.1, first.1, second.3)
    ]
    | inr second ↦ elim (changed_cases p.first f lists k places second.1) [
      | inl first ↦ inl (inl first.0, first.1, first.2, first.3)
      | inr first ↦ inr (λ is. elim is [ inl e ↦ first.0 e | inr e ↦ second.0 e ], first.1)
    ]
  ]

module _ (ps : List ParentPlaces) (p : ParentPlaces) (lists : List (List ℕ)) where
  pub AreChildren-push : AreChildren ps lists → IsLinkable (length ps) p
      → AreChildren (ps ++ p ∷ []) (both p (put_last (length ps)) lists ++ [] ∷ [])
  AreChildren-push old link = record {
    len = omega (
      arith,
      length-append (both p (put_last (length ps)) lists) ([] ∷ []),
      length-append ps (p ∷ []),
      length-both p (put_last (length ps)) lists,
      old.len,
    );
    linkable = linkable;
    each = λ k places at. elim (slice_get-push_cases (both p (put_last (length ps)) lists) [] k places at) [
      | inl before ↦ elim (both_cases p (put_last (length ps)) lists (length ps) link k places before) [
        | inl h ↦ subst (AreChildPlaces (ps ++ p ∷ []) k) (sym h.3) (more_children ps p k h.1 h.0 (old.each k h.1 h.2))
        | inr h ↦ same_children ps p k places h.0 (old.each k places h.1)
      ]
      | inr last ↦ subst (AreChildPlaces (ps ++ p ∷ []) k) last.1
          (childless k (last.0 ∙ length-both p (put_last (length ps)) lists ∙ old.len))
    ];
  }
    where
      linkable : (j : ℕ) (places : ParentPlaces) → slice_get (ps ++ p ∷ []) j ≡ Some places → IsLinkable j places
      linkable j places at = elim (slice_get-push_cases ps p j places at) [
        | inl before ↦ old.linkable j places before
        | inr last ↦ subst (λ i. IsLinkable i places) (sym last.0) (subst (IsLinkable (length ps)) last.1 link)
      ]

      childless : (k : ℕ) → k ≡ length ps → AreChildPlaces (ps ++ p ∷ []) k []
      childless k e = record {
        ascending = λ j h. absurd (omega (arith, h));
        exact = λ j. (
          λ h. absurd (omega (arith, h.1)),
          λ h. absurd (
              let l = child_within (ps ++ p ∷ []) k j h in
              let below : k < j = (linkable j h.0 h.1).before k h.2 in
              omega (arith, l, below, e, length-append ps (p ∷ []))),
        );
      }

  pub last_linkable : AreChildren (ps ++ p ∷ []) lists → IsLinkable (length ps) p
  last_linkable old = old.linkable (length ps) p
      (slice_get-get_or (ps ++ p ∷ []) (length ps) p (omega (arith, length-append ps (p ∷ [])))
      ∙ ap (λ q. Some q) (get_or_push ps p p (length ps) refl))

  pub AreChildren-pop : AreChildren (ps ++ p ∷ []) lists
      → AreChildren ps (take (length lists - 1) (both p drop_last lists))
  AreChildren-pop old = record {
    len = omega (
      arith,
      length-take (length lists - 1) (both p drop_last lists),
      length-append ps (p ∷ []),
      length-both p drop_last lists,
      old.len,
    );
    linkable = λ j places at. old.linkable j places (slice_get-append ps (p ∷ []) j places at);
    each = λ k places at.
        elim (both_cases p drop_last lists (length ps) (last_linkable old) k places
        (get-take (both p drop_last lists) (length lists - 1) k places at).1) [
          | inl h ↦ subst (AreChildPlaces ps k) (sym h.3) (fewer_children ps p k h.1 h.0 (old.each k h.1 h.2))
          | inr h ↦ kept_children ps p k places h.0 (old.each k places h.1)
        ];
  }

-- ---- the links of a graph

module _ (cs : List Contents) (graph : IsGraph cs) where
  -- the places of a changeset's parents may be kept
  pub linkable : (c : Contents) (p : ParentPlaces) (n : ℕ) → n ≡ length cs → IsChangeset c → ArePlacesOf cs c p
      → IsLinkable n p
  linkable c p n n_is is places = record {
    before = λ k one. elim one [
      | inl e ↦ let l = placed_within cs c.first k (subst (IsPlaceOf cs c.first) e places.0) in omega (arith, l, n_is)
      | inr e ↦ let l = placed_within cs c.second k (subst (IsPlaceOf cs c.second) e places.1) in omega (arith, l, n_is)
    ];
    apart = λ k e f.
        let at_first : IsAt cs c.first k = subst (IsPlaceOf cs c.first) e places.0 in
        let at_second : IsAt cs c.second k = subst (IsPlaceOf cs c.second) f places.1 in
        elim is.normal [
          | inl absent ↦
              null_not_held cs graph (subst (Holds cs) absent (Contains-from_place (nodes cs) k c.second at_second))
          | inr both_there ↦ same_not_less c.first c.second (same_Some c.first c.second (sym at_first ∙ at_second))
              both_there.1
        ];
  }

  -- the children by the places that are kept
  pub child_places_are : (ps : List ParentPlaces) → ArePlaces cs ps → (k j : ℕ) → IsChildPlace ps k j
      ↔ IsParentPlace cs j k
  child_places_are ps places k j = (
    λ h.
        let c = kept_places cs graph ps places j h.0 h.1 in
        (parent_places_are cs graph j c.0 h.0 c.1 c.2 k).1 h.2,
    λ h.
        let p = slice_get_some ps j (omega (arith, slice_get_within cs j h.0 h.2, places.len)) in
        (p.0, p.1, (parent_places_are cs graph j h.0 p.0 h.2 (places.each j h.0 p.0 h.2 p.1) k).0 h),
  )

-- A walk down from some places, without what is under others.
use Rattle.std.proofs.Common.{◌≡◌, ℕ, zero, suc, ◌+◌, ◌<◌, ◌≤◌, List, [], ◌∷◌, ◌++◌, length, reverse, get_or, Some}
use Rattle.std.proofs.Common.{None, Contains, ◌↔◌, ◌⊎◌, inl, inr, refl, sym, subst, ◌∙◌, arith}
use Rattle.std.specs.List.Sorted.{IsStrictlyIncreasing}
use Rattle.std.proofs.lemmas.Bool.{cases_lt}
use Rattle.std.proofs.lemmas.List.{reverse-append, reverse-reverse}
use Rattle.std.proofs.lemmas.List.Elements.{Contains-get_or}
use Rattle.std.proofs.lemmas.List.Sorted.{Contains-permutation, IsPermutation-reverse}
use Rattle.std.proofs.lemmas.Option.{same_Some}
use Rattle.hg_changeset.specs.declared.node.Node.{Node}
use Rattle.hg_changeset.specs.Contents.{Contents}
use Rattle.hg_changeset.proofs.ListLemmas.{Contains-none, Contains-pushed}
use Rattle.hg_graph.specs.Graph.{IsGraph, Reaches}
use Rattle.hg_graph.specs.Graph.Reaches.{itself, below}
use Rattle.hg_graph.specs.Places.{IsParentPlace, IsAncestorPlace}
use Rattle.hg_graph.specs.Waiting.{Widens, IsOneOf, IsLast, TakesAfter}
use Rattle.hg_graph.proofs.PlaceLemmas.{placed_within, parent_first, ancestor_first, ancestor_by_parent}
use Rattle.hg_graph.proofs.PlaceLemmas.{ancestor_through_parent, ancestor_itself}
use Rattle.hg_graph.proofs.QueueLemmas.{past, past-falls, waits_before}
use Rattle.hg_view.specs.Above.{IsUnderOne, IsAbove}

-- ---- lists of places

pub Contains-reversed : (xs : List ℕ) (k : ℕ) → Contains (reverse xs) k ↔ Contains xs k
Contains-reversed xs k = (
  λ h. subst (λ ys. Contains ys k) (reverse-reverse xs)
      (Contains-permutation (reverse xs) (reverse (reverse xs)) k (IsPermutation-reverse (reverse xs)) h),
  λ h. Contains-permutation xs (reverse xs) k (IsPermutation-reverse xs) h,
)

increasing_cons : (x : ℕ) (xs : List ℕ) → IsStrictlyIncreasing xs → ((k : ℕ) → Contains xs k → x < k)
    → IsStrictlyIncreasing (x ∷ xs)
increasing_cons x xs up above zero l = above (get_or xs 0 0) (Contains-get_or xs 0 0 (omega arith))
increasing_cons x xs up above (suc i) l =
    let e : suc i + 1 ≡ suc (i + 1) = omega arith in
    subst (λ n. get_or xs i 0 < get_or (x ∷ xs) n 0) (sym e) (up i (omega arith))

-- one that is before all that were found
pub reversed_push : (xs : List ℕ) (x : ℕ) → IsStrictlyIncreasing (reverse xs) → ((k : ℕ) → Contains xs k → x < k)
    → IsStrictlyIncreasing (reverse (xs ++ x ∷ []))
reversed_push xs x up above = subst IsStrictlyIncreasing (sym (reverse-append xs (x ∷ [])))
    (increasing_cons x (reverse xs) up (λ k c. above k ((Contains-reversed xs k).0 c)))

-- ---- ancestors

reaches_through : {cs : List Contents} {a m n : Node} → Reaches cs a m → Reaches cs m n → Reaches cs a n
reaches_through r (itself held) = r
reaches_through r (below q is at e) = below (reaches_through r q) is at e

module _ (cs : List Contents) where
  -- what is under an ancestor is under its descendant
  ancestor_through : (k j i : ℕ) → IsAncestorPlace cs k j → IsAncestorPlace cs j i → IsAncestorPlace cs k i
  ancestor_through k j i low high =
      let same : low.1 ≡ high.0 = same_Some low.1 high.0 (sym low.3 ∙ high.2) in
      (low.0, high.1, low.2, high.3, reaches_through (subst (Reaches cs low.0) same low.4) high.4)

  under_through : (places : List ℕ) (k j : ℕ) → IsAncestorPlace cs k j → IsUnderOne cs places j
      → IsUnderOne cs places k
  under_through places k j way h = (h.0, h.1, ancestor_through k j h.0 way h.2)

  under_within : (places : List ℕ) (k : ℕ) → IsUnderOne cs places k → k < length cs
  under_within places k h = placed_within cs h.2.0 k h.2.2

  under_same : (old new : List ℕ) → ((k : ℕ) → Contains old k → Contains new k) → (k : ℕ) → IsUnderOne cs old k
      → IsUnderOne cs new k
  under_same old new same k h = (h.0, same h.0 h.1, h.2)

-- those that wait are in the graph, and under them, as far as the place, is what was at first
pub record IsLowered (cs : List Contents) (place : ℕ) (first waiting : List ℕ) : Type 0 where
  pub within : (k : ℕ) → Contains waiting k → k < length cs
  pub under : (k : ℕ) → k ≤ place → IsUnderOne cs waiting k ↔ IsUnderOne cs first k

-- the places from b on are searched: those found there are all that are wanted, and below b it is all under those that
-- wait
pub record IsSearched (cs : List Contents) (heads common fresh shared found : List ℕ) (b : ℕ) : Type 0 where
  pub waits : (k : ℕ) → Contains fresh k → (k < b) × IsUnderOne cs heads k
  pub complete : (k : ℕ) → k < b → IsAbove cs heads common k → IsUnderOne cs fresh k
  pub within : (k : ℕ) → Contains shared k → k < length cs
  pub under : (k : ℕ) → k < b → IsUnderOne cs shared k ↔ IsUnderOne cs common k
  pub exact : (k : ℕ) → Contains found k ↔ ((b ≤ k) × IsAbove cs heads common k)
  pub descending : IsStrictlyIncreasing (reverse found)

module _ (cs : List Contents) (graph : IsGraph cs) where
  -- a place gives way to its parents: what is under those that wait, and before it, stays
  module _ (g : ℕ) (old rest new : List ℕ) (parts : IsOneOf (Contains old) g rest)
      (adds : Widens (IsParentPlace cs g) rest new) where
    under_parents : (k : ℕ) → k < g → IsUnderOne cs new k ↔ IsUnderOne cs old k
    under_parents k before = (
      λ h. elim ((adds h.0).0 h.1) [
        | inl kept ↦ (h.0, (parts h.0).1 (inr kept), h.2)
        | inr parent ↦ (g, (parts g).1 (inl refl), ancestor_through_parent cs k h.0 g parent h.2)
      ],
      λ h. elim ((parts h.0).0 h.1) [
        | inl e ↦
            let up = ancestor_by_parent cs graph k g before (subst (IsAncestorPlace cs k) (sym e) h.2) in
            (up.0, (adds up.0).1 (inr up.1), up.2)
        | inr kept ↦ (h.0, (adds h.0).1 (inl kept), h.2)
      ],
    )

  -- ---- what is common goes down

  module _ {place : ℕ} {first waiting : List ℕ} (rest : List ℕ) (s : IsLowered cs place first waiting) where
    module _ (g : ℕ) (taken : TakesAfter place waiting rest (Some g)) where
      pub later_within : g < length cs
      later_within = s.within g ((taken.1.0 g).1 (inl refl))

      module _ (new : List ℕ) (adds : Widens (IsParentPlace cs g) rest new) where
        pub IsLowered-step : IsLowered cs place first new
        IsLowered-step = record {
          within = λ k c. let before = waits_before cs graph waiting rest new g taken.1 (λ j. (adds j).0) k c in
              omega (arith, before, later_within);
          under = λ k le.
              let kept = under_parents g waiting rest new taken.1.0 adds k (omega (arith, le, taken.0)) in
              let old = s.under k le in
              (λ h. old.0 (kept.0 h), λ h. kept.1 (old.1 h));
        }

        pub lowered_smaller : past new < past waiting
        lowered_smaller = past-falls cs graph waiting rest new g taken.1 (λ k. (adds k).0)

    module _ (none : TakesAfter place waiting rest None) where
      pub IsLowered-end : IsLowered cs place first rest
      IsLowered-end = subst (IsLowered cs place first) (sym none.0) s

      -- none that waits is after the place: so it waits itself, or is under none of them
      pub under_here : Contains rest place ↔ IsUnderOne cs first place
      under_here = (
        λ c. (IsLowered-end.under place (omega arith)).0
            (place, c, ancestor_itself cs graph place (IsLowered-end.within place c)),
        λ h.
            let w = (IsLowered-end.under place (omega arith)).1 h in
            let up : place ≤ w.0 = ancestor_first cs graph place w.0 w.2 in
            let down : w.0 ≤ place = none.1 w.0 (subst (λ ks. Contains ks w.0) none.0 w.1) in
            let same : w.0 ≡ place = omega (arith, up, down) in
            subst (Contains rest) same w.1,
      )

  -- ---- the search

  module _ {heads common : List ℕ} where
    pub IsSearched-start : (fresh shared : List ℕ) → ((k : ℕ) → Contains heads k → k < length cs)
        → ((k : ℕ) → Contains common k → k < length cs) → ((k : ℕ) → Contains fresh k ↔ Contains heads k)
        → ((k : ℕ) → Contains shared k ↔ Contains common k)
        → IsSearched cs heads common fresh shared [] (length cs)
    IsSearched-start fresh shared heads_in common_in is_fresh is_shared = record {
      waits = λ k c.
          let head = (is_fresh k).0 c in
          (heads_in k head, (k, head, ancestor_itself cs graph k (heads_in k head)));
      complete = λ k l h. under_same cs heads fresh (λ j c. (is_fresh j).1 c) k h.0;
      within = λ k c. common_in k ((is_shared k).0 c);
      under = λ k l. (
        under_same cs shared common (λ j c. (is_shared j).0 c) k,
        under_same cs common shared (λ j c. (is_shared j).1 c) k,
      );
      exact = λ k. (
        λ c. absurd (Contains-none k c),
        λ h. absurd (let within = under_within cs heads k h.1.0 in omega (arith, within, h.0)),
      );
      descending = λ k l. absurd (omega (arith, l));
    }

    module _ {fresh shared found : List ℕ} {b : ℕ} (s : IsSearched cs heads common fresh shared found b) where
      -- nothing waits: what was found is all
      pub found_all : ((k : ℕ) → ¬ (Contains fresh k)) → (k : ℕ)
          → Contains (reverse found) k ↔ IsAbove cs heads common k
      found_all empty k = (
        λ c. ((s.exact k).0 ((Contains-reversed found k).0 c)).1,
        λ h. (Contains-reversed found k).1 ((s.exact k).1 (from h, h)),
      )
        where
          from : IsAbove cs heads common k → b ≤ k
          from h = elim (cases_lt k b) [
            | inl before ↦
                let w = s.complete k before h in
                absurd (empty w.0 w.1)
            | inr after ↦ omega (arith, after)
          ]

      -- the greatest that waited is taken
      module _ (p : ℕ) (rest : List ℕ) (last : IsLast (Contains fresh) rest p) where
        there : Contains fresh p
        there = (last.0 p).1 (inl refl)

        pub taken_within : p < length cs
        taken_within = under_within cs heads p (s.waits p there).1

        -- of those from it up to the places that are searched no other is wanted
        only_here : (k : ℕ) → p ≤ k → IsAbove cs heads common k → (b ≤ k) ⊎ (k ≡ p)
        only_here k from h = elim (cases_lt k b) [
          | inl lower ↦
              let w = s.complete k lower h in
              let up : k ≤ w.0 = ancestor_first cs graph k w.0 w.2 in
              elim ((last.0 w.0).0 w.1) [
                | inl e ↦ inr (omega (arith, e, up, from))
                | inr kept ↦ absurd (let less = last.1 w.0 kept in omega (arith, less, up, from))
              ]
          | inr after ↦ inl (omega (arith, after))
        ]

        module _ (lowered : List ℕ) (down : IsLowered cs p shared lowered) where
          still : (k : ℕ) → k ≤ p → IsUnderOne cs lowered k ↔ IsUnderOne cs common k
          still k le =
              let new = down.under k le in
              let old = s.under k (omega (arith, le, (s.waits p there).0)) in
              (λ h. old.0 (new.0 h), λ h. new.1 (old.1 h))

          -- it is common: it is dropped
          module _ (is : IsUnderOne cs shared p) where
            is_common : IsUnderOne cs common p
            is_common = (s.under p (s.waits p there).0).0 is

            pub IsSearched-dropped : IsSearched cs heads common rest lowered found p
            IsSearched-dropped = record {
              waits = λ k c. (last.1 k c, (s.waits k ((last.0 k).1 (inr c))).1);
              complete = λ k l h.
                  let w = s.complete k (omega (arith, l, (s.waits p there).0)) h in
                  elim ((last.0 w.0).0 w.1) [
                    | inl e ↦ absurd
                        (h.1 (under_through cs common k p (subst (IsAncestorPlace cs k) (sym e) w.2) is_common))
                    | inr kept ↦ (w.0, kept, w.2)
                  ];
              within = down.within;
              under = λ k l. still k (omega (arith, l));
              exact = λ k. (
                λ c. let old = (s.exact k).0 c in (omega (arith, old.0, (s.waits p there).0), old.1),
                λ h. elim (only_here k h.0 h.1) [
                  | inl after ↦ (s.exact k).1 (after, h.1)
                  | inr e ↦ absurd (h.1.1 (subst (IsUnderOne cs common) (sym e) is_common))
                ],
              );
              descending = s.descending;
            }

            pub dropped_smaller : past rest < past fresh
            dropped_smaller = past-falls cs graph fresh rest rest p last (λ k c. inl c)

          -- it is wanted: it is found, and its parents wait
          module _ (is_not : ¬ (IsUnderOne cs shared p)) (next : List ℕ) (adds : Widens (IsParentPlace cs p) rest next)
            where
              wanted : IsAbove cs heads common p
              wanted = ((s.waits p there).1, λ h. is_not ((s.under p (s.waits p there).0).1 h))

              pub IsSearched-found : IsSearched cs heads common next lowered (found ++ p ∷ []) p
              IsSearched-found = record {
                waits = λ k c. (
                  waits_before cs graph fresh rest next p last (λ j. (adds j).0) k c,
                  elim ((adds k).0 c) [
                    | inl kept ↦ (s.waits k ((last.0 k).1 (inr kept))).1
                    | inr parent ↦
                        let l = parent_first cs graph p k parent in
                        let itself_in = ancestor_itself cs graph k (omega (arith, l, taken_within)) in
                        under_through cs heads k p (ancestor_through_parent cs k k p parent itself_in) wanted.0
                  ],
                );
                complete = λ k l h. (under_parents p fresh rest next last.0 adds k l).1
                    (s.complete k (omega (arith, l, (s.waits p there).0)) h);
                within = down.within;
                under = λ k l. still k (omega (arith, l));
                exact = λ k. (
                  λ c. elim ((Contains-pushed found p k).0 c) [
                    | inl old ↦
                        let w = (s.exact k).0 old in
                        (omega (arith, w.0, (s.waits p there).0), w.1)
                    | inr e ↦ (omega (arith, e), subst (IsAbove cs heads common) e wanted)
                  ],
                  λ h. (Contains-pushed found p k).1 (elim (only_here k h.0 h.1)
                      [ inl after ↦ inl ((s.exact k).1 (after, h.1)) | inr e ↦ inr (sym e) ]),
                );
                descending = reversed_push found p s.descending
                    (λ k c. let old = (s.exact k).0 c in omega (arith, old.0, (s.waits p there).0));
              }

              pub found_smaller : past next < past fresh
              found_smaller = past-falls cs graph fresh rest next p last (λ k. (adds k).0)

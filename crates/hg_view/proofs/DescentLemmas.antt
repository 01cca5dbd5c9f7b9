-- A walk down from the places without children, by the places that wait.
use Rattle.std.proofs.Common.{◌≡◌, ℕ, zero, suc, ◌<◌, ◌≤◌, ◌+◌, List, [], ◌∷◌, ◌++◌, length}
use Rattle.std.proofs.Common.{take, get_or, Contains, ◌↔◌, ◌⊎◌, inl, inr, refl, sym, subst, arith}
use Rattle.std.proofs.lemmas.Bool.{cases_lt, cases_eq}
use Rattle.std.proofs.lemmas.List.Elements.{Contains-push, Contains-push_cases, Contains-append_left}
use Rattle.std.proofs.lemmas.Option.{slice_get_within}
use Rattle.hg_changeset.specs.Contents.{Contents}
use Rattle.hg_changeset.proofs.ListLemmas.{Contains-none, Contains-first, Contains-later, Contains-cons_cases}
use Rattle.hg_graph.specs.Graph.{IsGraph}
use Rattle.hg_graph.specs.Places.{IsParentPlace}
use Rattle.hg_graph.specs.Waiting.{IsLast}
use Rattle.hg_graph.proofs.PlaceLemmas.{parent_first, placed_within}
use Rattle.hg_graph.proofs.WalkLemmas.{contains_none, taken_one}
use Rattle.hg_graph.proofs.QueueLemmas.{widens-none, widens-same, widens-then, past, past-falls, waits_before}
use Rattle.hg_view.specs.Descent.{Finds, GoesOn, HasChildIn, IsChildless, IsClosedUnderParents}
use Rattle.hg_view.specs.HeadPlaces.{IsHeadAmong}

-- a child's place is one of the graph, and so is its parent's
pub child_within : (cs : List Contents) (j k : ℕ) → IsParentPlace cs j k → j < length cs
child_within cs j k h = slice_get_within cs j h.0 h.2

pub parent_within : (cs : List Contents) (j k : ℕ) → IsParentPlace cs j k → k < length cs
parent_within cs j k h = placed_within cs h.1 k h.4

-- it can be told whether a place is one of these
told_of : (ks : List ℕ) (k : ℕ) → Contains ks k ⊎ (¬ (Contains ks k))
told_of [] k = inr (Contains-none k)
told_of (m ∷ ks) k = elim (cases_eq m k) [
  | inl e ↦ inl (subst (Contains (m ∷ ks)) e (Contains-first m ks))
  | inr ne ↦ elim (told_of ks k) [
    | inl later ↦ inl (Contains-later m ks k later)
    | inr out ↦ inr (λ c. elim (Contains-cons_cases m ks k c) [ inl e ↦ omega (arith, ne, e) | inr later ↦ out later ])
  ]
]

-- what the walk has found from the place b on and among the places without children, and the places that wait, which
-- are before b
pub record IsDescended (cs : List Contents) (P : ℕ → Type 0) (childless waiting found : List ℕ) (b : ℕ) : Type 0 where
  pub waits : (k : ℕ) → Contains waiting k → (k < b) × (k < length cs)
  pub heads : (k : ℕ) → Contains found k ↔ ((b ≤ k ⊎ Contains childless k) × IsHeadAmong cs P k)
  pub followed : (j k : ℕ) → (b ≤ j ⊎ Contains childless j) → ¬ (P j) → ¬ (HasChildIn cs P j) → IsParentPlace cs j k
      → k < b → Contains waiting k

module _ (cs : List Contents) (graph : IsGraph cs) (P : ℕ → Type 0) (within : (k : ℕ) → P k → k < length cs)
    (closed : IsClosedUnderParents cs P) (childless : List ℕ)
    (given : (k : ℕ) → Contains childless k ↔ IsChildless cs k) where
  pub IsDescended-start : (before waiting none found : List ℕ) → before ≡ [] → none ≡ []
      → GoesOn cs P (Contains childless) before waiting → Finds cs P (Contains childless) none found
      → IsDescended cs P childless waiting found (length cs)
  IsDescended-start before waiting none found empty nothing goes_on finds = record {
    waits = λ k c. elim ((goes_on k).0 c) [
      | inl old ↦ absurd (contains_none before k empty old)
      | inr new ↦ let l = parent_within cs new.0 k new.3 in (l, l)
    ];
    heads = λ k. (
      λ c. elim ((finds k).0 c) [
        | inl old ↦ absurd (contains_none none k nothing old)
        | inr new ↦ (inr new.0, new.1)
      ],
      λ h. elim h.0 [
        | inl ge ↦ absurd (omega (arith, ge, within k h.1.0))
        | inr c ↦ (finds k).1 (inr (c, h.1))
      ],
    );
    followed = λ j k visited out no_child parent before. elim visited [
      | inl ge ↦ absurd (omega (arith, ge, child_within cs j k parent))
      | inr c ↦ (goes_on k).1 (inr (j, c, out, parent))
    ];
  }

  module _ (waiting found : List ℕ) (b : ℕ) (s : IsDescended cs P childless waiting found b) where
    -- from the place after those that wait, up to b, each changeset that has a child has one of which it is so
    no_gap : (low : ℕ) → ((k : ℕ) → Contains waiting k → k < low) → (k : ℕ) → low ≤ k → k < b → k < length cs
        → ¬ (Contains childless k) → ¬ (¬ (HasChildIn cs P k))
    no_gap low under k from before there old none = by (length cs) k (omega arith) from before there old none
      where
        by : (n k : ℕ) → length cs ≤ k + n → low ≤ k → k < b → k < length cs → ¬ (Contains childless k)
            → ¬ (HasChildIn cs P k) → ⊥
        by zero k few from before there old none = omega (arith, few, there)
        by (suc n) k few from before there old none = old ((given k).1 (
          there,
          λ j parent l.
              let out : ¬ (P j) = λ is. none (j, parent, is) in
              let none_above : ¬ (HasChildIn cs P j) = λ h. out (closed h.0 j h.1 h.2) in
              let later : k < j = parent_first cs graph j k parent in
              let unvisited : ¬ (b ≤ j ⊎ Contains childless j) =
              λ v. let w = under k (s.followed j k v out none_above parent before) in omega (arith, from, w) in
              elim (cases_lt j b) [
                | inl up ↦ by n j (omega (arith, few, later)) (omega (arith, from, later)) up l
                    (λ c. unvisited (inr c)) none_above
                | inr ge ↦ unvisited (inl ge)
              ],
        ))

    -- so what has no such child, and stands there, is before b only where it has no child
    passed : (low : ℕ) → ((k : ℕ) → Contains waiting k → k < low) → (k : ℕ) → low ≤ k → k < length cs
        → ¬ (HasChildIn cs P k) → b ≤ k ⊎ Contains childless k
    passed low under k from there none = elim (cases_lt k b) [
      | inl l ↦ elim (told_of childless k) [
        | inl c ↦ inr c
        | inr old ↦ absurd (no_gap low under k from l there old none)
      ]
      | inr ge ↦ inl ge
    ]

    -- what is a head has been found
    pub IsDescended-end : ((k : ℕ) → ¬ (Contains waiting k)) → (k : ℕ) → Contains found k ↔ IsHeadAmong cs P k
    IsDescended-end empty k = (
      λ c. ((s.heads k).0 c).1,
      λ head. (s.heads k).1 (
        passed 0 (λ j c. absurd (empty j c)) k (omega arith) (within k head.0)
            (λ h. head.1 h.0 h.1 h.2),
        head,
      ),
    )

    module _ (place : ℕ) (rest : List ℕ) (last : IsLast (Contains waiting) rest place) where
      next_waits : (place < b) × (place < length cs)
      next_waits = s.waits place ((last.0 place).1 (inl refl))

      pub next_within : place < length cs
      next_within = next_waits.1

      -- after the visit of the greatest that waits
      pub IsDescended-step : (after more : List ℕ) → GoesOn cs P (λ j. place ≡ j) rest after
          → Finds cs P (λ j. place ≡ j) found more
          → IsDescended cs P childless after more place × (past after < past waiting)
      IsDescended-step after more goes_on finds = (
        record {
          waits = λ k c. let l = before k c in (l, omega (arith, l, next_within));
          heads = λ k. (
            λ c. elim ((finds k).0 c) [
              | inl old ↦ let f = (s.heads k).0 old in
                  (elim f.0 [ inl ge ↦ inl (omega (arith, ge, first)) | inr c ↦ inr c ], f.1)
              | inr new ↦ (inl (omega (arith, new.0)), new.1)
            ],
            λ h. (finds k).1 (elim (cases_eq place k) [
              | inl e ↦ inr (e, h.1)
              | inr ne ↦ inl ((s.heads k).1 (far k h.0 ne (within k h.1.0) (λ c. h.1.1 c.0 c.1 c.2), h.1))
            ]),
          );
          followed = λ j k visited out none parent l_k. elim (cases_eq place j) [
            | inl e ↦ (goes_on k).1 (inr (j, e, out, parent))
            | inr ne ↦ still k l_k (s.followed j k (far j visited ne (child_within cs j k parent) none) out none parent
                (omega (arith, l_k, first)))
          ];
        },
        past-falls cs graph waiting rest after place last from,
      )
        where
          first : place < b
          first = next_waits.0

          from : (k : ℕ) → Contains after k → Contains rest k ⊎ IsParentPlace cs place k
          from k c = elim ((goes_on k).0 c) [
            | inl old ↦ inl old
            | inr parent ↦ inr (subst (λ j. IsParentPlace cs j k) (sym parent.1) parent.3)
          ]

          before : (k : ℕ) → Contains after k → k < place
          before = waits_before cs graph waiting rest after place last from

          still : (k : ℕ) → k < place → Contains waiting k → Contains after k
          still k l c =
              elim ((last.0 k).0 c) [ inl e ↦ absurd (omega (arith, e, l)) | inr old ↦ (goes_on k).1 (inl old) ]

          up_to : (k : ℕ) → Contains waiting k → k < suc place
          up_to k c = elim ((last.0 k).0 c) [
            | inl e ↦ omega (arith, e)
            | inr old ↦ let l = last.1 k old in omega (arith, l)
          ]

          far : (k : ℕ) → (place ≤ k ⊎ Contains childless k) → ¬ (place ≡ k) → k < length cs
              → ¬ (HasChildIn cs P k) → b ≤ k ⊎ Contains childless k
          far k visited ne there none = elim visited [
            | inl ge ↦ passed (suc place) up_to k (omega (arith, ge, ne)) there none
            | inr c ↦ inr c
          ]

-- ---- what visits find

module _ (cs : List Contents) (P : ℕ → Type 0) (place : ℕ) where
  -- where it is so of the place nothing waits besides
  pub goes-nowhere : P place → (waiting : List ℕ) → GoesOn cs P (λ j. place ≡ j) waiting waiting
  goes-nowhere is waiting = widens-none (λ k. (j : ℕ) × (place ≡ j) × ¬ (P j) × IsParentPlace cs j k) waiting
      (λ k h. h.2 (subst P h.1 is))

  -- and else its parents
  pub goes-up : ¬ (P place) → (old new : List ℕ)
      → ((k : ℕ) → Contains new k ↔ (Contains old k ⊎ IsParentPlace cs place k))
      → GoesOn cs P (λ j. place ≡ j) old new
  goes-up out old new told = widens-same (IsParentPlace cs place)
      (λ k. (j : ℕ) × (place ≡ j) × ¬ (P j) × IsParentPlace cs j k) old new
      (λ k. (λ h. subst (λ j. IsParentPlace cs j k) (sym h.1) h.3, λ parent. (place, refl, out, parent))) told

  pub finds-nothing : ¬ (IsHeadAmong cs P place) → (found : List ℕ) → Finds cs P (λ j. place ≡ j) found found
  finds-nothing out found = widens-none (λ k. (place ≡ k) × IsHeadAmong cs P k) found
      (λ k h. out (subst (IsHeadAmong cs P) (sym h.0) h.1))

  pub finds-head : IsHeadAmong cs P place → (found : List ℕ) → Finds cs P (λ j. place ≡ j) found (found ++ place ∷ [])
  finds-head head found k = (
    λ c. elim (Contains-push_cases found place k c)
        [ inl old ↦ inl old | inr e ↦ inr (e, subst (IsHeadAmong cs P) e head) ],
    λ h. elim h [
      | inl old ↦ Contains-append_left found (place ∷ []) k old
      | inr new ↦ subst (Contains (found ++ place ∷ [])) new.0 (Contains-push found place)
    ],
  )

-- visits of the places up to one more
module _ (cs : List Contents) (P : ℕ → Type 0) (places : List ℕ) (i d : ℕ) (l : i < length places)
    (old between new : List ℕ) where
  pub goes-more : GoesOn cs P (Contains (take i places)) old between
      → GoesOn cs P (λ j. get_or places i d ≡ j) between new
      → GoesOn cs P (Contains (take (i + 1) places)) old new
  goes-more = widens-then (λ k. (j : ℕ) × Contains (take i places) j × ¬ (P j) × IsParentPlace cs j k)
      (λ k. (j : ℕ) × (get_or places i d ≡ j) × ¬ (P j) × IsParentPlace cs j k)
      (λ k. (j : ℕ) × Contains (take (i + 1) places) j × ¬ (P j) × IsParentPlace cs j k) old between new
      (λ k. (
        λ h. elim ((taken_one places i d h.0 l).0 h.1)
            [ inl before ↦ inl (h.0, before, h.2, h.3) | inr e ↦ inr (h.0, e, h.2, h.3) ],
        λ h. elim h [
          | inl before ↦ (before.0, (taken_one places i d before.0 l).1 (inl before.1), before.2, before.3)
          | inr e ↦ (e.0, (taken_one places i d e.0 l).1 (inr e.1), e.2, e.3)
        ],
      ))

  pub finds-more : Finds cs P (Contains (take i places)) old between
      → Finds cs P (λ j. get_or places i d ≡ j) between new
      → Finds cs P (Contains (take (i + 1) places)) old new
  finds-more = widens-then (λ k. Contains (take i places) k × IsHeadAmong cs P k)
      (λ k. (get_or places i d ≡ k) × IsHeadAmong cs P k)
      (λ k. Contains (take (i + 1) places) k × IsHeadAmong cs P k) old between new
      (λ k. (
        λ h. elim ((taken_one places i d k l).0 h.0) [ inl before ↦ inl (before, h.1) | inr e ↦ inr (e, h.1) ],
        λ h. elim h [
          | inl before ↦ ((taken_one places i d k l).1 (inl before.0), before.1)
          | inr e ↦ ((taken_one places i d k l).1 (inr e.0), e.1)
        ],
      ))

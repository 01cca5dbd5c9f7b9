-- What a search for markers has found after one turn more.
use Rattle.std.proofs.Common.{◌≡◌, ℕ, ◌+◌, ◌<◌, ◌==◌, Bool, true, false, List, [], ◌∷◌, ◌++◌, length, take, set}
use Rattle.std.proofs.Common.{replicate, get_or, slice_get, Some, Contains, ◌↔◌, ◌⊎◌, inl, inr, refl, sym, ap, subst}
use Rattle.std.proofs.Common.{◌∙◌, append_assoc, arith, get_or-set_same, get_or-set_other, length-set}
use Rattle.std.specs.Cmp.{unsigned_Decides, decided}
use Rattle.std.specs.List.{list_any, IsDistinct}
use Rattle.std.proofs.lemmas.Bool.{cases_eq, cases_lt, true≢false, false_from_ne_true}
use Rattle.std.proofs.lemmas.List.{append-nil, get_or-replicate, get_or_past, length-replicate}
use Rattle.std.proofs.lemmas.Map.Keys.{IsDistinct-push}
use Rattle.std.proofs.lemmas.Map.Views.{Contains-from_any}
use Rattle.std.proofs.lemmas.Option.{same_Some, slice_get_within}
use Rattle.hg_changeset.specs.declared.node.Node.{Node}
use Rattle.hg_changeset.proofs.ListLemmas.{Contains-none, Contains-pushed, Contains-taken}
use Rattle.hg_marker.specs.Fields.{Fields}
use Rattle.hg_marker.specs.Parents.{recorded_parents}
use Rattle.hg_obsstore.specs.Markers.{IsAt, ArePlaces}
use Rattle.hg_relevant.specs.declared.search.Search.{Search}
use Rattle.hg_relevant.specs.Relevant.{IsPrune, Touches}
use Rattle.hg_relevant.specs.Search.{IsFound, IsMarked, IsExpanded, Finds, Expands}

-- ---- lists

pub marks-set : (marks : List Bool) (k i : ℕ) → k < length marks → (get_or (set marks k true) i false ≡ true)
    ↔ ((get_or marks i false ≡ true) ⊎ (k ≡ i))
marks-set marks k i l = elim (cases_eq i k) [
  | inl same ↦ (λ h. inr (sym same), λ h. rw same (get_or-set_same marks k true false l))
  | inr other ↦
      let as_before : get_or (set marks k true) i false ≡ get_or marks i false = get_or-set_other marks k i true false
      other in
      (λ h. inl (sym as_before ∙ h), λ h. elim h [ inl old ↦ as_before ∙ old | inr e ↦ absurd (other (sym e)) ])
]

pub no_marks : (n i : ℕ) → get_or (replicate n false) i false ≡ true → ⊥
no_marks n i h = elim (cases_lt i n) [
  | inl lt ↦ true≢false (sym h ∙ get_or-replicate n i false false lt)
  | inr ge ↦ true≢false (sym h ∙ get_or_past (replicate n false) i false (omega (arith, length-replicate n false)))
]

pub marked-more : (marks after : List Bool) (P Q : ℕ → Type 0) (place : ℕ) → place < length marks
    → after ≡ set marks place true → ((i : ℕ) → Q i ↔ (P i ⊎ (place ≡ i))) → (old : ℕ → Type 0)
    → ((i : ℕ) → IsMarked marks i ↔ (old i ⊎ P i)) → (i : ℕ) → IsMarked after i ↔ (old i ⊎ Q i)
marked-more marks after P Q place l e joins old so_far i =
    let now : IsMarked after i
    ↔ (IsMarked marks i ⊎ (place ≡ i)) = subst (λ xs. IsMarked xs i ↔ (IsMarked marks i ⊎ (place ≡ i))) (sym e)
    (marks-set marks place i l) in (
      λ h. elim (now.0 h) [
        | inl before ↦ elim ((so_far i).0 before) [ inl o ↦ inl o | inr p ↦ inr ((joins i).1 (inl p)) ]
        | inr is ↦ inr ((joins i).1 (inr is))
      ],
      λ h. now.1 (elim h [
        | inl o ↦ inl ((so_far i).1 (inl o))
        | inr q ↦ elim ((joins i).0 q) [ inl p ↦ inl ((so_far i).1 (inr p)) | inr is ↦ inr is ]
      ]),
    )

-- ---- several markers

pub finds-nothing : (P : ℕ → Type 0) (s : Search) → ((i : ℕ) → P i → ⊥) → Finds P s s
finds-nothing P s never = record {
  found = λ i. (λ h. inl h, λ h. elim h [ inl old ↦ old | inr p ↦ absurd (never i p) ]);
  kept = ([], sym (append-nil s.queue.items));
  queued = λ q. q;
  expanded = refl;
  marks = refl;
}

pub finds-same : (P Q : ℕ → Type 0) (s t : Search) → ((i : ℕ) → Q i ↔ P i) → Finds P s t → Finds Q s t
finds-same P Q s t same v = record {
  found = λ i. (
    λ h. elim ((v.found i).0 h) [ inl old ↦ inl old | inr p ↦ inr ((same i).1 p) ],
    λ h. (v.found i).1 (elim h [ inl old ↦ inl old | inr q ↦ inr ((same i).0 q) ]),
  );
  kept = v.kept;
  queued = v.queued;
  expanded = v.expanded;
  marks = v.marks;
}

pub finds-then : (P Q R : ℕ → Type 0) (s t u : Search) → ((i : ℕ) → R i ↔ (P i ⊎ Q i)) → Finds P s t → Finds Q t u
    → Finds R s u
finds-then P Q R s t u joins v w = record {
  found = λ i. (
    λ h. elim ((w.found i).0 h) [
      | inl mid ↦ elim ((v.found i).0 mid) [ inl old ↦ inl old | inr p ↦ inr ((joins i).1 (inl p)) ]
      | inr q ↦ inr ((joins i).1 (inr q))
    ],
    λ h. (w.found i).1 (elim h [
      | inl old ↦ inl ((v.found i).1 (inl old))
      | inr r ↦ elim ((joins i).0 r) [ inl p ↦ inl ((v.found i).1 (inr p)) | inr q ↦ inr q ]
    ]),
  );
  kept = (
    v.kept.0 ++ w.kept.0,
    w.kept.1 ∙ ap (λ l. l ++ w.kept.0) v.kept.1 ∙ append_assoc s.queue.items v.kept.0
        w.kept.0,
  );
  queued = λ q. w.queued (v.queued q);
  expanded = w.expanded ∙ v.expanded;
  marks = w.marks ∙ v.marks;
}

pub finds-none : (s : Search) → Finds (Contains []) s s
finds-none s = finds-nothing (Contains []) s (λ i h. Contains-none i h)

pub finds-none_so : (R : ℕ → Type 0) (s : Search) → Finds (λ i. Contains [] i × R i) s s
finds-none_so R s = finds-nothing (λ i. Contains [] i × R i) s (λ i h. Contains-none i h.0)

-- of the places so far, and one more
pub finds-more : (places : List ℕ) (i p : ℕ) (R : ℕ → Type 0) (s t u : Search) → i < length places
    → get_or places i p ≡ p
    → Finds (λ k. Contains (take i places) k × R k) s t → Finds (λ k. (p ≡ k) × R k) t u
    → Finds (λ k. Contains (take (i + 1) places) k × R k) s u
finds-more places i p R s t u l is v w = finds-then (λ k. Contains (take i places) k × R k) (λ k. (p ≡ k) × R k)
    (λ k. Contains (take (i + 1) places) k × R k) s t u
    (λ k. (
      λ h. elim ((Contains-taken places i p k l is).0 h.0) [ inl old ↦ inl (old, h.1) | inr e ↦ inr (e, h.1) ],
      λ h. elim h [
        | inl old ↦ ((Contains-taken places i p k l is).1 (inl old.0), old.1)
        | inr new ↦
            ((Contains-taken places i p k l is).1 (inr new.0), new.1)
      ],
    )) v w

module _ (ms : List Fields) where
  pub place-within : (P : Fields → Type 0) (places : List ℕ) → ArePlaces P ms places → (i : ℕ) → Contains places i
      → i < length ms
  place-within P places are i h = let at = (are.exact i).0 h in slice_get_within ms i at.0 at.1

  -- one marker is at a place
  pub both_at : (P Q : Fields → Type 0) (i : ℕ) → IsAt P ms i → IsAt Q ms i → IsAt (λ m. P m × Q m) ms i
  both_at P Q i p q = (p.0, p.1, (p.2, subst Q (same_Some q.0 p.0 (sym q.1 ∙ p.1)) q.2))

  pub finds-touching : (n : Node) (in_s in_p in_c : List ℕ) (s t u v : Search)
      → ArePlaces (λ m. Contains m.successors n) ms in_s → ArePlaces (λ m. m.predecessor ≡ n) ms in_p
      → ArePlaces (λ m. Contains (recorded_parents m) n) ms in_c
      → Finds (Contains in_s) s t → Finds (λ i. Contains in_p i × IsAt IsPrune ms i) t u
      → Finds (λ i. Contains in_c i × IsAt IsPrune ms i) u v → Finds (IsAt (Touches n) ms) s v
  finds-touching n in_s in_p in_c s t u v are_s are_p are_c f g h =
      let S : ℕ → Type 0 = Contains in_s in
      let P : ℕ → Type 0 = λ i. Contains in_p i × IsAt IsPrune ms i in
      let C : ℕ → Type 0 = λ i. Contains in_c i × IsAt IsPrune ms i in
      finds-then (λ i. S i ⊎ P i) C (IsAt (Touches n) ms) s u v
      (λ i. (
        λ r. elim r.2 [
          | inl a ↦ inl (inl ((are_s.exact i).1 (r.0, r.1, a)))
          | inr b ↦ elim b.1 [
            | inl is ↦ inl (inr ((are_p.exact i).1 (r.0, r.1, is), (r.0, r.1, b.0)))
            | inr is ↦ inr ((are_c.exact i).1 (r.0, r.1, is), (r.0, r.1, b.0))
          ]
        ],
        λ r. elim r [
          | inl x ↦ elim x [
            | inl a ↦ let at = (are_s.exact i).0 a in (at.0, at.1, inl at.2)
            | inr b ↦ let at = both_at IsPrune (λ m. m.predecessor ≡ n) i b.1 ((are_p.exact i).0 b.0) in
                (at.0, at.1, inr (at.2.0, inl at.2.1))
          ]
          | inr b ↦ let at = both_at IsPrune (λ m. Contains (recorded_parents m) n) i b.1 ((are_c.exact i).0 b.0) in
              (at.0, at.1, inr (at.2.0, inr at.2.1))
        ],
      ))
      (finds-then S P (λ i. S i ⊎ P i) s t u (λ i. (λ x. x, λ x. x)) f g) h

  -- and then what was found so is noted at the markers with this predecessor
  pub expands : (n : Node) (in_p : List ℕ) (s t u : Search) → ArePlaces (λ m. m.predecessor ≡ n) ms in_p
      → Finds (IsAt (Touches n) ms) s t
      → ((i : ℕ) → IsExpanded u i ↔ (IsExpanded t i ⊎ Contains in_p i))
      → length u.expanded.items ≡ length t.expanded.items
      → u.found.items ≡ t.found.items → u.queue.items ≡ t.queue.items → Expands ms n s u
  expands n in_p s t u are f expanded marks found queue = record {
    found = λ i. subst (λ xs. IsMarked xs i ↔ (IsFound s i ⊎ IsAt (Touches n) ms i)) (sym found) (f.found i);
    kept = (f.kept.0, queue ∙ f.kept.1);
    queued = λ q. let w = f.queued q in record {
      exact = λ i. subst (λ xs. Contains xs i ↔ IsMarked u.found.items i) (sym queue)
          (subst (λ xs. Contains t.queue.items i ↔ IsMarked xs i) (sym found) (w.exact i));
      distinct = subst (IsDistinct ◌==◌) (sym queue) w.distinct;
    };
    expanded = λ i. (
      λ h. elim ((expanded i).0 h) [
        | inl old ↦ inl (subst (λ xs. IsMarked xs i) f.expanded old)
        | inr c ↦
            inr ((are.exact i).0 c)
      ],
      λ h. (expanded i).1
          (elim h [
            | inl old ↦ inl (subst (λ xs. IsMarked xs i) (sym f.expanded) old)
            | inr a ↦
                inr ((are.exact i).1 a)
          ]),
    );
    marks = ap length found ∙ f.marks;
    expanded_marks = marks ∙ ap length f.expanded;
  }

-- ---- one marker

pub same_place : (i j : ℕ) → (i == j) ≡ true → i ≡ j
same_place i j e = (unsigned_Decides i j).0 e

pub finds-new : (place : ℕ) (s t : Search) → place < length s.found.items → ¬ IsFound s place
    → t.found.items ≡ set s.found.items place true
    → t.queue.items ≡ s.queue.items ++ place ∷ [] → t.expanded.items ≡ s.expanded.items → Finds (λ i. place ≡ i) s t
finds-new place s t l new marks queue expanded =
    let found = λ (i : ℕ). subst (λ (xs : List Bool). IsMarked xs i ↔ (IsFound s i ⊎ (place ≡ i))) (sym marks)
    (marks-set s.found.items place i l) in
    record {
      found = found;
      kept = (place ∷ [], queue);
      queued = λ q. record {
        exact = λ i. subst (λ (xs : List ℕ). Contains xs i ↔ IsFound t i) (sym queue) (
          λ h. (found i).1
              (elim ((Contains-pushed s.queue.items place i).0 h)
              [ inl old ↦ inl ((q.exact i).0 old) | inr e ↦ inr e ]),
          λ h. (Contains-pushed s.queue.items place i).1
              (elim ((found i).0 h) [ inl old ↦ inl ((q.exact i).1 old) | inr e ↦ inr e ]),
        );
        distinct = subst (IsDistinct ◌==◌) (sym queue)
            (IsDistinct-push (decided ◌==◌ unsigned_Decides) s.queue.items place q.distinct
            (false_from_ne_true (list_any (λ k. place == k) s.queue.items)
            (λ h. new ((q.exact place).0 (Contains-from_any same_place place s.queue.items h)))));
      };
      expanded = expanded;
      marks = ap length marks ∙ length-set s.found.items place true;
    }

module _ (ms : List Fields) (m : Fields) (place : ℕ) (at : slice_get ms place ≡ Some m) (s : Search) where
  -- where it is a prune marker
  pub finds-prune : (t : Search) → IsPrune m → Finds (λ i. place ≡ i) s t
      → Finds (λ i. (place ≡ i) × IsAt IsPrune ms i) s t
  finds-prune t prune v = finds-same (λ i. place ≡ i) (λ i. (place ≡ i) × IsAt IsPrune ms i) s t
      (λ i. (λ h. h.0, λ h. (h, subst (IsAt IsPrune ms) h (m, at, prune)))) v

  pub finds-other : ¬ (IsPrune m) → Finds (λ i. (place ≡ i) × IsAt IsPrune ms i) s s
  finds-other not = finds-nothing (λ i. (place ≡ i) × IsAt IsPrune ms i) s
      (λ i h. not (subst IsPrune (same_Some h.1.0 m (sym h.1.1 ∙ (ap (slice_get ms) (sym h.0) ∙ at))) h.1.2))

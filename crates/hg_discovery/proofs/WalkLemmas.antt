-- Walks that decide what they come to.
use Rattle.std.proofs.Common.{◌≡◌, ◌≢◌, ◌⊎◌, ℕ, zero, suc, ◌≤◌, ◌<◌, ◌+◌, inl, inr, true, false, List, [], ◌∷◌, ◌++◌}
use Rattle.std.proofs.Common.{append_assoc, length, length-append, set, get_or, slice_get, Some, Contains, refl, sym}
use Rattle.std.proofs.Common.{ap, subst, ◌∙◌, arith, true≢false}
use Rattle.std.proofs.lemmas.Bool.{cases_eq}
use Rattle.std.proofs.lemmas.List.{length-set, append-nil}
use Rattle.std.proofs.lemmas.List.Elements.{Contains-append_left, Contains-append_right, Contains-append_cases}
use Rattle.std.proofs.lemmas.Option.{same_Some, slice_get_within, slice_get-get_or}
use Rattle.hg_changeset.proofs.ListLemmas.{Contains-first, Contains-none, Contains-one, slice_get-append}
use Rattle.hg_graph.specs.declared.graph.ParentPlaces.{ParentPlaces}
use Rattle.hg_graph.proofs.GraphLemmas.{Contains-from_place, place_from_Contains}
use Rattle.hg_graph.proofs.MarkLemmas.{get-set_same, get-set_other}
use Rattle.hg_discovery.specs.declared.finding.Finding.{Finding}
use Rattle.hg_discovery.specs.declared.finding.Finding.TheVariants.{Undecided, Common, Missing}
use Rattle.hg_discovery.specs.Under.{IsOneOf, IsParentAt, IsUnder, IsInOrder, itself, below}
use Rattle.hg_discovery.specs.Search.{Is, IsClosed}
use Rattle.hg_discovery.specs.Answers.{IsDecided}
use Rattle.hg_discovery.specs.declared.children.Stretch.{Stretch}
use Rattle.hg_discovery.specs.Children.{AreChildren, Stands}
use Rattle.hg_discovery.specs.Queue.{Grows, AreTaken}
use Rattle.hg_discovery.proofs.UnderLemmas.{not_both_uc, not_both_um, three}
use Rattle.hg_discovery.proofs.CountLemmas.{one_less}

-- ---- places behind

pub append_place : {X : Type 0} (xs ys : List X) (i : ℕ) (x : X) → slice_get ys i ≡ Some x
    → (m : ℕ) × (length xs ≤ m) × (slice_get (xs ++ ys) m ≡ Some x)
append_place [] ys i x h = (i, omega arith, h)
append_place (y ∷ xs) ys i x h = let r = append_place xs ys i x h in (suc r.0, omega (arith, r.1), r.2)

pub append_behind : {X : Type 0} (xs ys : List X) (m : ℕ) (x : X) → length xs ≤ m → slice_get (xs ++ ys) m ≡ Some x
    → Contains ys x
append_behind [] ys m x le h = Contains-from_place ys m x h
append_behind (y ∷ xs) ys zero x le h = absurd (omega (arith, le))
append_behind (y ∷ xs) ys (suc m) x le h = append_behind xs ys m x (omega (arith, le)) h

-- ---- what a step decides

module _ (d : Finding) where
  pub Grows-none : (P : ℕ → Type 0) (old : List Finding) (queue : List ℕ) → Grows P d old queue old queue
  Grows-none P old queue = record {
    more = [];
    longer = sym (append-nil queue);
    len = refl;
    changed = λ k. inl refl;
    queued = λ k h. absurd (Contains-none k h);
    count = refl;
  }

  pub Grows-one : d ≢ Undecided → (p : ℕ) (old : List Finding) (queue : List ℕ) → Is old Undecided p
      → Grows (λ k. p ≡ k) d old queue (set old p d) (queue ++ p ∷ [])
  Grows-one decided p old queue at = record {
    more = p ∷ [];
    longer = refl;
    len = length-set old p d;
    changed = λ k. elim (cases_eq k p) [
      | inl e ↦ inr (
        subst (Is old Undecided) (sym e) at,
        subst (Is (set old p d) d) (sym e) now,
        sym e,
        subst (Contains (p ∷ [])) (sym e) (Contains-first p []),
      )
      | inr ne ↦ inl (get-set_other old p k d ne)
    ];
    queued = λ k h. let e : p ≡ k = Contains-one p k h in
        (subst (Is old Undecided) e at, subst (Is (set old p d) d) e now, e);
    count = omega (arith, one_less old p d decided at, length-append queue (p ∷ []));
  }
    where
      now : Is (set old p d) d p
      now = get-set_same old p d (slice_get_within old p Undecided at)

  pub Grows-wider : (P Q : ℕ → Type 0) (a b : List Finding) (k l : List ℕ) → ((q : ℕ) → P q → Q q) → Grows P d a k b l
      → Grows Q d a k b l
  Grows-wider P Q a b k l wide g = record {
    more = g.more;
    longer = g.longer;
    len = g.len;
    changed = λ q. elim (g.changed q) [ inl s ↦ inl s | inr h ↦ inr (h.0, h.1, wide q h.2, h.3) ];
    queued = λ q h. let f = g.queued q h in (f.0, f.1, wide q f.2);
    count = g.count;
  }

  pub Grows-so : (P : ℕ → Type 0) (a b : List Finding) (k l : List ℕ) → Grows P d a k b l → (q : ℕ) → Is a d q
      → Is b d q
  Grows-so P a b k l g q h = elim (g.changed q) [ inl s ↦ s ∙ h | inr f ↦ f.1 ]

  pub Grows-kept : (P : ℕ → Type 0) (a b : List Finding) (k l : List ℕ) → Grows P d a k b l → (e : Finding) (q : ℕ)
      → e ≢ Undecided → Is a e q → Is b e q
  Grows-kept P a b k l g e q ne h = elim (g.changed q) [
    | inl s ↦ s ∙ h
    | inr f ↦
        absurd (ne (same_Some e Undecided (sym h ∙ f.0)))
  ]

  pub Grows-from : (P : ℕ → Type 0) (a b : List Finding) (k l : List ℕ) → Grows P d a k b l → (e : Finding) (q : ℕ)
      → e ≢ d → Is b e q → Is a e q
  Grows-from P a b k l g e q ne h = elim (g.changed q) [
    | inl s ↦ sym s ∙ h
    | inr f ↦
        absurd (ne (same_Some e d (sym h ∙ f.1)))
  ]

  pub Grows-then : (P : ℕ → Type 0) (a b c : List Finding) (k l m : List ℕ) → Grows P d a k b l → Grows P d b l c m
      → Grows P d a k c m
  Grows-then P a b c k l m first second = record {
    more = first.more ++ second.more;
    longer = second.longer ∙ ap (λ xs. xs ++ second.more) first.longer ∙ append_assoc k first.more second.more;
    len = second.len ∙ first.len;
    changed = λ q. elim (second.changed q) [
      | inl same ↦ elim (first.changed q) [
        | inl s ↦ inl (same ∙ s)
        | inr h ↦ inr (h.0, same ∙ h.1, h.2, Contains-append_left first.more second.more q h.3)
      ]
      | inr h ↦ inr (before q h.0, h.1, h.2, Contains-append_right first.more second.more q h.3)
    ];
    queued = λ q h. elim (Contains-append_cases first.more second.more q h) [
      | inl early ↦ let f = first.queued q early in (f.0, Grows-so P b c l m second q f.1, f.2)
      | inr late ↦ let s = second.queued q late in (before q s.0, s.1, s.2)
    ];
    count = second.count ∙ first.count;
  }
    where
      before : (q : ℕ) → Is b Undecided q → Is a Undecided q
      before q u = elim (first.changed q) [ inl s ↦ sym s ∙ u | inr h ↦ h.0 ]

  pub AreTaken-then : (P Q R : ℕ → Type 0) (a b c : List Finding) (k l m : List ℕ) → Grows P d a k b l
      → Grows Q d b l c m → AreTaken P d a b → AreTaken Q d b c → ((q : ℕ) → R q → P q ⊎ Q q) → AreTaken R d a c
  AreTaken-then P Q R a b c k l m first second one two joins q r u = elim (joins q r) [
    | inl p ↦ Grows-so Q b c l m second q (one q p u)
    | inr x ↦ elim (first.changed q) [ inl same ↦ two q x (same ∙ u) | inr h ↦ Grows-so Q b c l m second q h.1 ]
  ]

-- ---- a walk

-- E leads from what is decided to what is decided with it; what was queued from the place `next` on waits for it
pub record IsWalked (d : Finding) (E : ℕ → ℕ → Type 0) (P : ℕ → Type 0) (place : ℕ) (old : List Finding)
    (start : List ℕ) (now : List Finding) (queue : List ℕ) (next : ℕ) : Type 0 where
  pub grows : Grows P d old start now queue
  pub begun : Is now d place
  pub from : length start ≤ next
  pub followed : (j k : ℕ) → E j k → Is now d j → Is now d k ⊎ ((i : ℕ) × (next ≤ i) × (slice_get queue i ≡ Some j))

module _ (d : Finding) (E : ℕ → ℕ → Type 0) (P : ℕ → Type 0) (place : ℕ) (old : List Finding) (start : List ℕ)
    (closed : (j k : ℕ) → E j k → Is old d j → Is old d k) where
  pub IsWalked-start : (now : List Finding) (queue : List ℕ) → Is old Undecided place → P place
      → Grows (λ k. place ≡ k) d old start now queue → AreTaken (λ k. place ≡ k) d old now
      → IsWalked d E P place old start now queue (length start)
  IsWalked-start now queue at p g taken = record {
    grows = Grows-wider d (λ k. place ≡ k) P old now start queue (λ k e. subst P e p) g;
    begun = taken place refl at;
    from = omega arith;
    followed = λ j k e h. elim (g.changed j) [
      | inl same ↦ inl (Grows-so d (λ k. place ≡ k) old now start queue g k (closed j k e (sym same ∙ h)))
      | inr q ↦
          let m = place_from_Contains g.more j q.3 in
          let r = append_place start g.more m.0 j m.1 in
          inr (r.0, r.1, subst (λ xs. slice_get xs r.0 ≡ Some j) (sym g.longer) r.2)
    ];
  }

  pub IsWalked-end : (now : List Finding) (queue : List ℕ) (next : ℕ) → IsWalked d E P place old start now queue next
      → length queue ≤ next → (j k : ℕ) → E j k → Is now d j → Is now d k
  IsWalked-end now queue next w le j k e h = elim (w.followed j k e h)
      [ inl so ↦ so | inr p ↦ absurd (omega (arith, le, p.1, slice_get_within queue p.0 j p.2)) ]

  module _ (step : (j k : ℕ) → E j k → P j → P k) (free : (j k : ℕ) → E j k → Is old Undecided j
      → Is old d k ⊎ Is old Undecided k) (now : List Finding) (queue : List ℕ) (next : ℕ)
      (w : IsWalked d E P place old start now queue next) (one : ℕ) (at : slice_get queue next ≡ Some one) where
    pub waited : Is old Undecided one × Is now d one × P one
    waited = w.grows.queued one (append_behind start w.grows.more next one w.from
        (subst (λ xs. slice_get xs next ≡ Some one) w.grows.longer at))

    pub IsWalked-grows : (new : List Finding) (after : List ℕ) → Grows (E one) d now queue new after
        → Grows P d old start new after
    IsWalked-grows new after g = Grows-then d P old now new start queue after w.grows
        (Grows-wider d (E one) P now new queue after (λ k e. step one k e waited.2) g)

    pub IsWalked-step : (new : List Finding) (after : List ℕ) → Grows (E one) d now queue new after
        → AreTaken (E one) d now new → IsWalked d E P place old start new after (next + 1)
    IsWalked-step new after g taken = record {
      grows = IsWalked-grows new after g;
      begun = kept place w.begun;
      from = omega (arith, w.from);
      followed = λ j k e h. elim (g.changed j) [
        | inl same ↦ elim (w.followed j k e (sym same ∙ h)) [
          | inl so ↦ inl (kept k so)
          | inr p ↦ elim (cases_eq p.0 next) [
            | inl is ↦ inl (reached k
                (subst (λ q. E q k) (same_Some j one (sym (subst (λ m. slice_get queue m ≡ Some j) is p.2) ∙ at)) e))
            | inr ne ↦ inr (
              p.0,
              omega (arith, p.1, ne),
              subst (λ xs. slice_get xs p.0 ≡ Some j) (sym g.longer)
                  (slice_get-append queue g.more p.0 j p.2),
            )
          ]
        ]
        | inr q ↦
            let m = place_from_Contains g.more j q.3 in
            let r = append_place queue g.more m.0 j m.1 in
            inr (
              r.0,
              omega (arith, r.1, slice_get_within queue next one at),
              subst (λ xs. slice_get xs r.0 ≡ Some j) (sym g.longer) r.2,
            )
      ];
    }
      where
        kept : (k : ℕ) → Is now d k → Is new d k
        kept k h = Grows-so d (E one) now new queue after g k h

        reached : (k : ℕ) → E one k → Is new d k
        reached k e = elim (free one k e waited.0) [
          | inl so ↦ kept k (Grows-so d P old now start queue w.grows k so)
          | inr u ↦ elim (w.grows.changed k) [ inl s ↦ taken k e (s ∙ u) | inr h ↦ kept k h.1 ]
        ]

-- ---- up and down

abbrev pub ToParent : List ParentPlaces → ℕ → ℕ → Type 0
ToParent ps j k = IsParentAt ps j k

abbrev pub ToChild : List ParentPlaces → ℕ → ℕ → Type 0
ToChild ps j k = IsParentAt ps k j

abbrev pub Below : List ParentPlaces → ℕ → ℕ → Type 0
Below ps place k = IsUnder ps k place

module _ (ps : List ParentPlaces) (old : List Finding) (len : length old ≡ length ps) (order : IsInOrder ps)
    (closed : IsClosed ps old) where
  pub up_free : (j k : ℕ) → IsParentAt ps j k → Is old Undecided j → Is old Common k ⊎ Is old Undecided k
  up_free j k q u = elim (three old k (omega (arith, slice_get_within old j Undecided u, order j k q))) [
    | inl v ↦ inr v
    | inr e ↦ elim e [ inl c ↦ inl c | inr m ↦ absurd (not_both_um old j u (closed.missing j k q m)) ]
  ]

  pub down_free : (j k : ℕ) → IsParentAt ps k j → Is old Undecided j → Is old Missing k ⊎ Is old Undecided k
  down_free j k q u = elim (three old k (omega (arith, len, slice_get_within ps k q.0 q.1))) [
    | inl v ↦ inr v
    | inr e ↦ elim e [ inl c ↦ absurd (not_both_uc old j u (closed.common k j q c)) | inr m ↦ inl m ]
  ]

under_step : (ps : List ParentPlaces) (j k : ℕ) → IsParentAt ps j k → (place : ℕ) → IsUnder ps j place
    → IsUnder ps k place
under_step ps j k q place itself = below itself q
under_step ps j k q place (below {p = p} u r) = below (under_step ps j k q p u) r

pub up_step : (ps : List ParentPlaces) (place j k : ℕ) → IsParentAt ps j k → IsUnder ps j place → IsUnder ps k place
up_step ps place j k q u = under_step ps j k q place u

pub down_step : (ps : List ParentPlaces) (place j k : ℕ) → IsParentAt ps k j → IsUnder ps place j → IsUnder ps place k
down_step ps place j k q u = below u q

reach_up : (ps : List ParentPlaces) (Q : ℕ → Type 0) → ((j k : ℕ) → IsParentAt ps j k → Q j → Q k) → (k j : ℕ)
    → IsUnder ps k j → Q j → Q k
reach_up ps Q step k j itself h = h
reach_up ps Q step k j (below {p = p} u q) h = reach_up ps Q step k p u (step j p q h)

reach_down : (ps : List ParentPlaces) (Q : ℕ → Type 0) → ((j k : ℕ) → IsParentAt ps k j → Q j → Q k) → (k j : ℕ)
    → IsUnder ps k j → Q k → Q j
reach_down ps Q step k j itself h = h
reach_down ps Q step k j (below {p = p} u q) h = step p j q (reach_down ps Q step k p u h)

module _ (ps : List ParentPlaces) (place : ℕ) (old : List Finding) (start : List ℕ) (closed : IsClosed ps old)
    (now : List Finding) (queue : List ℕ) (next : ℕ) (le : length queue ≤ next) where
  pub walked_common : IsWalked Common (ToParent ps) (Below ps place) place old start now queue next
      → IsDecided ps place true old now
  walked_common w = record {
    len = w.grows.len;
    common = λ j. (
      λ h. elim (w.grows.changed j) [ inl s ↦ inl (sym s ∙ h) | inr q ↦ inr (refl, q.0, q.2) ],
      λ h. elim h [
        | inl o ↦ Grows-so Common (Below ps place) old now start queue w.grows j o
        | inr u ↦ reach_up ps (Is now Common) (IsWalked-end Common (ToParent ps)
            (Below ps place) place old start closed.common now queue next w le) j place u.2 w.begun
      ],
    );
    missing = λ j. (
      λ h. inl (Grows-from Common (Below ps place) old now start queue w.grows Missing j (λ e. cc) h),
      λ h. elim h [
        | inl o ↦ Grows-kept Common (Below ps place) old now start queue w.grows Missing j
            (λ e. cc) o
        | inr u ↦ absurd (true≢false u.0)
      ],
    );
  }

  pub walked_missing : IsWalked Missing (ToChild ps) (IsUnder ps place) place old start now queue next
      → IsDecided ps place false old now
  walked_missing w = record {
    len = w.grows.len;
    common = λ j. (
      λ h. inl (Grows-from Missing (IsUnder ps place) old now start queue w.grows Common j (λ e. cc) h),
      λ h. elim h [
        | inl o ↦ Grows-kept Missing (IsUnder ps place) old now start queue w.grows Common j
            (λ e. cc) o
        | inr u ↦ absurd (true≢false (sym u.0))
      ],
    );
    missing = λ j. (
      λ h. elim (w.grows.changed j) [ inl s ↦ inl (sym s ∙ h) | inr q ↦ inr (refl, q.0, q.2) ],
      λ h. elim h [
        | inl o ↦ Grows-so Missing (IsUnder ps place) old now start queue w.grows j o
        | inr u ↦ reach_down ps (Is now Missing) (IsWalked-end Missing (ToChild ps) (IsUnder ps place) place old start
            (λ p k q m. closed.missing k p q m) now queue next w le) place j u.2 w.begun
      ],
    );
  }

-- ---- children

module _ (cs : List ℕ) (from i x : ℕ) (at : slice_get cs i ≡ Some x) (le : from ≤ i) where
  stands_more : (k : ℕ) → Stands cs from i k → Stands cs from (i + 1) k
  stands_more k h = (h.0, h.1, omega (arith, h.2), h.3)

  stands_one : (k : ℕ) → x ≡ k → Stands cs from (i + 1) k
  stands_one k e = (i, le, omega arith, subst (λ y. slice_get cs i ≡ Some y) e at)

  stands_cases : (k : ℕ) → Stands cs from (i + 1) k → Stands cs from i k ⊎ (x ≡ k)
  stands_cases k h = elim (cases_eq h.0 i) [
    | inl e ↦ inr (same_Some x k (sym at ∙ subst (λ m. slice_get cs m ≡ Some k) e h.3))
    | inr ne ↦ inl (h.0, h.1, omega (arith, h.2, ne), h.3)
  ]

  module _ (d : Finding) (a b c : List Finding) (k l m : List ℕ) (first : Grows (Stands cs from i) d a k b l)
      (second : Grows (λ q. x ≡ q) d b l c m) where
    pub stretch_grows : Grows (Stands cs from (i + 1)) d a k c m
    stretch_grows = Grows-then d (Stands cs from (i + 1)) a b c k l m
        (Grows-wider d (Stands cs from i) (Stands cs from (i + 1)) a b k l stands_more first)
        (Grows-wider d (λ q. x ≡ q) (Stands cs from (i + 1)) b c l m stands_one second)

    pub stretch_taken : AreTaken (Stands cs from i) d a b → AreTaken (λ q. x ≡ q) d b c
        → AreTaken (Stands cs from (i + 1)) d a c
    stretch_taken one two = AreTaken-then d (Stands cs from i) (λ q. x ≡ q)
        (Stands cs from (i + 1)) a b c k l m first second one two stands_cases

pub stands_in : (cs : List ℕ) (from i to k : ℕ) → i ≤ to → Stands cs from i k → Stands cs from to k
stands_in cs from i to k le h = (h.0, h.1, omega (arith, h.2, le), h.3)

-- ---- what stands next

module _ (d : Finding) (ps : List ParentPlaces) (one : ℕ) (a b : List Finding) (k l : List ℕ) where
  module _ (p : ParentPlaces) (at : slice_get ps one ≡ Some p) where
    pub parents_grow : Grows (IsOneOf p) d a k b l → Grows (ToParent ps one) d a k b l
    parents_grow g = Grows-wider d (IsOneOf p) (ToParent ps one) a b k l (λ q h. (p, at, h)) g

    pub parents_taken : AreTaken (IsOneOf p) d a b → AreTaken (ToParent ps one) d a b
    parents_taken taken q h u = taken q (subst (λ x. IsOneOf x q) (same_Some h.0 p (sym h.1 ∙ at)) h.2) u

  module _ (places : List ℕ) (stretches : List Stretch) (children : AreChildren ps places stretches)
      (s : Stretch) (at : slice_get stretches one ≡ Some s) where
    pub children_grow : Grows (Stands places s.from s.to) d a k b l → Grows (ToChild ps one) d a k b l
    children_grow g = Grows-wider d (Stands places s.from s.to) (ToChild ps one) a b k l
        (λ q h. (children.exact one s q at).0 h) g

    pub children_taken : AreTaken (Stands places s.from s.to) d a b → AreTaken (ToChild ps one) d a b
    children_taken taken q h u = taken q ((children.exact one s q at).1 h) u

-- what was read at an index
pub read : {X : Type 0} (xs : List X) (i : ℕ) (x : X) → i < length xs → x ≡ get_or xs i x → slice_get xs i ≡ Some x
read xs i x l e = slice_get-get_or xs i x l ∙ ap (λ y. Some y) (sym e)

module _ (ps : List ParentPlaces) (old : List Finding) (len : length old ≡ length ps) (order : IsInOrder ps)
    (closed : IsClosed ps old) (place : ℕ) (start : List ℕ) (now : List Finding) (queue : List ℕ) (next one : ℕ)
    (at : slice_get queue next ≡ Some one) where
  module _ (w : IsWalked Common (ToParent ps) (Below ps place) place old start now queue next) where
    pub up_within : one < length ps
    up_within =
        let was = waited Common (ToParent ps) (Below ps place) place old start closed.common (up_step ps place)
        (up_free ps old len order closed) now queue next w one at in
        omega (arith, len, slice_get_within old one Undecided was.0)

    module _ (p : ParentPlaces) (at_one : slice_get ps one ≡ Some p) (new : List Finding) (after : List ℕ)
        (g : Grows (IsOneOf p) Common now queue new after) where
      pub up_walked : AreTaken (IsOneOf p) Common now new → IsWalked Common (ToParent ps)
          (Below ps place) place old start new after (next + 1)
      up_walked taken =
          IsWalked-step Common (ToParent ps) (Below ps place) place old start closed.common (up_step ps place)
          (up_free ps old len order closed) now queue next w one at new after
          (parents_grow Common ps one now new queue after p at_one g)
          (parents_taken Common ps one now new queue after p at_one taken)

  module _ (w : IsWalked Missing (ToChild ps) (IsUnder ps place) place old start now queue next) where
    down_closed : (j k : ℕ) → IsParentAt ps k j → Is old Missing j → Is old Missing k
    down_closed j k q m = closed.missing k j q m

    pub down_within : one < length ps
    down_within =
        let was = waited Missing (ToChild ps) (IsUnder ps place) place old start down_closed (down_step ps place)
        (down_free ps old len order closed) now queue next w one at in
        omega (arith, len, slice_get_within old one Undecided was.0)

    module _ (places : List ℕ) (stretches : List Stretch) (children : AreChildren ps places stretches) (s : Stretch)
        (at_one : slice_get stretches one ≡ Some s) (new : List Finding) (after : List ℕ)
        (g : Grows (Stands places s.from s.to) Missing now queue new after) where
      pub down_walked : AreTaken (Stands places s.from s.to) Missing now new
          → IsWalked Missing (ToChild ps) (IsUnder ps place) place old start new after (next + 1)
      down_walked taken =
          IsWalked-step Missing (ToChild ps) (IsUnder ps place) place old start down_closed (down_step ps place)
          (down_free ps old len order closed) now queue next w one at new after
          (children_grow Missing ps one now new queue after places stretches children s at_one g)
          (children_taken Missing ps one now new queue after places stretches children s at_one taken)

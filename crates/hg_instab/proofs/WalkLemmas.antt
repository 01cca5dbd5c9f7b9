-- Steps over markers, and the walk along them.
use Rattle.std.proofs.Common.{◌≡◌, ℕ, zero, suc, ◌+◌, ◌<◌, ◌≤◌, List, [], ◌∷◌, ◌++◌, length, take, get_or, slice_get}
use Rattle.std.proofs.Common.{Some, Contains, ◌↔◌, ◌⊎◌, inl, inr, refl, sym, ap, subst, ◌∙◌}
use Rattle.std.proofs.Common.{append_assoc, arith}
use Rattle.std.specs.List.{IsDistinct}
use Rattle.std.proofs.lemmas.List.{append-nil, take_all}
use Rattle.std.proofs.lemmas.List.Elements.{Contains-append_left, Contains-append_right, Contains-get_or}
use Rattle.std.proofs.lemmas.Map.Made.{length-le_from_is_member}
use Rattle.std.proofs.lemmas.Map.Views.{Contains-from_any, list_any-from_Contains}
use Rattle.std.proofs.lemmas.Option.{same_Some}
use Rattle.hg_changeset.specs.declared.node.Node.{Node}
use Rattle.hg_changeset.specs.Node.{node_eq}
use Rattle.hg_changeset.proofs.NodeLemmas.{same_node, node_eq_laws}
use Rattle.hg_graph.proofs.GraphLemmas.{Contains-from_place, place_from_Contains}
use Rattle.hg_changeset.proofs.ListLemmas.{Contains-none, Contains-cons_cases}
use Rattle.hg_marker.specs.Fields.{Fields}
use Rattle.hg_obsstore.specs.Markers.{ArePlaces}
use Rattle.hg_instab.specs.declared.walk.Followed.TheVariants.{Every}
use Rattle.hg_instab.specs.declared.walk.Way.{Way}
use Rattle.hg_instab.specs.declared.walk.Way.TheVariants.{ToSuccessors, Both}
use Rattle.hg_instab.specs.Walk.{IsFollowed, IsReached, IsNext, IsBefore, IsStep, IsOfOneAt, Leads, Adds}
use Rattle.hg_instab.specs.Walk.Leads.{one, further}
use Rattle.hg_changeset.proofs.ListLemmas.{Contains-taken}
use Rattle.hg_node_set.specs.Keys.{insert_key}
use Rattle.hg_node_set.proofs.CallerLemmas.{insert_key-grows, Contains-insert_key, Contains-insert_key_kept}
use Rattle.hg_node_set.proofs.CallerLemmas.{Contains-insert_key_cases}

-- ---- what is added

pub adds-nothing : (P : Node → Type 0) (xs : List Node) → ((n : Node) → P n → Contains xs n) → Adds P xs xs
adds-nothing P xs known =
    record {
      kept = ([], sym (append-nil xs));
      members = λ n. (λ h. inl h, λ h. elim h [ inl old ↦ old | inr p ↦ known n p ]);
    }

pub adds-then : (P Q R : Node → Type 0) (xs ys zs : List Node) → ((n : Node) → R n ↔ (P n ⊎ Q n)) → Adds P xs ys
    → Adds Q ys zs → Adds R xs zs
adds-then P Q R xs ys zs joins a b = record {
  kept = (a.kept.0 ++ b.kept.0, b.kept.1 ∙ ap (λ l. l ++ b.kept.0) a.kept.1 ∙ append_assoc xs a.kept.0 b.kept.0);
  members = λ n. (
    λ h. elim ((b.members n).0 h) [
      | inl mid ↦ elim ((a.members n).0 mid) [ inl old ↦ inl old | inr p ↦ inr ((joins n).1 (inl p)) ]
      | inr q ↦ inr ((joins n).1 (inr q))
    ],
    λ h. (b.members n).1 (elim h [
      | inl old ↦ inl ((a.members n).1 (inl old))
      | inr r ↦ elim ((joins n).0 r) [ inl p ↦ inl ((a.members n).1 (inr p)) | inr q ↦ inr q ]
    ]),
  );
}

pub adds-same : (P Q : Node → Type 0) (xs ys : List Node) → ((n : Node) → Q n ↔ P n) → Adds P xs ys → Adds Q xs ys
adds-same P Q xs ys same a = record {
  kept = a.kept;
  members = λ n. (
    λ h. elim ((a.members n).0 h) [ inl old ↦ inl old | inr p ↦ inr ((same n).1 p) ],
    λ h. (a.members n).1 (elim h [ inl old ↦ inl old | inr q ↦ inr ((same n).0 q) ]),
  );
}

-- one node
pub adds-one : (xs ys : List Node) (x : Node) → ys ≡ insert_key xs x → Adds (λ n. x ≡ n) xs ys
adds-one xs ys x is =
    let grows = insert_key-grows xs x in
    record {
      kept = (grows.0, is ∙ grows.1);
      members = λ n. (
        λ h. Contains-insert_key_cases xs x n (subst (λ zs. Contains zs n) is h),
        λ h. subst (λ zs. Contains zs n) (sym is) (elim h [
          | inl old ↦ Contains-insert_key_kept xs x n old
          | inr e ↦ subst (Contains (insert_key xs x)) e (Contains-insert_key xs x)
        ]),
      );
    }

-- the nodes up to one more
pub adds-more : (nodes : List Node) (i : ℕ) (x : Node) (xs ys zs : List Node) → i < length nodes
    → get_or nodes i x ≡ x → Adds (Contains (take i nodes)) xs ys → zs ≡ insert_key ys x
    → Adds (Contains (take (i + 1) nodes)) xs zs
adds-more nodes i x xs ys zs l at before is = adds-then (Contains (take i nodes)) (λ n. x ≡ n)
    (Contains (take (i + 1) nodes)) xs ys zs (λ n. Contains-taken nodes i x n l at) before (adds-one ys zs x is)

-- what stood first still does
take-front : (k : ℕ) (xs more : List Node) → k ≤ length xs → take k (xs ++ more) ≡ take k xs
take-front zero xs more le = refl
take-front (suc k) [] more le = absurd (omega (arith, le))
take-front (suc k) (y ∷ xs) more le = ap (λ l. y ∷ l) (take-front k xs more (omega (arith, le)))

pub front-kept : (xs ys : List Node) (k : ℕ) → (more : List Node) × (ys ≡ xs ++ more) → k ≤ length xs
    → take k ys ≡ take k xs
front-kept xs ys k kept le = ap (take k) kept.1 ∙ take-front k xs kept.0 le

-- ---- markers at places

-- the places up to one more
pub of-more : (Of : Fields → Node → Type 0) (ms : List Fields) (places : List ℕ) (i k : ℕ) (m : Fields)
    → i < length places → get_or places i k ≡ k → slice_get ms k ≡ Some m → (n : Node)
    → IsOfOneAt Of ms (take (i + 1) places) n ↔ (IsOfOneAt Of ms (take i places) n ⊎ Of m n)
of-more Of ms places i k m l is at n = (
  λ h. elim ((Contains-taken places i k h.0 l is).0 h.1) [
    | inl old ↦ inl (h.0, old, h.2, h.3, h.4)
    | inr e ↦
        let same : h.2 ≡ m = same_Some h.2 m (sym h.3 ∙ ap (slice_get ms) (sym e) ∙ at) in
        inr (subst (λ x. Of x n) same h.4)
  ],
  λ h. elim h [
    | inl old ↦ (old.0, (Contains-taken places i k old.0 l is).1 (inl old.1), old.2, old.3, old.4)
    | inr new ↦ (k, (Contains-taken places i k k l is).1 (inr refl), m, at, new)
  ],
)

-- ---- one step

-- a marker of this kind has n as a successor
abbrev pub IsNextOf : (Fields → Type 0) → Fields → Node → Type 0
IsNextOf Kind m n = Kind m × Contains m.successors n

-- a marker of this kind, at one of the places, has n as a successor
abbrev pub IsNextAt : (Fields → Type 0) → List Fields → List ℕ → Node → Type 0
IsNextAt Kind = IsOfOneAt (IsNextOf Kind)

pub next-all : (Kind : Fields → Type 0) (ms : List Fields) (places : List ℕ) (p n : Node)
    → ArePlaces (λ m. m.predecessor ≡ p) ms places → IsNext Kind ms p n ↔ IsNextAt Kind ms places n
next-all Kind ms places p n are = (
  λ h. let k = place_from_Contains ms h.0 h.1 in (k.0, (are.exact k.0).1 (h.0, k.1, h.2), h.0, k.1, (h.3, h.4)),
  λ h.
      let m = (are.exact h.0).0 h.1 in
      let same : m.0 ≡ h.2 = same_Some m.0 h.2 (sym m.1 ∙ h.3) in
      (h.2, Contains-from_place ms h.0 h.2 h.3, ap (λ x. x.predecessor) (sym same) ∙ m.2, h.4.0, h.4.1),
)

-- ---- one step back

-- the marker has n as its predecessor
abbrev pub IsBeforeOf : Fields → Node → Type 0
IsBeforeOf m n = m.predecessor ≡ n

-- a marker at one of the places has n as its predecessor
abbrev pub IsBeforeAt : List Fields → List ℕ → Node → Type 0
IsBeforeAt = IsOfOneAt IsBeforeOf

pub before-all : (ms : List Fields) (places : List ℕ) (p n : Node) → ArePlaces (λ m. Contains m.successors p) ms places
    → IsBefore ms p n ↔ IsBeforeAt ms places n
before-all ms places p n are = (
  λ h. let k = place_from_Contains ms h.0 h.1 in (k.0, (are.exact k.0).1 (h.0, k.1, h.2), h.0, k.1, h.3),
  λ h.
      let m = (are.exact h.0).0 h.1 in
      let same : m.0 ≡ h.2 = same_Some m.0 h.2 (sym m.1 ∙ h.3) in
      (h.2, Contains-from_place ms h.0 h.2 h.3, subst (λ x. Contains x.successors p) same m.2, h.4),
)

-- ---- the walk

-- the ids that markers name
abbrev pub ids : List Fields → List Node
ids [] = []
ids (m ∷ ms) = (m.predecessor ∷ m.successors) ++ ids ms

named : (ms : List Fields) (m : Fields) (n : Node) → Contains ms m → Contains (m.predecessor ∷ m.successors) n
    → Contains (ids ms) n
named [] m n at h = absurd (Contains-none m at)
named (x ∷ ms) m n at h = elim (Contains-cons_cases x ms m at) [
  | inl e ↦ Contains-append_left (x.predecessor ∷ x.successors) (ids ms) n
      (subst (λ y. Contains (y.predecessor ∷ y.successors) n) (sym e) h)
  | inr more ↦ Contains-append_right (x.predecessor ∷ x.successors) (ids ms) n (named ms m n more h)
]

-- a step leads to what a marker names
next-named : (Kind : Fields → Type 0) (ms : List Fields) (p n : Node) → IsNext Kind ms p n → Contains (ids ms) n
next-named Kind ms p n h =
    named ms h.0 n h.1 (Contains-append_right (h.0.predecessor ∷ []) h.0.successors n h.4)

before-named : (ms : List Fields) (p n : Node) → IsBefore ms p n → Contains (ids ms) n
before-named ms p n h =
    named ms h.0 n h.1
    (Contains-append_left (h.0.predecessor ∷ []) h.0.successors n
    (subst (Contains (h.0.predecessor ∷ [])) h.3 (0, omega arith, refl)))

step-named : (way : Way) (ms : List Fields) (p n : Node) → IsStep way ms p n → Contains (ids ms) n
step-named (ToSuccessors followed) ms p n h = next-named (IsFollowed followed) ms p n h
step-named Both ms p n h = elim h [
  | inl next ↦ next-named (IsFollowed Every) ms p n next
  | inr before ↦ before-named ms p n before
]

-- how far the walk has come: from the first i of those that were seen, all that a step leads to was seen
pub record IsWalked (Step : Node → Node → Type 0) (starts seen : List Node) (i : ℕ) : Type 0 where
  pub sound : (n : Node) → Contains seen n → IsReached Step starts n
  pub begun : (n : Node) → Contains starts n → Contains seen n
  pub closed : (p n : Node) → Contains (take i seen) p → Step p n → Contains seen n

module _ (way : Way) (ms : List Fields) (starts : List Node) where
  abbrev Step : Node → Node → Type 0
  Step = IsStep way ms

  pub walk-start : IsWalked (IsStep way ms) starts starts 0
  walk-start = record {
    sound = λ n h. inl h;
    begun = λ n h. h;
    closed = λ p n h next. absurd (Contains-none p h);
  }

  -- what a step leads to from what is reached is reached
  pub reached-next : (p n : Node) → IsReached Step starts p → Step p n → IsReached Step starts n
  reached-next p n (inl first) next = inr (p, first, one next)
  reached-next p n (inr far) next = inr (far.0, far.1, further far.2 next)

  pub walk-step : (seen new : List Node) (i : ℕ) (x : Node) → i < length seen
      → get_or seen i x ≡ x → IsWalked (IsStep way ms) starts seen i → Adds (IsStep way ms x) seen new
      → IsWalked (IsStep way ms) starts new (i + 1)
  walk-step seen new i x l at w a = record {
    sound = λ n h. elim ((a.members n).0 h) [
      | inl old ↦ w.sound n old
      | inr next ↦ reached-next x n (w.sound x (subst (Contains seen) at (Contains-get_or seen i x l))) next
    ];
    begun = λ n h. (a.members n).1 (inl (w.begun n h));
    closed = λ p n h next.
        let before : Contains (take (i + 1) seen) p = subst (λ zs. Contains zs p)
        (front-kept seen new (i + 1) a.kept (omega (arith, l))) h in
        (a.members n).1 (elim ((Contains-taken seen i x p l at).0 before) [
          | inl old ↦ inl (w.closed p n old next)
          | inr e ↦ inr (subst (λ y. Step y n) (sym e) next)
        ]);
  }

  -- all that was seen is a start, or named by a marker, so the walk ends
  pub walk-within : (seen : List Node) (i : ℕ) → IsWalked (IsStep way ms) starts seen i → IsDistinct node_eq seen
      → length seen ≤ length (starts ++ ids ms)
  walk-within seen i w distinct = length-le_from_is_member node_eq_laws seen (starts ++ ids ms) distinct
      (λ q e. list_any-from_Contains node_eq_laws q (starts ++ ids ms)
      (reached-named q (w.sound q (Contains-from_any same_node q seen e))))
    where
      leads-named : (p n : Node) → Leads Step p n → Contains (ids ms) n
      leads-named p n (one next) = step-named way ms p n next
      leads-named p n (further {q = q} far next) = step-named way ms q n next

      reached-named : (n : Node) → IsReached Step starts n → Contains (starts ++ ids ms) n
      reached-named n (inl first) = Contains-append_left starts (ids ms) n first
      reached-named n (inr far) = Contains-append_right starts (ids ms) n (leads-named far.0 n far.2)

  module _ (seen : List Node) (i : ℕ) (w : IsWalked (IsStep way ms) starts seen i) (ended : length seen ≤ i) where
    closed-all : (p n : Node) → Contains seen p → Step p n → Contains seen n
    closed-all p n h next = w.closed p n (subst (λ zs. Contains zs p) (sym (take_all i seen ended)) h) next

    complete : (p n : Node) → Contains starts p → Leads Step p n → Contains seen n
    complete p n first (one next) = closed-all p n (w.begun p first) next
    complete p n first (further {q = q} far next) = closed-all q n (complete p q first far) next

    pub walk-end : (n : Node) → Contains seen n ↔ IsReached (IsStep way ms) starts n
    walk-end n = (
      λ h. w.sound n h,
      λ h. elim h [ inl first ↦ w.begun n first | inr far ↦ complete far.0 n far.1 far.2 ],
    )

-- steps from nowhere lead to nothing
pub nothing-reached : (Step : Node → Node → Type 0) (n : Node) → Contains [] n ↔ IsReached Step [] n
nothing-reached Step n = (
  λ h. absurd (Contains-none n h),
  λ h. elim h [ inl first ↦ absurd (Contains-none n first) | inr far ↦ absurd (Contains-none far.0 far.1) ],
)

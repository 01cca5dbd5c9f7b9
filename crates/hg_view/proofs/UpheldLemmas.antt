-- What pins uphold is what of the extinct changesets they show, and more that is in view anyway.
use Rattle.std.proofs.Common.{◌≡◌, ℕ, zero, suc, ◌+◌, ◌<◌, ◌≤◌, List, [], ◌∷◌, ◌++◌, length, take, get_or}
use Rattle.std.proofs.Common.{Contains, Option, Some, Result, Ok, Err, slice_get, ◌↔◌, ◌⊎◌, inl, inr}
use Rattle.std.proofs.Common.{refl, sym, ap, subst, ◌∙◌, arith}
use Rattle.std.proofs.Common.{append_assoc}
use Rattle.std.specs.List.{IsDistinct}
use Rattle.std.proofs.lemmas.List.{take_all}
use Rattle.std.proofs.lemmas.List.Elements.{Contains-get_or, Contains-append_left, Contains-append_right}
use Rattle.std.proofs.lemmas.List.Elements.{Contains-append_cases}
use Rattle.std.proofs.lemmas.Map.Made.{length-le_from_is_member}
use Rattle.std.proofs.lemmas.Map.Views.{Contains-from_any, list_any-from_Contains}
use Rattle.std.proofs.lemmas.Option.{same_Some}
use Rattle.hg_changeset.specs.declared.node.Node.{Node}
use Rattle.hg_changeset.specs.Node.{node_eq}
use Rattle.hg_changeset.proofs.ListLemmas.{Contains-taken}
use Rattle.hg_changeset.proofs.NodeLemmas.{same_node, node_eq_laws}
use Rattle.hg_graph.specs.Graph.{nodes, Holds, IsParent}
use Rattle.hg_graph.specs.Places.{IsAt, IsParentPlace}
use Rattle.hg_graph.proofs.PlaceLemmas.{Holds-reaching, placed_within, parent_first}
use Rattle.hg_phases.specs.declared.phase.Phase.TheVariants.{Public}
use Rattle.hg_phases.specs.State.{changesets, rank}
use Rattle.hg_phases.proofs.RankLemmas.{rank-apart}
use Rattle.hg_history.specs.declared.fault.Fault.{Fault}
use Rattle.hg_history.specs.Content.{IsHeld, Leads}
use Rattle.hg_history.specs.Content.Leads.{itself, below as leads-below}
use Rattle.hg_history.proofs.ContentLemmas.{content-node, node_in_content, reach_from_leads}
use Rattle.hg_replica.specs.State.{ReplicaState, IsValid, Below}
use Rattle.hg_replica.specs.Least.{PartValue}
use Rattle.hg_replica.specs.Change.{ChangeValue}
use Rattle.hg_replica.specs.Answer.{AbsorbAnswer, JoinAnswer}
use Rattle.hg_replica.specs.Content.{Content, content_of, ContentBelow}
use Rattle.hg_replica.specs.Evolution.{IsMutable, IsObsolete, IsExtinct, IsUnder}
use Rattle.hg_replica.proofs.ContentLemmas.{content-below}
use Rattle.hg_replica.proofs.LeastLemmas.{least-above, least-valid}
use Rattle.hg_instab.specs.Instabilities.{AreInstabilities, InstabilitySets}
use Rattle.hg_instab.specs.Local.{IsParentOf}
use Rattle.hg_instab.proofs.LocalLemmas.{leads-from_parent}
use Rattle.hg_instab.proofs.SettlingLemmas.{parent-from_place, place-from_parent, parent-held, placed-node}
use Rattle.hg_node_set.specs.Keys.{insert_key}
use Rattle.hg_instab.specs.Walk.{Adds}
use Rattle.hg_instab.proofs.TurnedLemmas.{contains-or}
use Rattle.hg_instab.proofs.WalkLemmas.{front-kept, adds-nothing, adds-one, adds-same, adds-then}
use Rattle.hg_view.specs.declared.refusal.PinRefusal.{PinRefusal}
use Rattle.hg_view.specs.declared.refusal.PinRefusal.TheVariants.{Unknown, NotPinned}
use Rattle.hg_view.specs.declared.refusal.PinRefusal.TheVariants as pin
use Rattle.hg_view.specs.Kept.{KeptUnpinAnswer}
use Rattle.hg_view.specs.Pins.{IsVisibleUnder, PinAnswer, UnpinAnswer}
use Rattle.hg_view.specs.Released.{IsLeft, IsPinnedBut}
use Rattle.hg_view.specs.Upheld.{AreDisjoint, AreUpheld, IsUpholding, IsMutableParent}
use Rattle.hg_view.proofs.HiddenLemmas.{obsolete-or, visible-not_extinct}
use Rattle.hg_view.proofs.KeptLemmas.{visible-outside}
use Rattle.hg_view.proofs.PinLemmas.{visible-pinned, visible-under}

module _ (s : ReplicaState) (v : IsValid s) where
  -- what an extinct changeset leads to is obsolete
  extinct-below : (n d : Node) → IsExtinct (content_of s) n → Leads (content_of s).0 n d → IsHeld (content_of s).0 d
      → IsObsolete (content_of s) d
  extinct-below n d x down held = elim (obsolete-or s d held) [
    | inl obsolete ↦ obsolete
    | inr none ↦ absurd (visible-not_extinct s v n (d, (held, none), down) x)
  ]

  -- what is visible is held
  pub visible-holds : (pins : List Node) (n : Node) → IsVisibleUnder (content_of s) pins n
      → Holds (changesets s.history) n
  visible-holds pins n seen = Holds-reaching (changesets s.history)
      (reach_from_leads s.history v.graph n seen.0 (node_in_content s.history v.graph seen.0 seen.1.0) seen.2)

  module _ (pins upheld : List Node) (are : AreUpheld (content_of s) pins upheld) where
    -- what is upheld is pinned, or an ancestor of what is
    pub upheld-under : (n : Node) → Contains upheld n → (d : Node) × Contains pins d × IsUnder (content_of s) n d
    upheld-under n there =
        let k = placed-node s v n (are.held n there) in
        by (length (changesets s.history)) n k.0 k.1 there (omega arith)
      where
        by : (fuel : ℕ) (n : Node) (k : ℕ) → IsAt (changesets s.history) n k → Contains upheld n
            → length (changesets s.history) ≤ k + fuel → (d : Node) × Contains pins d × IsUnder (content_of s) n d
        by zero n k at there le = absurd (omega (arith, le, placed_within (changesets s.history) n k at))
        by (suc fuel) n k at there le = elim (are.stands n there) [
          | inl pinned ↦ (n, pinned, (are.pinned n pinned, itself))
          | inr child ↦
              let c = child.0 in
              let j = placed-node s v c (are.held c child.1) in
              let first = parent_first (changesets s.history) v.graph j.0 k
              (place-from_parent s v c n j.0 k j.1 at child.2) in
              let d = by fuel c j.0 j.1 child.1 (omega (arith, first, le)) in
              (d.0, d.1, (d.2.0, leads-from_parent (content_of s) n c d.0 child.2 d.2.1))
        ]

    -- an extinct ancestor of what is upheld is upheld
    upheld-down : (n d : Node) → IsExtinct (content_of s) n → Leads (content_of s).0 n d → Contains upheld d
        → Contains upheld n
    upheld-down n d x itself there = there
    upheld-down n d x (leads-below {p = p} {h = h} down e is) there =
        let parent : IsParentOf (content_of s) p d = (h, e, is) in
        upheld-down n p x down
        (are.closed p (d, there, parent) (extinct-below n p x down (parent-held s v p d parent)).0)

    -- what is extinct and visible under the pins is upheld
    pub upheld-visible : (n : Node) → IsVisibleUnder (content_of s) pins n → IsExtinct (content_of s) n
        → Contains upheld n
    upheld-visible n seen x = elim (contains-or pins seen.0) [
      | inl pinned ↦ upheld-down n seen.0 x seen.2
          (are.begun seen.0 pinned (extinct-below n seen.0 x seen.2 seen.1.0).0)
      | inr none ↦ absurd (seen.1.1 (extinct-below n seen.0 x seen.2 seen.1.0, none))
    ]

    -- what is held is visible under the pins where it isn't extinct, or is upheld
    pub visible-upheld : (sets : InstabilitySets) → AreInstabilities (content_of s) sets → (n : Node)
        → (Holds (changesets s.history) n × (¬ (Contains sets.extinct n) ⊎ Contains upheld n))
        ↔ IsVisibleUnder (content_of s) pins n
    visible-upheld sets kept n = (
      λ h. elim h.1 [
        | inl out ↦ visible-under (content_of s) pins n ((visible-outside s v sets kept n).0 (h.0, out))
        | inr there ↦ (visible-pinned (content_of s) pins n).1 (inr (upheld-under n there))
      ],
      λ seen. (
        visible-holds pins n seen,
        elim (contains-or sets.extinct n) [
          | inl extinct ↦ inr (upheld-visible n seen ((kept.extinct n).0 extinct))
          | inr out ↦ inl out
        ],
      ),
    )

    -- what is held is visible under the pins where it isn't obsolete, or is suspended or upheld
    pub visible-held : (sets : InstabilitySets) → AreInstabilities (content_of s) sets → (n : Node)
        → Holds (changesets s.history) n
        → (¬ (IsObsolete (content_of s) n) ⊎ (Contains sets.suspended n ⊎ Contains upheld n))
        ↔ IsVisibleUnder (content_of s) pins n
    visible-held sets kept n holds =
        let are = visible-upheld sets kept n in (
          λ h. are.0 (
            holds,
            elim h [
              | inl current ↦ inl (λ x. current ((kept.extinct n).0 x).0)
              | inr stays ↦ elim stays [
                | inl suspended ↦ inl (λ x. ((kept.extinct n).0 x).1 ((kept.suspended n).0 suspended))
                | inr there ↦ inr there
              ]
            ],
          ),
          λ seen. elim (are.1 seen).1 [
            | inl out ↦ elim (obsolete-or s n (content-node s.history v.graph n holds)) [
              | inl obsolete ↦ elim (contains-or sets.suspended n) [
                | inl suspended ↦ inr (inl suspended)
                | inr none ↦ absurd (out ((kept.extinct n).1 (obsolete, λ is. none ((kept.suspended n).1 is))))
              ]
              | inr current ↦ inl current
            ]
            | inr there ↦ inr (inr there)
          ],
        )

-- ---- the replica grows

module _ (s t : ReplicaState) (v : IsValid s) (w : IsValid t) (up : Below s t) (pins upheld : List Node)
    (are : AreUpheld (content_of s) pins upheld) where
  below : ContentBelow (content_of s) (content_of t)
  below = content-below s t w up

  parent-kept : (n c : Node) → IsParentOf (content_of s) n c → IsParentOf (content_of t) n c
  parent-kept n c parent =
      let g = below.0 c parent.0 parent.1 in
      (g.0, g.1, subst (λ d. IsParent d n) (sym g.2) parent.2)

  -- a parent of what was held was one before
  parent-before : (n c : Node) → IsHeld (content_of s).0 c → IsParentOf (content_of t) n c
      → IsParentOf (content_of s) n c
  parent-before n c held parent =
      let g = below.0 c held.0 held.1 in
      let same : g.0 ≡ parent.0 = same_Some g.0 parent.0 (sym g.1 ∙ parent.1) in
      (held.0, held.1, subst (λ d. IsParent d n) (sym (ap (λ h. h.changeset) same) ∙ g.2) parent.2)

  -- what isn't public and was held wasn't public
  mutable-before : (n : Node) → IsHeld (content_of s).0 n → IsMutable (content_of t) n → IsMutable (content_of s) n
  mutable-before n held m =
      let g = below.0 n held.0 held.1 in
      let same : g.0 ≡ m.0 = same_Some g.0 m.0 (sym g.1 ∙ m.1) in (
        held.0,
        held.1,
        λ public. m.2 (rank-apart m.0.phase Public
            (let top : rank held.0.phase ≡ 0 = ap rank public in
            let now : rank g.0.phase ≡ rank m.0.phase = ap (λ h. rank h.phase) same in
            omega (arith, g.3, top, now))),
      )

  -- the same is upheld
  pub upheld-above : AreUpheld (content_of t) pins upheld
  upheld-above = record {
    pinned = λ n h. held-above n (are.pinned n h);
    held = λ n h. held-above n (are.held n h);
    stands = λ n h. elim (are.stands n h) [
      | inl pinned ↦ inl pinned
      | inr child ↦ inr (child.0, child.1, parent-kept n child.0 child.2)
    ];
    begun = λ n pinned m. are.begun n pinned (mutable-before n (are.pinned n pinned) m);
    closed = λ n child m.
        let parent = parent-before n child.0 (are.held child.0 child.1) child.2 in
        are.closed n (child.0, child.1, parent) (mutable-before n (parent-held s v n child.0 parent) m);
  }
    where
      held-above : (n : Node) → IsHeld (content_of s).0 n → IsHeld (content_of t).0 n
      held-above n h = let g = below.0 n h.0 h.1 in (g.0, g.1)

module _ (s after : ReplicaState) (v : IsValid s) (pins upheld : List Node)
    (are : AreUpheld (content_of s) pins upheld) where
  pub upheld-absorbed : (k : PartValue) (result : Result ChangeValue Fault) → AbsorbAnswer s k result after
      → AreUpheld (content_of after) pins upheld
  unfolding AbsorbAnswer
  upheld-absorbed k (Ok change) answer =
      upheld-above s after v (least-valid s (k ∷ []) after answer.least v) (least-above s (k ∷ []) after answer.least)
      pins upheld are
  upheld-absorbed k (Err fault) answer =
      subst (λ (u : ReplicaState). AreUpheld (content_of u) pins upheld) (sym answer.1) are

  pub upheld-joined : (o : ReplicaState) (result : Result (Unit {0}) Fault) → JoinAnswer s o result after
      → AreUpheld (content_of after) pins upheld
  unfolding JoinAnswer
  upheld-joined o (Ok done) answer =
      upheld-above s after v answer.0 (record {
        history = answer.1.history.first;
        markers = λ m at. (answer.1.markers m).1 (inl at);
      }) pins upheld are
  upheld-joined o (Err fault) answer =
      subst (λ (u : ReplicaState). AreUpheld (content_of u) pins upheld) (sym answer.1) are

-- ---- the walk down

-- the same, and more behind it
abbrev pub Extends : List Node → List Node → Type 0
Extends old new = (more : List Node) × (new ≡ old ++ more)

pub extends-then : (xs ys zs : List Node) → Extends xs ys → Extends ys zs → Extends xs zs
extends-then xs ys zs a b =
    (a.0 ++ b.0, b.1 ∙ ap (λ l. l ++ b.0) a.1 ∙ append_assoc xs a.0 b.0)

-- what came behind is taken away
pub extends-back : (xs ys : List Node) (n : ℕ) → n ≡ length xs → Extends xs ys → take n ys ≡ xs
extends-back xs ys n is e =
    ap (λ k. take k ys) is ∙ front-kept xs ys (length xs) e (omega arith) ∙ take_all (length xs) xs (omega arith)

module _ (f : Content) where
  -- one more pin
  pub upholding-one_more : (pins more upheld now : List Node) (node : Node) → AreUpheld f pins upheld
      → ((n : Node) → Contains more n ↔ (Contains pins n ⊎ (node ≡ n)))
      → Adds (λ n. (node ≡ n) × IsMutable f n) upheld now
      → IsUpholding f more upheld now (length upheld)
  upholding-one_more pins more upheld now node are members a = record {
    kept = a.kept;
    held = λ n h. elim ((a.members n).0 h) [ inl old ↦ are.held n old | inr new ↦ (new.1.0, new.1.1) ];
    stands = λ n h. elim ((a.members n).0 h) [
      | inl old ↦ elim (are.stands n old) [
        | inl pinned ↦ inl ((members n).1 (inl pinned))
        | inr child ↦ inr (child.0, (a.members child.0).1 (inl child.1), child.2)
      ]
      | inr new ↦ inl ((members n).1 (inr new.0))
    ];
    begun = λ n pinned m. (a.members n).1 (elim ((members n).0 pinned) [
      | inl old ↦ inl (are.begun n old m)
      | inr e ↦ inr (e, m)
    ]);
    closed = λ n c h parent.
        let there : Contains upheld c = subst (λ zs. Contains zs c)
        (extends-back upheld now (length upheld) refl a.kept) h in
        (a.members n).1 (inl (are.closed n (c, there, parent.0) parent.1));
  }

  pub upholding-step : (pins old now new : List Node) (i : ℕ) (x : Node) → i < length now → get_or now i x ≡ x
      → IsUpholding f pins old now i → Adds (IsMutableParent f x) now new → IsUpholding f pins old new (i + 1)
  upholding-step pins old now new i x l at w a = record {
    kept = extends-then old now new w.kept a.kept;
    held = λ n h. elim ((a.members n).0 h) [ inl was ↦ w.held n was | inr parent ↦ (parent.1.0, parent.1.1) ];
    stands = λ n h. elim ((a.members n).0 h) [
      | inl was ↦ elim (w.stands n was) [
        | inl pinned ↦ inl pinned
        | inr child ↦ inr (child.0, (a.members child.0).1 (inl child.1), child.2)
      ]
      | inr parent ↦ inr (
        x,
        (a.members x).1 (inl (subst (Contains now) at (Contains-get_or now i x l))),
        parent.0,
      )
    ];
    begun = λ n pinned m. (a.members n).1 (inl (w.begun n pinned m));
    closed = λ n c h parent.
        let before : Contains (take (i + 1) now) c = subst (λ zs. Contains zs c)
        (front-kept now new (i + 1) a.kept (omega (arith, l))) h in
        (a.members n).1 (elim ((Contains-taken now i x c l at).0 before) [
          | inl was ↦ inl (w.closed n c was parent)
          | inr e ↦ inr (subst (λ y. IsMutableParent f y n) (sym e) parent)
        ]);
  }

  -- the walk has come to the end
  pub upholding-end : (pins old now : List Node) (i : ℕ) → length now ≤ i → IsUpholding f pins old now i
      → IsUpholding f pins old now (length now)
  upholding-end pins old now i ended w = record {
    kept = w.kept;
    held = w.held;
    stands = w.stands;
    begun = w.begun;
    closed = λ n c h parent. w.closed n c (subst (λ zs. Contains zs c)
        (take_all (length now) now (omega arith) ∙ sym (take_all i now ended)) h) parent;
  }

  pub upheld-then : (pins old now : List Node) → ((n : Node) → Contains pins n → IsHeld f.0 n)
      → IsUpholding f pins old now (length now) → AreUpheld f pins now
  upheld-then pins old now known w = record {
    pinned = known;
    held = w.held;
    stands = w.stands;
    begun = w.begun;
    closed = λ n child m.
        w.closed n child.0 (subst (λ zs. Contains zs child.0) (sym (take_all (length now) now (omega arith))) child.1)
        (child.2, m);
  }

-- all that is upheld is held, so the walk ends
pub upheld-within : (s : ReplicaState) → IsValid s → (now : List Node)
    → ((n : Node) → Contains now n → IsHeld (content_of s).0 n) → IsDistinct node_eq now
    → length now ≤ length (nodes (changesets s.history))
upheld-within s v now held distinct =
    length-le_from_is_member node_eq_laws now (nodes (changesets s.history)) distinct
    (λ q e. list_any-from_Contains node_eq_laws q (nodes (changesets s.history))
    (node_in_content s.history v.graph q (held q (Contains-from_any same_node q now e))))

-- ---- what one step adds

-- what is added is added behind a front as well
adds-behind : (P : Node → Type 0) (front old new : List Node) → Adds P old new → Adds P (front ++ old) (front ++ new)
adds-behind P front old new a = record {
  kept = (a.kept.0, ap (λ l. front ++ l) a.kept.1 ∙ sym (append_assoc front old a.kept.0));
  members = λ n. (
    λ h. elim (Contains-append_cases front new n h) [
      | inl there ↦ inl (Contains-append_left front old n there)
      | inr found ↦ elim ((a.members n).0 found) [
        | inl before ↦ inl (Contains-append_right front old n before)
        | inr p ↦ inr p
      ]
    ],
    λ h. elim h [
      | inl before ↦ elim (Contains-append_cases front old n before) [
        | inl there ↦ Contains-append_left front new n there
        | inr found ↦ Contains-append_right front new n ((a.members n).1 (inl found))
      ]
      | inr p ↦ Contains-append_right front new n ((a.members n).1 (inr p))
    ],
  );
}

-- one that isn't public
pub adds-mutable : (f : Content) (upheld old new : List Node) (node : Node) → IsMutable f node
    → new ≡ insert_key old node → Adds (λ n. (node ≡ n) × IsMutable f n) (upheld ++ old) (upheld ++ new)
adds-mutable f upheld old new node m is =
    adds-behind (λ n. (node ≡ n) × IsMutable f n) upheld old new
    (adds-same (λ n. node ≡ n) (λ n. (node ≡ n) × IsMutable f n) old new
    (λ n. (λ h. h.0, λ e. (e, subst (IsMutable f) e m))) (adds-one old new node is))

-- one that is upheld already, or isn't to be
pub adds-no_more : (f : Content) (upheld old : List Node) (node : Node)
    → (IsMutable f node → Contains (upheld ++ old) node)
    → Adds (λ n. (node ≡ n) × IsMutable f n) (upheld ++ old) (upheld ++ old)
adds-no_more f upheld old node known = adds-nothing (λ n. (node ≡ n) × IsMutable f n) (upheld ++ old)
    (λ n h. subst (Contains (upheld ++ old)) h.0 (known (subst (IsMutable f) (sym h.0) h.1)))

-- what wasn't upheld is found apart from what is
pub apart-more : (upheld old new : List Node) (node : Node) → ¬ (Contains upheld node) → new ≡ insert_key old node
    → AreDisjoint old upheld → AreDisjoint new upheld
apart-more upheld old new node out is apart n found there = elim (((adds-one old new node is).members n).0 found) [
  | inl before ↦ apart n before there
  | inr e ↦ out (subst (Contains upheld) (sym e) there)
]

-- of the same changesets the same is upheld
pub upheld-same : (f : Content) (pins upheld now : List Node) → ((n : Node) → Contains now n ↔ Contains upheld n)
    → AreUpheld f pins upheld → AreUpheld f pins now
upheld-same f pins upheld now same are = record {
  pinned = are.pinned;
  held = λ n h. are.held n ((same n).0 h);
  stands = λ n h. elim (are.stands n ((same n).0 h)) [
    | inl pinned ↦ inl pinned
    | inr child ↦ inr (child.0, (same child.0).1 child.1, child.2)
  ];
  begun = λ n pinned m. (same n).1 (are.begun n pinned m);
  closed = λ n child m. (same n).1 (are.closed n (child.0, (same child.0).0 child.1, child.2) m);
}

-- what was put in and is taken out again leaves what there was
pub taken-back : (old found put left : List Node) → AreDisjoint found old
    → ((n : Node) → Contains put n ↔ Contains (old ++ found) n) → ((n : Node) → Contains left n ↔ IsLeft put found n)
    → (n : Node) → Contains left n ↔ Contains old n
taken-back old found put left apart are lefts n = (
  λ h.
      let still = (lefts n).0 h in
      elim (Contains-append_cases old found n ((are n).0 still.0)) [
        | inl before ↦ before
        | inr goes ↦ absurd (still.1 goes)
      ],
  λ h. (lefts n).1 ((are n).1 (Contains-append_left old found n h), λ goes. apart n goes h),
)

-- what stands at a place
abbrev pub IsMutableAt : ReplicaState → Option ℕ → Node → Type 0
IsMutableAt s place n =
    (k : ℕ) × (place ≡ Some k) × IsAt (changesets s.history) n k × IsMutable (content_of s) n

pub adds-at : (s : ReplicaState) (old new : List Node) (k : ℕ) (node : Node) → IsAt (changesets s.history) node k
    → Adds (λ n. (node ≡ n) × IsMutable (content_of s) n) old new → Adds (IsMutableAt s (Some k)) old new
adds-at s old new k node at adds =
    adds-same (λ n. (node ≡ n) × IsMutable (content_of s) n) (IsMutableAt s (Some k)) old new
    (λ n. (
      λ h.
          let same : k ≡ h.0 = same_Some k h.0 h.1 in
          (same_Some node n (sym at ∙ ap (slice_get (nodes (changesets s.history))) same ∙ h.2), h.3),
      λ h. (k, refl, subst (λ x. IsAt (changesets s.history) x k) h.0 at, h.1),
    )) adds

-- the parents of one that is held are what stands at two places
pub parents-added : (s : ReplicaState) → IsValid s → (node : Node) (k : ℕ) → IsAt (changesets s.history) node k
    → (first second : Option ℕ)
    → ((j : ℕ) → IsParentPlace (changesets s.history) k j ↔ ((first ≡ Some j) ⊎ (second ≡ Some j)))
    → (old mid new : List Node) → Adds (IsMutableAt s first) old mid → Adds (IsMutableAt s second) mid new
    → Adds (IsMutableParent (content_of s) node) old new
parents-added s v node k at first second are old mid new =
    adds-then (IsMutableAt s first) (IsMutableAt s second) (IsMutableParent (content_of s) node) old mid new (λ n. (
      λ h.
          let j = placed-node s v n (parent-held s v n node h.0) in
          elim ((are j.0).0 (place-from_parent s v node n k j.0 at j.1 h.0)) [
            | inl is ↦ inl (j.0, is, j.1, h.1)
            | inr is ↦ inr (j.0, is, j.1, h.1)
          ],
      λ h. elim h [
        | inl x ↦ (parent-from_place s v node n k x.0 at x.2 ((are x.0).1 (inl x.1)), x.3)
        | inr x ↦ (parent-from_place s v node n k x.0 at x.2 ((are x.0).1 (inr x.1)), x.3)
      ],
    ))

-- what isn't held has no parents
pub parents-none : (s : ReplicaState) → IsValid s → (node : Node) → ¬ (Holds (changesets s.history) node)
    → (old : List Node) → Adds (IsMutableParent (content_of s) node) old old
parents-none s v node out old = adds-nothing (IsMutableParent (content_of s) node) old
    (λ n h. absurd (out (node_in_content s.history v.graph node (h.0.0, h.0.1))))

-- ---- answers

module _ (f : Content) (before : List Node) (node : Node) where
  -- a second pin changes nothing
  pub pinned-again : IsHeld f.0 node → Contains before node → PinAnswer f before node (Ok tt) before
  pinned-again held there =
      (held, (λ n. (λ h. inl h, λ h. elim h [ inl old ↦ old | inr e ↦ subst (Contains before) e there ])), λ h. refl)

  -- what is refused changes nothing
  pub unpinned-same : (refusal : PinRefusal) (after : List Node) → PinAnswer f before node (Err refusal) after
      → after ≡ before
  unpinned-same (Unknown n) after answer = answer.2
  unpinned-same (NotPinned n) after answer = absurd answer
  unpinned-same pin.NoMemory after answer = answer.2

-- an unpin of what is pinned takes it away
pub unpinned-but : (before after : List Node) (node : Node) (result : Result (Unit {0}) PinRefusal)
    → Contains before node → UnpinAnswer before node result after → (n : Node)
    → Contains after n ↔ IsPinnedBut before node n
unpinned-but before after node (Ok done) there answer = answer.1
unpinned-but before after node (Err (Unknown n)) there answer = absurd answer
unpinned-but before after node (Err (NotPinned n)) there answer = absurd (answer.1 there)
unpinned-but before after node (Err pin.NoMemory) there answer = absurd answer

pub kept-unpinned : (before after : List Node) (node : Node) (result : Result (Unit {0}) PinRefusal)
    → UnpinAnswer before node result after → KeptUnpinAnswer before node result after
kept-unpinned before after node (Ok done) answer = answer
kept-unpinned before after node (Err (Unknown n)) answer = absurd answer
kept-unpinned before after node (Err (NotPinned n)) answer = answer
kept-unpinned before after node (Err pin.NoMemory) answer = absurd answer

-- one more pin
pub pinned-more : (f : Content) (before after : List Node) (node : Node) → PinAnswer f before node (Ok tt) after
    → (n : Node) → Contains after n ↔ (Contains before n ⊎ (node ≡ n))
pinned-more f before after node answer = answer.1

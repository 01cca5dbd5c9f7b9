-- Rounds that are all answered from one state, where what is served is closed under ancestors.
use Rattle.std.proofs.Common.{◌≡◌, ◌≢◌, ◌↔◌, ◌⊎◌, ℕ, zero, suc, ◌<◌, ◌≤◌, ◌+◌, inl, inr, Bool, true, false, List, []}
use Rattle.std.proofs.Common.{◌∷◌, length, set, slice_get, Option, Some, None}
use Rattle.std.proofs.Common.{Contains, IsTrue, refl, sym, ap, subst, ◌∙◌, arith, true≢false}
use Rattle.std.proofs.lemmas.Bool.{cases_eq, cases_lt, cases_order}
use Rattle.std.proofs.lemmas.List.{length-map, length-set}
use Rattle.std.proofs.lemmas.Option.{none-some, same_Some, slice_get_within}
use Rattle.hg_changeset.specs.declared.node.Node.{Node}
use Rattle.hg_changeset.proofs.ListLemmas.{slice_get_some}
use Rattle.hg_graph.specs.declared.graph.ParentPlaces.{ParentPlaces}
use Rattle.hg_graph.proofs.MarkLemmas.{get-set_same, get-set_other}
use Rattle.hg_phases.specs.State.{State}
use Rattle.hg_replica.specs.State.{ReplicaState}
use Rattle.hg_replica.specs.Content.{content_of}
use Rattle.hg_view.specs.Pins.{IsServedUnder}
use Rattle.hg_discovery.specs.declared.finding.Finding.{Finding}
use Rattle.hg_discovery.specs.declared.finding.Finding.TheVariants.{Undecided, Common, Missing}
use Rattle.hg_discovery.specs.declared.finding.PlacedNode.{PlacedNode}
use Rattle.hg_discovery.specs.Under.{IsOneOf, IsParentAt, IsUnder, IsInOrder, itself, below}
use Rattle.hg_discovery.specs.Search.{Search, Is, IsAscending, IsHead, IsSample, Lists, IsSearch, IsClosed}
use Rattle.hg_discovery.specs.Search.{ArePlacedNodes}
use Rattle.hg_discovery.specs.Search.{nodes_of}
use Rattle.hg_discovery.specs.Spread.{AreCovered}
use Rattle.hg_discovery.specs.Answers.{IsDecided, TakesAnswers, IsRound}
use Rattle.hg_discovery.specs.Rounds.{AreAnswers, undecided}
use Rattle.hg_discovery.specs.Start.{IsBaseline, IsStart}
use Rattle.hg_discovery.specs.Between.{AreHeadsInCommon}
use Rattle.hg_discovery.proofs.UnderLemmas.{not_both_uc, not_both_um, not_both_cm, three, under_common, above_missing}
use Rattle.hg_discovery.proofs.ToldLemmas.{told_length, all_closed, placed_nodes_after, all_common, all_missing}
use Rattle.hg_discovery.proofs.CountLemmas.{some_undecided, round_count}
use Rattle.hg_discovery.proofs.KnownLemmas.{known_none}
use Rattle.hg_discovery.proofs.RoundLemmas.{node_at, asked_placed_node}
use Rattle.hg_discovery.proofs.SampleLemmas.{drawn, drawn_sample, marks_exist}
use Rattle.hg_discovery.proofs.BetweenLemmas.{IsAskedSoFar, IsAskedSoFar-start, IsAskedSoFar-round, IsAskedSoFar-done}

-- ---- whether one is an ancestor can be told

module _ (ps : List ParentPlaces) (order : IsInOrder ps) (k : ℕ) where
  abbrev CanTell : ℕ → Type 0
  CanTell j = IsUnder ps k j ⊎ (IsUnder ps k j → ⊥)

  under_cases : (j : ℕ) → IsUnder ps k j → (k ≡ j) ⊎ ((p : ℕ) × IsParentAt ps j p × IsUnder ps k p)
  under_cases j itself = inl refl
  under_cases j (below {p = p} u q) = inr (p, q, u)

  by_place : (place : Option ℕ) → ((q : ℕ) → place ≡ Some q → CanTell q)
      → ((q : ℕ) × (place ≡ Some q) × IsUnder ps k q) ⊎ ((q : ℕ) → place ≡ Some q → IsUnder ps k q → ⊥)
  by_place None tell = inr (λ q e u. none-some q e)
  by_place (Some p) tell = elim (tell p refl) [
    | inl u ↦ inl (p, refl, u)
    | inr out ↦ inr (λ q e u. out (subst (IsUnder ps k) (sym (same_Some p q e)) u))
  ]

  by_parents : (j : ℕ) (p : ParentPlaces) → slice_get ps j ≡ Some p → ((q : ℕ) → IsParentAt ps j q → CanTell q)
      → ((q : ℕ) × IsParentAt ps j q × IsUnder ps k q) ⊎ ((q : ℕ) → IsParentAt ps j q → IsUnder ps k q → ⊥)
  by_parents j p at tell = elim (by_place p.first (λ q e. tell q (p, at, inl e))) [
    | inl h ↦ inl (h.0, (p, at, inl h.1), h.2)
    | inr no_first ↦ elim (by_place p.second (λ q e. tell q (p, at, inr e))) [
      | inl h ↦ inl (h.0, (p, at, inr h.1), h.2)
      | inr no_second ↦ inr (λ q is u. elim (subst (λ r. IsOneOf r q) (same_Some is.0 p (sym is.1 ∙ at)) is.2) [
        | inl e ↦ no_first q e u
        | inr e ↦ no_second q e u
      ])
    ]
  ]

  some_parent : (j : ℕ) → ((q : ℕ) → IsParentAt ps j q → CanTell q)
      → ((q : ℕ) × IsParentAt ps j q × IsUnder ps k q) ⊎ ((q : ℕ) → IsParentAt ps j q → IsUnder ps k q → ⊥)
  some_parent j tell = elim (cases_order j (length ps)) [
    | inl e ↦ inr (λ q is u. outside q is (omega (arith, e)))
    | inr o ↦ elim o [
      | inl l ↦ let p = slice_get_some ps j l in by_parents j p.0 p.1 tell
      | inr l ↦ inr (λ q is u. outside q is (omega (arith, l)))
    ]
  ]
    where
      outside : (q : ℕ) → IsParentAt ps j q → length ps ≤ j → ⊥
      outside q is le = omega (arith, le, slice_get_within ps j is.0 is.1)

  tell_to : (n j : ℕ) → j < n → CanTell j
  tell_to zero j lt = absurd (omega (arith, lt))
  tell_to (suc n) j lt = elim (cases_eq k j) [
    | inl e ↦ inl (subst (IsUnder ps k) e itself)
    | inr ne ↦ elim (some_parent j (λ q is. tell_to n q (omega (arith, lt, order j q is)))) [
      | inl h ↦ inl (below h.2 h.1)
      | inr out ↦ inr (λ u. elim (under_cases j u) [ inl e ↦ ne e | inr h ↦ out h.0 h.1 h.2 ])
    ]
  ]

  under_or_not : (j : ℕ) → CanTell j
  under_or_not j = tell_to (suc j) j (omega arith)

-- ---- what an answer decides

pub undecided_or_not : (ds : List Finding) (k : ℕ) → Is ds Undecided k ⊎ (Is ds Undecided k → ⊥)
undecided_or_not ds k = elim (cases_lt k (length ds)) [
  | inl l ↦ elim (three ds k l) [
    | inl u ↦ inl u
    | inr other ↦ inr (λ u. elim other [ inl c ↦ not_both_uc ds k u c | inr m ↦ not_both_um ds k u m ])
  ]
  | inr ge ↦ inr (λ u. omega (arith, ge, slice_get_within ds k Undecided u))
]

-- undecided ones of which R holds are decided so
module _ (old : List Finding) (R : ℕ → Type 0) (can : (j : ℕ) → R j ⊎ (R j → ⊥)) (d : Finding)
    (so : d ≢ Undecided) where
  -- of the places before i
  record IsSetTo (i : ℕ) (new : List Finding) : Type 0 where
    pub len : length new ≡ length old
    pub each : (j : ℕ) (e : Finding) → e ≢ Undecided
        → Is new e j ↔ (Is old e j ⊎ ((j < i) × Is old Undecided j × R j × (e ≡ d)))

  set_start : IsSetTo 0 old
  set_start = record {
    len = refl;
    each = λ j e ne. (λ h. inl h, λ h. elim h [ inl o ↦ o | inr r ↦ absurd (omega (arith, r.0)) ]);
  }

  set_skip : (i : ℕ) (new : List Finding) → IsSetTo i new → (Is old Undecided i → R i → ⊥) → IsSetTo (i + 1) new
  set_skip i new so_far never = record {
    len = so_far.len;
    each = λ j e ne. (
      λ h. elim ((so_far.each j e ne).0 h) [ inl o ↦ inl o | inr r ↦ inr (omega (arith, r.0), r.1, r.2, r.3) ],
      λ h. elim h [
        | inl o ↦ (so_far.each j e ne).1 (inl o)
        | inr r ↦ elim (cases_eq j i) [
          | inl same ↦ absurd (never (subst (Is old Undecided) same r.1) (subst R same r.2))
          | inr other ↦ (so_far.each j e ne).1 (inr (omega (arith, r.0, other), r.1, r.2, r.3))
        ]
      ],
    );
  }

  set_one : (i : ℕ) (new : List Finding) → IsSetTo i new → Is old Undecided i → R i → IsSetTo (i + 1) (set new i d)
  set_one i new so_far u r =
      let here : Is (set new i d) d i = get-set_same new i d (omega
      (arith, so_far.len, slice_get_within old i Undecided u)) in
      record {
        len = length-set new i d ∙ so_far.len;
        each = λ j e ne. elim (cases_eq j i) [
          | inl same ↦ (
            λ h. inr (
              omega (arith, same),
              subst (Is old Undecided) (sym same) u,
              subst R (sym same) r,
              sym (same_Some d e (sym here ∙ subst (Is (set new i d) e) same h)),
            ),
            λ h. elim h [
              | inl o ↦ absurd (ne (same_Some e Undecided (sym o ∙ subst (Is old Undecided) (sym same) u)))
              | inr q ↦ subst (Is (set new i d) e) (sym same) (subst (λ f. Is (set new i d) f i) (sym q.3) here)
            ],
          )
          | inr other ↦ (
            λ h. elim ((so_far.each j e ne).0 (sym (get-set_other new i j d other) ∙ h))
                [ inl o ↦ inl o | inr q ↦ inr (omega (arith, q.0), q.1, q.2, q.3) ],
            λ h. get-set_other new i j d other ∙ (so_far.each j e ne).1
                (elim h [ inl o ↦ inl o | inr q ↦ inr (omega (arith, q.0, other), q.1, q.2, q.3) ]),
          )
        ];
      }

  set_to : (i : ℕ) → (new : List Finding) × IsSetTo i new
  set_to zero = (old, set_start)
  set_to (suc i) =
      let before = set_to i in
      let next : i + 1 ≡ suc i = omega arith in
      let skipped : (Is old Undecided i → R i → ⊥) → (new : List Finding) × IsSetTo (suc i) new = λ never. (
        before.0,
        subst (λ n. IsSetTo n before.0) next (set_skip i before.0 before.1 never),
      ) in
      elim (undecided_or_not old i) [
        | inl u ↦ elim (can i) [
          | inl r ↦ (
            set before.0 i d,
            subst (λ n. IsSetTo n (set before.0 i d)) next (set_one i before.0 before.1 u r),
          )
          | inr out ↦ skipped (λ u r. out r)
        ]
        | inr out ↦ skipped (λ u r. out u)
      ]

common_said : Common ≢ Undecided
common_said e = let c : Common ≡ Undecided = e in cc

missing_said : Missing ≢ Undecided
missing_said e = let c : Missing ≡ Undecided = e in cc

module _ (ps : List ParentPlaces) (order : IsInOrder ps) where
  pub decided_exists : (k : ℕ) (old : List Finding) (said : Bool) → (new : List Finding) × IsDecided ps k said old new
  decided_exists k old true =
      let all = set_to old (λ j. IsUnder ps j k) (λ j. under_or_not ps order j k) Common common_said (length old) in (
        all.0,
        record {
          len = all.1.len;
          common = λ j. (
            λ h. elim ((all.1.each j Common common_said).0 h) [ inl c ↦ inl c | inr r ↦ inr (refl, r.1, r.2) ],
            λ h. (all.1.each j Common common_said).1 (elim h [
              | inl c ↦ inl c
              | inr r ↦ inr (slice_get_within old j Undecided r.1, r.1, r.2, refl)
            ]),
          );
          missing = λ j. (
            λ h. elim ((all.1.each j Missing missing_said).0 h)
                [ inl m ↦ inl m | inr r ↦ let c : Missing ≡ Common = r.3 in cc ],
            λ h. (all.1.each j Missing missing_said).1
                (elim h [ inl m ↦ inl m | inr r ↦ absurd (true≢false r.0) ]),
          );
        },
      )
  decided_exists k old false =
      let all = set_to old (λ j. IsUnder ps k j) (λ j. under_or_not ps order k j) Missing missing_said (length old) in (
        all.0,
        record {
          len = all.1.len;
          common = λ j. (
            λ h. elim ((all.1.each j Common common_said).0 h)
                [ inl c ↦ inl c | inr r ↦ let c : Common ≡ Missing = r.3 in cc ],
            λ h. (all.1.each j Common common_said).1
                (elim h [ inl c ↦ inl c | inr r ↦ absurd (true≢false (sym r.0)) ]),
          );
          missing = λ j. (
            λ h. elim ((all.1.each j Missing missing_said).0 h) [ inl m ↦ inl m | inr r ↦ inr (refl, r.1, r.2) ],
            λ h. (all.1.each j Missing missing_said).1 (elim h [
              | inl m ↦ inl m
              | inr r ↦ inr (slice_get_within old j Undecided r.1, r.1, r.2, refl)
            ]),
          );
        },
      )

  told_exists : (xs : List PlacedNode) (answers : List Bool) (old : List Finding) → length answers ≡ length xs
      → (new : List Finding) × TakesAnswers ps xs answers old new
  told_exists [] [] old len = (old, refl)
  told_exists (x ∷ xs) (b ∷ answers) old len = elim (undecided_or_not old x.place) [
    | inl u ↦
        let one = decided_exists x.place old b in
        let rest = told_exists xs answers one.0 (omega (arith, len)) in
        (rest.0, (one.0, inl (u, one.1), rest.1))
    | inr out ↦
        let rest = told_exists xs answers old (omega (arith, len)) in
        (rest.0, (old, inr (out, refl), rest.1))
  ]
  told_exists [] (b ∷ answers) old len = absurd (omega (arith, len))
  told_exists (x ∷ xs) [] old len = absurd (omega (arith, len))

-- ---- answers

module _ (P : Node → Type 0) where
  pub answers_cons : (n : Node) (ns : List Node) (b : Bool) (answers : List Bool) → (IsTrue b ↔ P n)
      → AreAnswers P ns answers → AreAnswers P (n ∷ ns) (b ∷ answers)
  answers_cons n ns b answers first rest = (ap suc rest.0, each)
    where
      each : (i : ℕ) (m : Node) (a : Bool) → slice_get (n ∷ ns) i ≡ Some m → slice_get (b ∷ answers) i ≡ Some a
          → IsTrue a ↔ P m
      each zero m a at_m at_a = subst (λ x. IsTrue a ↔ P x) (same_Some n m at_m)
          (subst (λ x. IsTrue x ↔ P n) (same_Some b a at_a) first)
      each (suc i) m a at_m at_a = rest.1 i m a at_m at_a

  pub answers_exist : ((n : Node) → P n ⊎ (P n → ⊥)) → (ns : List Node)
      → (answers : List Bool) × AreAnswers P ns answers
  answers_exist tell [] = ([], known_none P)
  answers_exist tell (n ∷ ns) =
      let rest = answers_exist tell ns in
      elim (tell n) [
        | inl h ↦ (true ∷ rest.0, answers_cons n ns true rest.0 (λ t. h, λ p. refl) rest.1)
        | inr out ↦ (
          false ∷ rest.0,
          answers_cons n ns false rest.0 (λ t. absurd (true≢false (sym t)), λ p. absurd (out p)) rest.1,
        )
      ]

-- ---- rounds

module _ (P : Node → Type 0) (tell : (n : Node) → P n ⊎ (P n → ⊥)) where
  record HasRound (s : Search) : Type 0 where
    pub answers : List Bool
    pub next : Search
    pub round : IsRound s answers next
    pub are : AreAnswers P (nodes_of s.asked) answers

  round_exists : (s : Search) → IsSearch s → IsAscending s.placed_nodes → HasRound s
  round_exists s known ascending =
      let said = answers_exist P tell (nodes_of s.asked) in
      let told = told_exists s.parents known.in_order s.asked said.0 s.decided
      (said.1.0 ∙ length-map s.asked (λ x. x.node)) in
      let new : List Finding = told.0 in
      let len : length new ≡ length s.parents = told_length s.parents s.asked said.0 s.decided new told.1 ∙ known.len in
      let placed_nodes =
      placed_nodes_after s.parents s.asked said.0 s.decided new s.placed_nodes told.1 known.placed_nodes in
      let closed = all_closed s.parents s.asked said.0 s.decided new known.len known.in_order known.closed told.1 in
      let marks = marks_exist s.parents new len in
      let asked = drawn new marks.0 s.placed_nodes in
      record {
        answers = said.0;
        next = record { parents = s.parents; placed_nodes = s.placed_nodes; decided = new; asked = asked };
        round = record {
          parents = refl;
          placed_nodes = refl;
          told = told.1;
          search = record {
            len = len;
            in_order = known.in_order;
            placed_nodes = placed_nodes;
            closed = closed;
            sample =
                drawn_sample s.parents new s.placed_nodes asked len known.in_order closed placed_nodes ascending
                marks.0 marks.1 refl;
          };
        };
        are = said.1;
      }

  -- what is decided on the way is decided so at the end
  module _ (ps : List ParentPlaces) (xs : List PlacedNode) (ascending : IsAscending xs) (last : List Finding)
      (closed : IsClosed ps last) (told : (x : PlacedNode) → Contains xs x → (P x.node → Is last Common x.place)
      × ((P x.node → ⊥) → Is last Missing x.place)) where
    record IsOnWay (s : Search) : Type 0 where
      pub search : IsSearch s
      pub parents : s.parents ≡ ps
      pub placed_nodes : s.placed_nodes ≡ xs
      pub common : (k : ℕ) → Is s.decided Common k → Is last Common k
      pub missing : (k : ℕ) → Is s.decided Missing k → Is last Missing k

    next_on_way : (s : Search) → IsOnWay s → (r : HasRound s) → IsOnWay r.next
    next_on_way s way r =
        let so = subst (λ qs. TakesAnswers qs s.asked r.answers s.decided r.next.decided) way.parents r.round.told in
        let placed_node : (i : ℕ) (x : PlacedNode) → slice_get s.asked i ≡ Some x → Contains xs x =
        λ i x at. subst (λ ys. Contains ys x) way.placed_nodes (asked_placed_node s way.search i x at) in
        let said = λ (i : ℕ) (x : PlacedNode) (b : Bool) (at : slice_get s.asked i ≡ Some x)
        (e : slice_get r.answers i ≡ Some b). r.are.1 i x.node b (node_at s.asked i x at) e in
        record {
          search = r.round.search;
          parents = r.round.parents ∙ way.parents;
          placed_nodes = r.round.placed_nodes ∙ way.placed_nodes;
          common = all_common ps (Is last Common) (under_common ps last closed) s.asked r.answers s.decided
              r.next.decided so
              (λ i x at yes. (told x (placed_node i x at)).0 ((said i x true at yes).0 refl))
              way.common;
          missing = all_missing ps (Is last Missing) (above_missing ps last closed) s.asked r.answers s.decided
              r.next.decided so
              (λ i x at no. (told x (placed_node i x at)).1
              (λ p. true≢false (sym ((said i x false at no).1 p))))
              way.missing;
        }

    end_of : (n : ℕ) (ours : ReplicaState) (s : Search) → undecided s.decided ≤ n → IsAskedSoFar P ours s → IsOnWay s
        → (t : Search) × IsAskedSoFar P ours t × IsOnWay t × (undecided t.decided ≡ 0)
    end_of zero ours s le so_far way = (s, so_far, way, omega (arith, le))
    end_of (suc n) ours s le so_far way = elim (cases_eq (undecided s.decided) 0) [
      | inl e ↦ (s, so_far, way, e)
      | inr ne ↦
          let r = round_exists s way.search (subst IsAscending (sym way.placed_nodes) ascending) in
          let fewer = round_count s r.next r.answers way.search r.round in
          end_of n ours r.next (omega (arith, le, ne, fewer))
          (IsAskedSoFar-round P ours s r.next r.answers so_far r.round r.are) (next_on_way s way r)
    ]

    -- at the end exactly that is common
    end_common : (t : Search) → IsOnWay t → undecided t.decided ≡ 0 → length last ≡ length ps → (k : ℕ)
        → Is t.decided Common k ↔ Is last Common k
    end_common t way done len k = (
      way.common k,
      λ c.
          let within : k < length t.decided = omega (
            arith,
            slice_get_within last k Common c,
            len,
            ap length way.parents,
            way.search.len,
          ) in
          elim (three t.decided k within) [
            | inl u ↦ absurd (some_undecided t.decided done k u)
            | inr other ↦ elim other [
              | inl so ↦ so
              | inr m ↦ absurd (not_both_cm last k c (way.missing k m))
            ]
          ],
    )

-- ---- all at once

-- of the placed nodes those are common of which P holds, and nothing is undecided
pub record AreToldApart (P : Node → Type 0) (xs : List PlacedNode) (ds : List Finding) : Type 0 where
  pub none_undecided : (k : ℕ) → ¬ (Is ds Undecided k)
  pub common : (k : ℕ) → Is ds Common k ↔ ((x : PlacedNode) × Contains xs x × (x.place ≡ k) × P x.node)

module _ (P : Node → Type 0) (xs : List PlacedNode) (ds last : List Finding) (placed_nodes : ArePlacedNodes ds xs)
    (apart : AreToldApart P xs last) (len : length last ≡ length ds) where
  -- each placed node is told by whether P holds of it
  placed_node_told : (x : PlacedNode) → Contains xs x → (P x.node → Is last Common x.place)
      × ((P x.node → ⊥) → Is last Missing x.place)
  placed_node_told x h = (
    λ m. (apart.common x.place).1 (x, h, refl, m),
    λ out. elim (three last x.place (omega (arith, placed_nodes.within x h, len))) [
      | inl u ↦ absurd (apart.none_undecided x.place u)
      | inr other ↦ elim other [
        | inl c ↦
            let y = (apart.common x.place).0 c in
            let same : y.0 ≡ x = placed_nodes.apart y.0 x y.1 h y.2 in
            absurd (out (subst (λ (z : PlacedNode). P z.node) same y.3))
        | inr m ↦ m
      ]
    ],
  )

  -- where parents of what is common are common, children of what is missing are missing
  pub closed_told : (ps : List ParentPlaces) → length last ≡ length ps
      → ((j k : ℕ) → IsParentAt ps j k → Is last Common j → Is last Common k) → IsClosed ps last
  closed_told ps all common = record {
    common = common;
    missing = λ j k parent m.
        elim (three last j (omega (arith, slice_get_within ps j parent.0 parent.1, all))) [
          | inl u ↦ absurd (apart.none_undecided j u)
          | inr other ↦ elim other [
            | inl c ↦ absurd (not_both_cm last k (common j k parent c) m)
            | inr m' ↦ m'
          ]
        ];
  }

-- where a discovery begins upon the baseline
pub started : (s : State) (ps : List ParentPlaces) (xs : List PlacedNode) (ds : List Finding) → IsBaseline s ps xs ds
    → (asked : List PlacedNode)
    → IsSample (record { parents = ps; placed_nodes = xs; decided = ds; asked = asked }) asked
    → IsStart s (record { parents = ps; placed_nodes = xs; decided = ds; asked = asked })
started s ps xs ds baseline asked sample = record {
  shape = baseline.shape;
  placed_nodes = baseline.shared;
  undecided = baseline.undecided;
  nothing_common = baseline.nothing_common;
  search = record {
    len = baseline.len;
    in_order = baseline.in_order;
    placed_nodes = baseline.placed_nodes;
    closed = baseline.closed;
    sample = sample;
  };
}

module _ (ours theirs : ReplicaState) (pins : List Node)
    (tell : (n : Node) → IsServedUnder (content_of theirs) pins n ⊎ (¬ (IsServedUnder (content_of theirs) pins n)))
    (ps : List ParentPlaces) (xs : List PlacedNode) (ds last : List Finding)
    (baseline : IsBaseline ours.history ps xs ds)
    (apart : AreToldApart (IsServedUnder (content_of theirs) pins) xs last) (len : length last ≡ length ds)
    (closed : IsClosed ps last) (heads : List PlacedNode)
    (heads_are : Lists (IsHead
    (record { parents = ps; placed_nodes = xs; decided = last; asked = heads }) Common) heads) where
  abbrev P : Node → Type 0
  P = IsServedUnder (content_of theirs) pins

  told_apart : (x : PlacedNode) → Contains xs x → (P x.node → Is last Common x.place)
      × ((P x.node → ⊥) → Is last Missing x.place)
  told_apart = placed_node_told P xs ds last baseline.placed_nodes apart len

  first_marks : (marks : List Bool) × AreCovered ps ds Undecided marks
  first_marks = marks_exist ps ds baseline.len

  abbrev start : Search
  start = record { parents = ps; placed_nodes = xs; decided = ds; asked = drawn ds first_marks.0 xs }

  starts : IsStart ours.history start
  starts = started ours.history ps xs ds baseline (drawn ds first_marks.0 xs)
      (drawn_sample ps ds xs
      (drawn ds first_marks.0 xs) baseline.len baseline.in_order baseline.closed baseline.placed_nodes
      baseline.ascending first_marks.0 first_marks.1 refl)

  -- what is missing at first is no placed node
  missing_first : (k : ℕ) → Is ds Missing k → Is last Missing k
  missing_first k m = elim (three last k (omega (arith, slice_get_within ds k Missing m, len))) [
    | inl u ↦ absurd (apart.none_undecided k u)
    | inr other ↦ elim other [
      | inl c ↦
          let x = (apart.common k).0 c in
          absurd (not_both_um ds k ((baseline.undecided k).1 (x.0, x.1, x.2)) m)
      | inr m' ↦ m'
    ]
  ]

  pub told_in_common : AreHeadsInCommon ours theirs pins (nodes_of heads)
  told_in_common =
      let all = end_of P tell ps xs baseline.ascending last closed told_apart (undecided ds) ours start (omega arith)
      (IsAskedSoFar-start P ours start starts)
      (record {
        search = starts.search;
        parents = refl;
        placed_nodes = refl;
        common = λ k c. absurd (baseline.nothing_common k c);
        missing = missing_first;
      }) in
      let t = all.0 in
      let same =
      end_common P tell ps xs baseline.ascending last closed told_apart t all.2 all.3 (len ∙ baseline.len) in (
        t,
        IsAskedSoFar-done ours theirs pins t all.1 all.3,
        (
          heads,
          (
            heads_are.0,
            λ x. (
              λ h.
                  let head = (heads_are.1 x).0 h in (
                    (
                      subst (λ ys. Contains ys x) (sym all.2.placed_nodes) head.0.0,
                      (same x.place).1 head.0.1,
                    ),
                    λ j c under. head.1 j ((same j).0 c)
                        (subst (λ qs. IsUnder qs x.place j) all.2.parents under),
                  ),
              λ head. (heads_are.1 x).1 (
                (
                  subst (λ ys. Contains ys x) all.2.placed_nodes head.0.0,
                  (same x.place).0 head.0.1,
                ),
                λ j c under. head.1 j ((same j).1 c)
                    (subst (λ qs. IsUnder qs x.place j) (sym all.2.parents) under),
              ),
            ),
          ),
          refl,
        ),
      )

-- Each admitted part has a least state.
use Rattle.std.proofs.Common.{◌≡◌, ◌≢◌, ℕ, zero, suc, ◌<◌, ◌≤◌, Bool, true, false, List, [], ◌∷◌, ◌++◌, append_assoc}
use Rattle.std.proofs.Common.{length, map, take, slice_get, Some, Contains, ◌↔◌, ◌⊎◌, inl, inr, refl, sym, ap, subst}
use Rattle.std.proofs.Common.{◌∙◌, arith, true≢false}
use Rattle.std.specs.List.{list_any}
use Rattle.std.proofs.lemmas.Bool.{cases_eq, cases_order}
use Rattle.std.proofs.lemmas.List.{append-nil, length-append, length-map, map-append}
use Rattle.std.proofs.lemmas.List.Elements.{Contains-append_left, Contains-append_right, Contains-append_cases}
use Rattle.std.proofs.lemmas.List.Elements.{Contains-push_cases}
use Rattle.std.proofs.lemmas.Map.Views.{list_any-from_Contains, Contains-from_any}
use Rattle.std.proofs.lemmas.Option.{none-some, same_Some, slice_get_within}
use Rattle.std.proofs.Math.Seq.{take-append_seam}
use Rattle.hg_changeset.specs.declared.node.Node.{Node}
use Rattle.hg_changeset.specs.Node.{node_eq, null_node}
use Rattle.hg_changeset.specs.Contents.{Contents}
use Rattle.hg_changeset.specs.Changeset.{node_of, IsChangeset}
use Rattle.hg_changeset.proofs.NodeLemmas.{same_node, node_eq_laws}
use Rattle.hg_changeset.proofs.ListLemmas.{slice_get_some, slice_get-push_cases, Contains-one}
use Rattle.hg_graph.specs.Graph.{IsGraph, IsParent, HoldsParents, nodes, Holds as GraphHolds}
use Rattle.hg_graph.specs.Places.{IsAt, IsParentPlace, IsAncestorPlace}
use Rattle.hg_graph.proofs.GraphLemmas.{Holds-from, Holds-changeset, IsGraph-push}
use Rattle.hg_graph.proofs.PlaceLemmas.{same_place, place_from_Holds, parent_first, ancestor_first, ancestor_itself}
use Rattle.hg_graph.proofs.PlaceLemmas.{ancestor_through_parent, ancestor_by_parent}
use Rattle.hg_phases.specs.declared.phase.Phase.{Phase}
use Rattle.hg_phases.specs.declared.phase.Phase.TheVariants.{Secret}
use Rattle.hg_phases.specs.State.{State, Held, rank, changesets, Holds, IsValid, held_of, state_of}
use Rattle.hg_phases.specs.Least.{PartValue, Covers, IsAdmitted, AreAdmitted, IsBoundOfOne, IsLowest, IsLeast}
use Rattle.hg_phases.specs.Least.{IsSmallest, bound_alone}
use Rattle.hg_phases.specs.Log.{IsLowered}
use Rattle.hg_phases.proofs.LeastLemmas.{rank-top, changeset_from, same_held, Holds-taken, least-then}
use Rattle.hg_phases.proofs.LawLemmas.{least-same, least-lowered, least-more, least-valid}
use Rattle.hg_phases.proofs.FormLemmas.{least-covered, least-smallest, smallest-least, least-none}

-- ---- a bound

module _ (cs : List Contents) (graph : IsGraph cs) where
  -- the one parent leads to it, or doesn't
  abbrev LeadsTo : ℕ → ℕ → Node → Type 0
  LeadsTo j i p = (k : ℕ) × IsParentPlace cs i k × IsAt cs p k × IsAncestorPlace cs j k

  null_leads : (j i : ℕ) (p : Node) → p ≡ null_node → LeadsTo j i p → ⊥
  null_leads j i p null way = way.1.3.0 (same_Some way.1.1 p (sym way.1.4 ∙ way.2) ∙ null)

  -- whether the changeset at i is the one at j, or a descendant of it
  abbrev IsDecided : ℕ → ℕ → Type 0
  IsDecided j i = IsAncestorPlace cs j i ⊎ ¬ (IsAncestorPlace cs j i)

  by_parent : (j i : ℕ) (c : Contents) → slice_get cs i ≡ Some c → ((k : ℕ) → k < i → IsDecided j k) → (p : Node)
      → (c.first ≡ p) ⊎ (c.second ≡ p) → LeadsTo j i p ⊎ ¬ (LeadsTo j i p)
  by_parent j i c at before p which = by (node_eq p null_node) refl
    where
      by : (b : Bool) → node_eq p null_node ≡ b → LeadsTo j i p ⊎ ¬ (LeadsTo j i p)
      by true e = inr (null_leads j i p (same_node p null_node e))
      by false e =
          let there : p ≢ null_node =
          λ x. true≢false (sym (subst (λ m. node_eq p m ≡ true) x (node_eq_laws.refl p)) ∙ e) in
          let is : IsParent c p = (there, which) in
          let place = place_from_Holds cs p (Holds-taken cs i p (graph.parents_first i c at p is)) in
          let parent : IsParentPlace cs i place.0 = (c, p, at, is, place.1) in
          elim (before place.0 (parent_first cs graph i place.0 parent)) [
            | inl up ↦ inl (place.0, parent, place.1, up)
            | inr not_up ↦ inr
                (λ way. not_up
                (subst (IsAncestorPlace cs j) (same_place (nodes cs) p place.0 way.0 graph.distinct place.1 way.2)
                way.3))
          ]

  decided_from : (j i : ℕ) → i < length cs → ((k : ℕ) → k < i → IsDecided j k) → IsDecided j i
  decided_from j i within before = elim (cases_eq j i) [
    | inl e ↦ inl (subst (λ x. IsAncestorPlace cs x i) (sym e) (ancestor_itself cs graph i within))
    | inr ne ↦
        let c = slice_get_some cs i within in
        let one = by_parent j i c.0 c.1 before c.0.first (inl refl) in
        let two = by_parent j i c.0 c.1 before c.0.second (inr refl) in
        elim one [
          | inl way ↦ inl (ancestor_through_parent cs j way.0 i way.1 way.3)
          | inr not_one ↦ elim two [
            | inl way ↦ inl (ancestor_through_parent cs j way.0 i way.1 way.3)
            | inr not_two ↦ inr (λ up.
                let order = ancestor_first cs graph j i up in
                let lt : j < i = omega arith in
                let way = ancestor_by_parent cs graph j i lt up in
                let parent = way.1 in
                let c_is : parent.0 ≡ c.0 = same_Some parent.0 c.0 (sym parent.2 ∙ c.1) in
                let is : IsParent c.0 parent.1 = subst (λ d. IsParent d parent.1) c_is parent.3 in
                elim is.1 [
                  | inl e ↦ not_one (way.0, parent, subst (λ p. IsAt cs p way.0) (sym e) parent.4, way.2)
                  | inr e ↦ not_two (way.0, parent, subst (λ p. IsAt cs p way.0) (sym e) parent.4, way.2)
                ])
          ]
        ]
  ]

  decided_below : (n j i : ℕ) → i < n → i < length cs → IsDecided j i
  decided_below zero j i l within = absurd (omega arith)
  decided_below (suc n) j i l within = decided_from j i within (λ k lt. decided_below n j k (omega arith) (omega arith))

  -- the phase of one place
  abbrev IsLowestAt : ℕ → Phase → List Phase → ℕ → Phase → Type 0
  IsLowestAt place phase old j k =
      IsLowest (λ x. (slice_get old j ≡ Some x) ⊎ (IsAncestorPlace cs j place × (x ≡ phase))) k

  one_phase : (place : ℕ) (phase : Phase) (old : List Phase) (j : ℕ) (k : Phase) → slice_get old j ≡ Some k
      → IsDecided j place → (x : Phase) × IsLowestAt place phase old j x
  one_phase place phase old j k at (inr not_up) = (
    k,
    (
      inl at,
      λ y candidate. elim candidate [
        | inl was ↦ let e = ap rank (same_Some k y (sym at ∙ was)) in omega (arith, e)
        | inr up ↦ absurd (not_up up.0)
      ],
    ),
  )
  one_phase place phase old j k at (inl up) = elim (cases_order (rank k) (rank phase)) [
    | inl same ↦ stays (omega (arith, same))
    | inr o ↦ elim o [
      | inl lower ↦ stays (omega (arith, lower))
      | inr higher ↦ (
        phase,
        (
          inr (up, refl),
          λ y candidate. elim candidate [
            | inl was ↦ let e = ap rank (same_Some k y (sym at ∙ was)) in omega (arith, e, higher)
            | inr x ↦ let e = ap rank x.1 in omega (arith, e)
          ],
        ),
      )
    ]
  ]
    where
      stays : rank k ≤ rank phase → (x : Phase) × IsLowestAt place phase old j x
      stays le = (
        k,
        (
          inl at,
          λ y candidate. elim candidate [
            | inl was ↦ let e = ap rank (same_Some k y (sym at ∙ was)) in omega (arith, e)
            | inr x ↦ let e = ap rank x.1 in omega (arith, e, le)
          ],
        ),
      )

  front_phases : (place : ℕ) (phase : Phase) (old : List Phase) → length old ≡ length cs → place < length cs → (n : ℕ)
      → n ≤ length cs
      → (new : List Phase) × (length new ≡ n)
      × ((j : ℕ) (k : Phase) → slice_get new j ≡ Some k → IsLowestAt place phase old j k)
  front_phases place phase old len within zero le = ([], refl, λ j k at. absurd (none-some k at))
  front_phases place phase old len within (suc n) le =
      let front = front_phases place phase old len within n (omega arith) in
      let k = slice_get_some old n (omega (arith, len)) in
      let x = one_phase place phase old n k.0 k.1 (decided_below (suc place) n place (omega arith) within) in (
        front.0 ++ x.0 ∷ [],
        omega (arith, length-append front.0 (x.0 ∷ []), front.1),
        λ j y at. elim (slice_get-push_cases front.0 x.0 j y at) [
          | inl before ↦ front.2 j y before
          | inr last ↦ subst (λ i. IsLowestAt place phase old i y) (sym (last.0 ∙ front.1))
              (subst (IsLowestAt place phase old n) last.1 x.1)
        ],
      )

  lowered_phases : (place : ℕ) (phase : Phase) (old : List Phase) → length old ≡ length cs → place < length cs
      → (new : List Phase) × IsLowered cs place phase old new
  lowered_phases place phase old len within =
      let all = front_phases place phase old len within (length cs) (omega arith) in
      (all.0, record { len = all.1 ∙ sym len; each = all.2 })

-- a state is that of its changesets and its phases
abbrev phases : State → List Phase
phases s = map (λ h. h.phase) s.held

held_again : (hs : List Held) → held_of (map (λ h. h.changeset) hs) (map (λ h. h.phase) hs) ≡ hs
held_again [] = refl
held_again (h ∷ hs) = ap (λ gs. h ∷ gs) (held_again hs)

state_again : (s : State) → state_of (changesets s) (phases s) ≡ s
state_again s = ap (λ hs. record { held = hs }) (held_again s.held)

pub least-bound : (s : State) → IsGraph (changesets s) → (b : Node × Phase) → Holds s b.0
    → (t : State) × IsLeast s (bound_alone b ∷ []) t
least-bound s graph b held =
    let cs = changesets s in
    let len : length (phases s) ≡ length cs =
    length-map s.held (λ h. h.phase) ∙ sym (length-map s.held (λ h. h.changeset)) in
    let place = place_from_Holds cs b.0 held in
    let within : place.0 < length cs =
    omega (arith, slice_get_within (nodes cs) place.0 b.0 place.1, length-map cs node_of) in
    let new = lowered_phases cs graph place.0 b.1 (phases s) len within in (
      state_of cs new.0,
      subst (λ r. IsLeast r (bound_alone b ∷ []) (state_of cs new.0)) (state_again s)
          (least-lowered cs b.0 place.0 b.1 (phases s) new.0 graph len place.1 new.1),
    )

-- what is held stays held
Holds-least : (s : State) (ks : List PartValue) (t : State) → IsLeast s ks t → (n : Node) → Holds s n → Holds t n
Holds-least s ks t l n h =
    let c = Holds-changeset (changesets s) n h in
    subst (Contains (nodes (changesets t))) c.2 (Holds-from (changesets t) c.0 ((l.union c.0).1 (inl c.1)))

pub least-bounds : (s : State) (p : List Contents) (done rest : List (Node × Phase)) (t : State)
    → ((b : Node × Phase) → Contains rest b → Holds t b.0) → IsLeast s (record { changesets = p; bounds = done } ∷ []) t
    → (u : State) × IsLeast s (record { changesets = p; bounds = done ++ rest } ∷ []) u
least-bounds s p done [] t held l =
    (t, subst (λ bs. IsLeast s (record { changesets = p; bounds = bs } ∷ []) t) (sym (append-nil done)) l)
least-bounds s p done (b ∷ rest) t held l =
    let one = least-bound t l.graph b (held b (0, omega arith, refl)) in
    let more = least-more s p done b t one.0 l one.1 in
    let all = least-bounds s p (done ++ b ∷ []) rest one.0
    (λ d at. Holds-least t (bound_alone b ∷ []) one.0 one.1 d.0 (held d (Contains-append_right (b ∷ []) rest d at)))
    more in (
      all.0,
      subst (λ bs. IsLeast s (record { changesets = p; bounds = bs } ∷ []) all.0)
          (append_assoc done (b ∷ []) rest) all.1,
    )

-- ---- changesets

-- the part that is changesets alone
abbrev changesets_alone : List Contents → PartValue
changesets_alone cs = record { changesets = cs; bounds = [] }

abbrev pushed : State → Contents → State
pushed s c = record { held = s.held ++ record { changeset = c; phase = Secret } ∷ [] }

none_bound : (cs : List Contents) (b : Node × Phase) → IsBoundOfOne (changesets_alone cs ∷ []) b → ⊥
none_bound cs b p = let e = Contains-one (changesets_alone cs) p.0 p.1 in let m =
    subst (λ x. Contains x.bounds b) (sym e) p.2 in omega (arith, m.1)

-- a new changeset, whose parents are held, is added as secret
least-new : (s : State) (c : Contents) → IsGraph (changesets s) → IsChangeset c → HoldsParents (changesets s) c
    → ¬ (Holds s (node_of c)) → IsLeast s (changesets_alone (c ∷ []) ∷ []) (pushed s c)
least-new s c graph is parents out = record {
  graph = subst IsGraph (sym same) (IsGraph-push (changesets s) c graph is parents out);
  union = λ d. (
    λ at. elim (Contains-push_cases (changesets s) c d (subst (λ ds. Contains ds d) same at)) [
      | inl x ↦ inl x
      | inr e ↦ inr (k, (0, omega arith, refl), subst (Contains (c ∷ [])) e (0, omega arith, refl))
    ],
    λ h. subst (λ ds. Contains ds d) (sym same) (elim h [
      | inl x ↦ Contains-append_left (changesets s) (c ∷ []) d x
      | inr p ↦ let e = Contains-one k p.0 p.1 in
          Contains-append_right (changesets s) (c ∷ []) d (subst (λ x. Contains x.changesets d) (sym e) p.2)
    ]),
  );
  bounded = λ b p. absurd (none_bound (c ∷ []) b p);
  phases = λ g at. elim (Contains-push_cases s.held new g at) [
    | inl old ↦ (
      inr (inl (g, old, refl, refl)),
      λ j candidate. elim candidate [
        | inl top ↦ subst (λ x. rank g.phase ≤ rank x) (sym top) (rank-top g.phase)
        | inr o ↦ elim o [
          | inl was ↦
              let g_is = same_held s graph g was.0 old was.1 (ap node_of (sym was.2)) in
              let e = ap rank (sym (ap (λ x. x.phase) g_is) ∙ was.3) in
              omega (arith, e)
          | inr b ↦ absurd (none_bound (c ∷ []) b.0 b.1)
        ]
      ],
    )
    | inr e ↦ (
      inl (ap (λ x. x.phase) (sym e)),
      λ j candidate. elim candidate [
        | inl top ↦ subst (λ x. rank g.phase ≤ rank x) (sym top) (rank-top g.phase)
        | inr o ↦ elim o [
          | inl was ↦ absurd
              (out (subst (Holds s) (ap node_of (was.2 ∙ ap (λ x. x.changeset) (sym e)))
              (Holds-from (changesets s) was.0.changeset (changeset_from s was.0 was.1))))
          | inr b ↦ absurd (none_bound (c ∷ []) b.0 b.1)
        ]
      ],
    )
  ];
}
  where
    new : Held
    new = record { changeset = c; phase = Secret }

    k : PartValue
    k = changesets_alone (c ∷ [])

    same : changesets (pushed s c) ≡ changesets s ++ c ∷ []
    same = map-append (λ h. h.changeset) s.held (record { changeset = c; phase = Secret } ∷ [])

-- one changeset more
least-one_more : (s : State) (p : List Contents) (c : Contents) (t u : State) → IsLeast s (changesets_alone p ∷ []) t
    → IsLeast t (changesets_alone (c ∷ []) ∷ []) u → IsLeast s (changesets_alone (p ++ c ∷ []) ∷ []) u
least-one_more s p c t u first next = least-same s (k ∷ l ∷ []) (m ∷ []) u
    (λ d. (
      λ h. elim (Contains-push_cases (k ∷ []) l h.0 h.1) [
        | inl x ↦ let e = Contains-one k h.0 x in (
          m,
          (0, omega arith, refl),
          Contains-append_left p (c ∷ []) d (subst (λ y. Contains y.changesets d) (sym e) h.2),
        )
        | inr e ↦ (
          m,
          (0, omega arith, refl),
          Contains-append_right p (c ∷ []) d (subst (λ y. Contains y.changesets d) (sym e) h.2),
        )
      ],
      λ h. let e = Contains-one m h.0 h.1 in
          elim (Contains-append_cases p (c ∷ []) d (subst (λ y. Contains y.changesets d) (sym e) h.2)) [
            | inl x ↦ (k, (0, omega arith, refl), x)
            | inr x ↦ (l, (1, omega arith, refl), x)
          ],
    ))
    (λ b. (
      λ h. elim (Contains-push_cases (k ∷ []) l h.0 h.1) [
        | inl x ↦ absurd (none_bound p b (h.0, x, h.2))
        | inr e ↦ absurd (let y = subst (λ x. Contains x.bounds b) (sym e) h.2 in omega (arith, y.1))
      ],
      λ h. absurd (none_bound (p ++ c ∷ []) b h),
    ))
    (least-then s (k ∷ []) (l ∷ []) t u first next)
  where
    k : PartValue
    k = changesets_alone p

    l : PartValue
    l = changesets_alone (c ∷ [])

    m : PartValue
    m = changesets_alone (p ++ c ∷ [])

-- an id is held or isn't
held_or_not : (cs : List Contents) (n : Node) → GraphHolds cs n ⊎ ¬ (GraphHolds cs n)
held_or_not cs n = by (list_any (node_eq n) (nodes cs)) refl
  where
    by : (b : Bool) → list_any (node_eq n) (nodes cs) ≡ b → GraphHolds cs n ⊎ ¬ (GraphHolds cs n)
    by true e = inl (Contains-from_any same_node n (nodes cs) e)
    by false e = inr (λ h. true≢false (sym (list_any-from_Contains node_eq_laws n (nodes cs) h) ∙ e))

module _ (s : State) (k : PartValue) (valid : IsValid s) (admitted : IsAdmitted s k) (each : (c : Contents)
    → Contains k.changesets c → IsChangeset c) where
  -- one changeset of the part, after those before it
  next_changeset : (done : List Contents) (c : Contents) (rest : List Contents) → k.changesets ≡ done ++ (c ∷ rest)
      → (t : State) → IsValid t → IsLeast s (changesets_alone done ∷ []) t
      → (u : State) × IsValid u × IsLeast s (changesets_alone (done ++ c ∷ []) ∷ []) u
  next_changeset done c rest e t t_valid l = elim (held_or_not (changesets t) (node_of c)) [
    | inl held ↦
        let d = Holds-changeset (changesets t) (node_of c) held in
        let from : Contains (changesets s) d.0 ⊎ Contains k.changesets d.0 = elim ((l.union d.0).0 d.1) [
          | inl x ↦ inl x
          | inr p ↦ let x = Contains-one (changesets_alone done) p.0 p.1 in
              inr (in_part d.0
              (Contains-append_left done (c ∷ rest) d.0 (subst (λ y. Contains y.changesets d.0) (sym x) p.2)))
        ] in
        let same : c ≡ d.0 = admitted.apart c d.0 (in_part c here) from (sym d.2) in
        let there : Contains (changesets t) c = subst (Contains (changesets t)) (sym same) d.1 in
        let stays = least-covered t (changesets_alone (c ∷ []) ∷ []) t_valid
        (λ x at. subst (Covers t) (Contains-one (changesets_alone (c ∷ [])) x at) (record {
          holds = λ y at_y. subst (Contains (changesets t)) (Contains-one c y at_y) there;
          bounded = λ b at_b. absurd (omega (arith, at_b.1));
        })) in
        (t, t_valid, least-one_more s done c t t l stays)
    | inr out ↦
        let more = least-new t c t_valid.graph (each c (in_part c here)) parents out in (
          pushed t c,
          least-valid t (changesets_alone (c ∷ []) ∷ []) (pushed t c) more t_valid,
          least-one_more s done c t (pushed t c) l more,
        )
  ]
    where
      here : Contains (done ++ (c ∷ rest)) c
      here = Contains-append_right done (c ∷ rest) c (0, omega arith, refl)

      in_part : (d : Contents) → Contains (done ++ (c ∷ rest)) d → Contains k.changesets d
      in_part d at = subst (λ cs. Contains cs d) (sym e) at

      at : slice_get k.changesets (length done) ≡ Some c
      at = ap (λ cs. slice_get cs (length done)) e ∙ at_seam done c rest
        where
          at_seam : (xs : List Contents) (x : Contents) (ys : List Contents)
              → slice_get (xs ++ (x ∷ ys)) (length xs) ≡ Some x
          at_seam [] x ys = refl
          at_seam (y ∷ xs) x ys = at_seam xs x ys

      front : take (length done) k.changesets ≡ done
      front = ap (take (length done)) e ∙ take-append_seam done (c ∷ rest)

      in_t : (p : Node) → Contains (nodes done) p → Holds t p
      in_t p h =
          let d = Holds-changeset done p h in
          subst (Holds t) d.2
          (Holds-from (changesets t) d.0
          ((l.union d.0).1 (inr (changesets_alone done, (0, omega arith, refl), d.1))))

      parents : HoldsParents (changesets t) c
      parents p is = elim (admitted.parents (length done) c at p is) [
        | inl x ↦ Holds-least s (changesets_alone done ∷ []) t l p x
        | inr x ↦ in_t p (subst (λ cs. Contains (nodes cs) p) front x)
      ]

  least-changesets : (done rest : List Contents) → k.changesets ≡ done ++ rest → (t : State) → IsValid t
      → IsLeast s (changesets_alone done ∷ []) t → (u : State) × IsLeast s (changesets_alone k.changesets ∷ []) u
  least-changesets done [] e t t_valid l =
      (t, subst (λ cs. IsLeast s (changesets_alone cs ∷ []) t) (sym (e ∙ append-nil done)) l)
  least-changesets done (c ∷ rest) e t t_valid l =
      let one = next_changeset done c rest e t t_valid l in
      least-changesets (done ++ c ∷ []) rest (e ∙ sym (append_assoc done (c ∷ []) rest)) one.0 one.1 one.2

  -- a part that is admitted has a least state
  pub least-admitted : (t : State) × IsLeast s (k ∷ []) t
  least-admitted =
      let nothing =
      least-covered s (changesets_alone [] ∷ []) valid
      (λ x at. subst (Covers s) (Contains-one (changesets_alone []) x at) (record {
        holds = λ c at_c. absurd (omega (arith, at_c.1));
        bounded = λ b at_b. absurd (omega (arith, at_b.1));
      })) in
      let t = least-changesets [] k.changesets refl s valid nothing in
      least-bounds s k.changesets [] k.bounds t.0 (λ b at. elim (admitted.bounds b at) [
        | inl x ↦ Holds-least s (changesets_alone k.changesets ∷ []) t.0 t.1 b.0 x
        | inr x ↦
            let d = Holds-changeset k.changesets b.0 x in
            subst (Holds t.0) d.2
            (Holds-from (changesets t.0) d.0
            ((t.1.union d.0).1 (inr (changesets_alone k.changesets, (0, omega arith, refl), d.1))))
      ]) t.1

-- and so has a list of parts, each admitted after those before it
pub least-all_admitted : (s : State) (ks : List PartValue) → IsValid s → AreAdmitted s ks → (t : State) × IsLeast s ks t
least-all_admitted s [] valid a = (s, least-none s valid)
least-all_admitted s (k ∷ ks) valid a =
    let one = least-admitted s k valid a.0 a.1 in
    let all = least-all_admitted one.0 ks (least-valid s (k ∷ []) one.0 one.1 valid) (a.2 one.0 one.1) in
    (all.0, least-then s (k ∷ []) ks one.0 all.0 one.1 all.1)

-- for these the two forms of the least state say the same
pub forms-same : (s t : State) (ks : List PartValue) → IsValid s → AreAdmitted s ks → IsLeast s ks t ↔ IsSmallest s ks t
forms-same s t ks valid a =
    let u = least-all_admitted s ks valid a in
    (λ l. smallest-least s ks t valid l, λ m. least-smallest s ks t u.0 valid u.1 m)

-- The join of two kept states: the other is taken in as a part.
use Rattle.std.proofs.Common.{◌≡◌, ℕ, zero, suc, ◌<◌, ◌≤◌, ◌+◌, List, [], ◌∷◌, ◌++◌, length, take, slice_get, Option}
use Rattle.std.proofs.Common.{Some, None, Contains, Bor, Err, ◌⊎◌, ◌↔◌, inl, inr, refl, sym, ap, subst, ◌∙◌}
use Rattle.std.proofs.Common.{arith}
use Rattle.std.proofs.lemmas.Bool.{cases_eq}
use Rattle.std.proofs.lemmas.List.{take_all, length-map}
use Rattle.std.proofs.lemmas.List.Elements.{Contains-append_right, Contains-append_cases}
use Rattle.std.specs.Option.{option_map, option_copied}
use Rattle.std.proofs.lemmas.Map.Made.{length-le_from_is_member}
use Rattle.std.proofs.lemmas.Map.Views.{Contains-from_any, list_any-from_Contains}
use Rattle.std.proofs.lemmas.Option.{none-some, same_Some, slice_get-map, slice_get_within}
use Rattle.hg_changeset.specs.declared.node.Node.{Node}
use Rattle.hg_changeset.specs.Contents.{Contents}
use Rattle.hg_changeset.specs.Changeset.{node_of}
use Rattle.hg_changeset.proofs.ListLemmas.{slice_get_some, Contains-one}
use Rattle.hg_changeset.proofs.NodeLemmas.{node_eq_laws, same_node}
use Rattle.hg_graph.specs.Graph.{IsGraph, nodes, Holds as GraphHolds}
use Rattle.hg_graph.specs.Graph.Reaches.{itself}
use Rattle.hg_graph.specs.Places.{IsAt, IsOnlyAt}
use Rattle.hg_graph.proofs.GraphLemmas.{Contains-from_place, place_from_Contains, Holds-from, Holds-changeset}
use Rattle.hg_graph.proofs.MarkLemmas.{get-take, IsAt-from}
use Rattle.hg_phases.specs.declared.phase.Phase.{Phase}
use Rattle.hg_phases.specs.State.{State, Held, rank, changesets, Reaches, IsValid, held_of, state_of}
use Rattle.hg_phases.specs.Order.{Below}
use Rattle.hg_phases.specs.Least.{PartValue, IsCandidate, IsChangesetOfOne, IsLeast, part_of}
use Rattle.hg_phases.specs.Content.{content_of}
use Rattle.hg_phases.proofs.RankLemmas.{rank-apart, rank-top}
use Rattle.hg_phases.proofs.PlaceLemmas.{held-at, parts-at, changesets-held_of}
use Rattle.hg_phases.proofs.FormLemmas.{valid-reach}
use Rattle.hg_phases.proofs.LeastLemmas.{held_from, changeset_from, same_changeset, Reaches-back, Reaches-from}
use Rattle.hg_phases.proofs.JoinLemmas.{bound_from, bound_of, join-least}
use Rattle.hg_phases.proofs.ContentLemmas.{held_in_content, content-held}
use Rattle.hg_history.specs.declared.fault.Fault.{Fault}
use Rattle.hg_history.specs.declared.fault.Fault.TheVariants.{UnknownParent, Collision, UnknownBound, NullBound}
use Rattle.hg_history.specs.declared.fault.Fault.TheVariants.{NoMemory}
use Rattle.hg_history.specs.Answer.{AreHeldUpTo}
use Rattle.hg_history.specs.Content.{ContentBelow, AgreeAt, joined, ContentsJoined, ContentsCollide}
use Rattle.hg_history.specs.ContentLaws.{below-both, same-held}
use Rattle.hg_history.specs.JoinedLaws.{joined-first, joined-second, joined-one}
use Rattle.hg_history.specs.Join.{IsJoin, IsJoinFault, IsHeldAsLow}
use Rattle.hg_history.specs.Steps.{AddAllAnswer, IsAdded}
use Rattle.hg_history.proofs.AddLemmas.{Holds-same}
use Rattle.hg_history.proofs.ContentLemmas.{content-below, below_from_content}

-- ---- what a join is

module _ (s o t : State) (s_graph : IsGraph (changesets s)) (o_graph : IsGraph (changesets o))
    (t_graph : IsGraph (changesets t)) (join : IsJoin s o t) where
  up_first : ContentBelow (content_of s) (content_of t)
  up_first = content-below s t t_graph join.first

  up_second : ContentBelow (content_of o) (content_of t)
  up_second = content-below o t t_graph join.second

  agree : (n : Node) → AgreeAt (content_of s n) (content_of o n)
  agree n h g at_h at_g =
      let x = up_first n h at_h in
      let y = up_second n g at_g in
      sym x.2 ∙ ap (λ z. z.changeset) (same_Some x.0 y.0 (sym x.1 ∙ y.1)) ∙ y.2

  -- it is the join of the contents
  pub join-contents : ContentsJoined (content_of s) (content_of o) (content_of t)
  join-contents =
      (agree, λ i n. below-both (content_of t n) (joined (content_of s n) (content_of o n)) (up n) (down n) i)
    where
      up : (n : Node) (h : Held) → content_of t n ≡ Some h
          → (g : Held) × (joined (content_of s n) (content_of o n) ≡ Some g) × (g.changeset ≡ h.changeset)
          × (rank g.phase ≤ rank h.phase)
      up n h e =
          let f = held_in_content t n h e in
          elim (join.each h f.0) [
            | inl x ↦ joined-first (content_of s n) (content_of o n) h (content-held s s_graph n h x f.1)
            | inr x ↦ joined-second (content_of s n) (content_of o n) (agree n) h (content-held o o_graph n h x f.1)
          ]

      down : (n : Node) (h : Held) → joined (content_of s n) (content_of o n) ≡ Some h
          → (g : Held) × (content_of t n ≡ Some g) × (g.changeset ≡ h.changeset) × (rank g.phase ≤ rank h.phase)
      down n h e =
          elim (joined-one (content_of s n) (content_of o n) (agree n) h e)
          [ inl x ↦ up_first n h x | inr x ↦ up_second n h x ]

-- and where it is, the state is the join
pub join_from_content : (s o t : State) → IsGraph (changesets s) → IsGraph (changesets o) → IsGraph (changesets t)
    → ContentsJoined (content_of s) (content_of o) (content_of t) → IsJoin s o t
join_from_content s o t s_graph o_graph t_graph h = record {
  first = below_from_content s t s_graph
      (subst (ContentBelow (content_of s)) (sym h.1) (λ n. joined-first (content_of s n) (content_of o n)));
  second = below_from_content o t o_graph
      (subst (ContentBelow (content_of o)) (sym h.1) (λ n. joined-second (content_of s n) (content_of o n) (h.0 n)));
  each = λ g at.
      let n = node_of g.changeset in
      let e : joined (content_of s n) (content_of o n) ≡ Some g =
      (λ i. sym h.1 i n) ∙ content-held t t_graph n g at refl in
      elim (joined-one (content_of s n) (content_of o n) (h.0 n) g e) [
        | inl x ↦ inl (held_in_content s n g x).0
        | inr x ↦ inr (held_in_content o n g x).0
      ];
}

-- two changesets under one id collide
pub collide-contents : (s o : State) → IsGraph (changesets s) → IsGraph (changesets o) → (fault : Fault)
    → IsJoinFault s o fault → ContentsCollide (content_of s) (content_of o) fault ⊎ (fault ≡ NoMemory)
collide-contents s o small large (UnknownParent p) h = absurd h
collide-contents s o small large (Collision n) (h, g, at_h, at_g, h_is, g_is, differ) =
    inl (n, h, g, content-held s small n h at_h h_is, content-held o large n g at_g g_is, differ, refl)
collide-contents s o small large (UnknownBound n) h = absurd h
collide-contents s o small large NullBound h = absurd h
collide-contents s o small large NoMemory h = inr refl

-- ---- what a look-up finds

-- the changeset at a place has the node that stands there
at-node : (cs : List Contents) (p : ℕ) (n : Node) → IsAt cs n p
    → (d : Contents) × (slice_get cs p ≡ Some d) × (node_of d ≡ n)
at-node [] p n at = absurd (none-some n at)
at-node (d ∷ cs) zero n at = (d, refl, same_Some (node_of d) n at)
at-node (d ∷ cs) (suc p) n at = at-node cs p n at

module _ (cs : List Contents) (ks : List Phase) (c : Contents) (k : Phase) (n : Node) (n_is : n ≡ node_of c) where
  -- where what is held as low stands
  low-place : IsHeldAsLow (state_of cs ks) c k → (q : ℕ) × (j : Phase) × (slice_get cs q ≡ Some c)
      × (slice_get ks q ≡ Some j) × (rank j ≤ rank k)
  low-place (g, at, same, le) =
      let place = place_from_Contains (held_of cs ks) g at in
      let parts = parts-at cs ks place.0 g place.1 in
      (place.0, g.phase, parts.0 ∙ ap (λ x. Some x) same, parts.1, le)

  pub not-held-as-low : ¬ (GraphHolds cs n) → ¬ (IsHeldAsLow (state_of cs ks) c k)
  not-held-as-low out h =
      let q = low-place h in
      out (subst (GraphHolds cs) (sym n_is) (Holds-from cs c (Contains-from_place cs q.0 c q.2)))

  module _ (p : ℕ) (only : IsOnlyAt cs n p) where
    low-here : (h : IsHeldAsLow (state_of cs ks) c k) → (low-place h).0 ≡ p
    low-here h = let q = low-place h in (only q.0).0 (IsAt-from cs q.0 c n q.2 (sym n_is))

    pub other-not-low : ¬ (slice_get cs p ≡ Some c) → ¬ (IsHeldAsLow (state_of cs ks) c k)
    other-not-low other h = let q = low-place h in other (subst (λ m. slice_get cs m ≡ Some c) (low-here h) q.2)

    pub low-at : (j : Phase) → slice_get cs p ≡ Some c → slice_get ks p ≡ Some j
        → (rank j ≤ rank k) ↔ IsHeldAsLow (state_of cs ks) c k
    low-at j at_c at_j = (
      λ le. let g : Held = record { changeset = c; phase = j } in
          (g, Contains-from_place (held_of cs ks) p g (held-at cs ks p c j at_c at_j), refl, le),
      λ h.
          let q = low-place h in
          let same = ap rank (same_Some j q.1 (sym at_j ∙ subst (λ m. slice_get ks m ≡ Some q.1) (low-here h) q.3)) in
          omega (arith, same, q.4),
    )

-- all below a place are below, and then one more
pub record AreBelowUpTo (cs : List Contents) (ks : List Phase) (i : ℕ) (t : State) : Type 0 where
  pub each : (j : ℕ) (h : Held) → j < i → slice_get (held_of cs ks) j ≡ Some h → IsHeldAsLow t h.changeset h.phase

pub below-start : (cs : List Contents) (ks : List Phase) (t : State) → AreBelowUpTo cs ks 0 t
below-start cs ks t = record { each = λ j h lt at. absurd (omega arith) }

pub below-step : (cs : List Contents) (ks : List Phase) (i : ℕ) (t : State) (c : Contents) (k : Phase)
    → slice_get cs i ≡ Some c → slice_get ks i ≡ Some k → AreBelowUpTo cs ks i t → IsHeldAsLow t c k
    → AreBelowUpTo cs ks (i + 1) t
below-step cs ks i t c k at_c at_k before low = record {
  each = λ j h lt at. elim (cases_eq j i) [
    | inr ne ↦ let l : j < i = omega arith in before.each j h l at
    | inl same ↦
        let here = held-at cs ks i c k at_c at_k in
        let h_is = same_Some (record { changeset = c; phase = k }) h
        (sym here ∙ subst (λ m. slice_get (held_of cs ks) m ≡ Some h) same at) in
        subst (λ x. IsHeldAsLow t x.changeset x.phase) h_is low
  ];
}

pub below-finish : (cs : List Contents) (ks : List Phase) (i : ℕ) (t : State) → length cs ≤ i → AreBelowUpTo cs ks i t
    → Below (state_of cs ks) t
below-finish cs ks i t le all h at =
    let place = place_from_Contains (held_of cs ks) h at in
    let within = slice_get_within cs place.0 h.changeset (parts-at cs ks place.0 h place.1).0 in
    let lt : place.0 < i = omega arith in
    all.each place.0 h lt place.1

pub not-below : (cs : List Contents) (ks : List Phase) (i : ℕ) (t : State) (c : Contents) (k : Phase)
    → slice_get cs i ≡ Some c → slice_get ks i ≡ Some k → ¬ (IsHeldAsLow t c k) → ¬ (Below (state_of cs ks) t)
not-below cs ks i t c k at_c at_k low below =
    let h : Held = record { changeset = c; phase = k } in
    low (below h (Contains-from_place (held_of cs ks) i h (held-at cs ks i c k at_c at_k)))

-- a state that is below another holds no more changesets
pub below-length : (cs : List Contents) (ks : List Phase) (ds : List Contents) (ls : List Phase) → IsGraph cs
    → length ks ≡ length cs → length ls ≡ length ds → Below (state_of cs ks) (state_of ds ls) → length cs ≤ length ds
below-length cs ks ds ls graph len other_len below =
    let within =
    length-le_from_is_member node_eq_laws (nodes cs) (nodes ds) graph.distinct
    (λ n is. list_any-from_Contains node_eq_laws n (nodes ds)
    (there n (Contains-from_any same_node n (nodes cs) is))) in
    omega (arith, within, length-map cs node_of, length-map ds node_of)
  where
    there : (n : Node) → GraphHolds cs n → GraphHolds ds n
    there = Holds-same cs ds (λ c at.
        let place = place_from_Contains cs c at in
        let k = slice_get_some ks place.0 (omega (arith, slice_get_within cs place.0 c place.1, len)) in
        let g = below (record { changeset = c; phase = k.0 })
        (Contains-from_place (held_of cs ks) place.0 _ (held-at cs ks place.0 c k.0 place.1 k.1)) in
        let q = place_from_Contains (held_of ds ls) g.0 g.1 in
        subst (Contains ds) g.2 (Contains-from_place ds q.0 g.0.changeset (parts-at ds ls q.0 g.0 q.1).0))

-- the least state for the other, taken as a part, is the join
module _ (s o t : State) (w : IsValid o) (l : IsLeast s (part_of o ∷ []) t) where
  same-phase : (h g : Held) → g.changeset ≡ h.changeset → rank g.phase ≤ rank h.phase → rank h.phase ≤ rank g.phase
      → g ≡ h
  same-phase h g e up down = same-held g h e (rank-apart g.phase h.phase (omega (arith, up, down)))

  of_first : (h g : Held) → Contains t.held h → Contains s.held g → g.changeset ≡ h.changeset
      → rank g.phase ≤ rank h.phase → Contains s.held h
  of_first h g at_h at_g e le =
      subst (Contains s.held) (same-phase h g e le ((l.phases h at_h).1 g.phase (inr (inl (g, at_g, e, refl))))) at_g

  of_other : (h g : Held) → Contains t.held h → Contains o.held g → g.changeset ≡ h.changeset
      → rank g.phase ≤ rank h.phase → Contains o.held h
  of_other h g at_h at_g e le =
      let there = Holds-from (changesets t) h.changeset (changeset_from t h at_h) in
      let reach : Reaches t (node_of h.changeset) (node_of g.changeset) =
      subst (λ c. Reaches t (node_of h.changeset) (node_of c)) (sym e) (itself there) in
      subst (Contains o.held)
      (same-phase h g e le
      ((l.phases h at_h).1 g.phase
      (inr (inr (
        (node_of g.changeset, g.phase),
        (part_of o, (0, omega arith, refl), bound_of o g at_g),
        reach,
        refl,
      ))))) at_g

  in_other : (c : Contents) → IsChangesetOfOne (part_of o ∷ []) c → Contains (changesets o) c
  in_other c p = subst (λ k. Contains k.changesets c) (sym (Contains-one (part_of o) p.0 p.1)) p.2

  other_within : (c : Contents) → Contains (changesets o) c → Contains (changesets t) c
  other_within c at = (l.union c).1 (inr (part_of o, (0, omega arith, refl), at))

  by : (h : Held) → Contains t.held h → IsCandidate s (part_of o ∷ []) t h.changeset h.phase
      → Contains s.held h ⊎ Contains o.held h
  by h at (inl top) =
      let high : (g : Held) → rank g.phase ≤ rank h.phase =
      λ g. subst (λ k. rank g.phase ≤ rank k) (sym top) (rank-top g.phase) in
      elim ((l.union h.changeset).0 (changeset_from t h at)) [
        | inl x ↦ let g = held_from s h.changeset x in inl (of_first h g.0 at g.1 g.2 (high g.0))
        | inr x ↦ let g = held_from o h.changeset (in_other h.changeset x) in inr (of_other h g.0 at g.1 g.2 (high g.0))
      ]
  by h at (inr (inl old)) = let e = ap rank old.3 in inl (of_first h old.0 at old.1 old.2 (omega (arith, e)))
  by h at (inr (inr (b, p, reach, e))) =
      let bound = bound_from o b (subst (λ k. Contains k.bounds b) (sym (Contains-one (part_of o) p.0 p.1)) p.2) in
      let b_is : node_of bound.0.changeset ≡ b.0 = ap (λ x. x.0) bound.2 in
      let there = subst (GraphHolds (changesets o)) b_is
      (Holds-from (changesets o) bound.0.changeset (changeset_from o bound.0 bound.1)) in
      let back = Reaches-back (changesets o) (changesets t) w.graph l.graph other_within (node_of h.changeset) b.0 there
      reach in
      let d = Holds-changeset (changesets o) (node_of h.changeset) (Reaches-from back) in
      let d_is : d.0 ≡ h.changeset =
      same_changeset (changesets t) l.graph h.changeset d.0 (changeset_from t h at) (other_within d.0 d.1)
      (sym d.2) in
      let g = held_from o d.0 d.1 in
      let le = valid-reach o w (node_of h.changeset) b.0 back g.0 bound.0 g.1 bound.1 (ap node_of (g.2 ∙ d_is)) b_is in
      let k_is = ap (λ x. rank x.1) bound.2 in
      let phase_is = ap rank e in
      inr (of_other h g.0 at g.1 (g.2 ∙ d_is) (omega (arith, le, k_is, phase_is)))

  pub least-joined : IsJoin s o t
  least-joined =
      let above = join-least s o t l in
      record { first = above.0; second = above.1; each = λ h at. by h at (l.phases h at).0 }

-- ---- the other, taken in as a part

module _ (ocs : List Contents) (oks : List Phase) (olen : length oks ≡ length ocs) where
  abbrev o : State
  o = state_of ocs oks

  other_is : changesets (state_of ocs oks) ≡ ocs
  other_is = changesets-held_of ocs oks olen

  -- the other as a part
  pub part_is : ◌≡◌ {A = PartValue} (record { changesets = ocs; bounds = (part_of (state_of ocs oks)).bounds })
      (part_of (state_of ocs oks))
  part_is i = record { changesets = sym other_is i; bounds = (part_of (state_of ocs oks)).bounds }

  -- a bound of it is a node and its phase
  pub bound_at : (p : ℕ) (n : Node) (k : Phase) → slice_get (nodes ocs) p ≡ Some n → slice_get oks p ≡ Some k
      → slice_get (part_of (state_of ocs oks)).bounds p ≡ Some (n, k)
  bound_at p n k at_n at_k =
      let d = at-node ocs p n at_n in
      slice_get-map (λ h. (node_of h.changeset, h.phase)) (held_of ocs oks) p
      ∙ ap (option_map (λ h. (node_of h.changeset, h.phase))) (held-at ocs oks p d.0 k d.1 at_k)
      ∙ ap (λ m. Some (m, k)) d.2

  pub bounds_len : length (part_of (state_of ocs oks)).bounds ≡ length ocs
  bounds_len = length-map (held_of ocs oks) (λ h. (node_of h.changeset, h.phase))
      ∙ sym (length-map (held_of ocs oks) (λ h. h.changeset)) ∙ ap length other_is

  module _ (held : List Contents) (had : List Phase) where
    -- its nodes are held where its changesets were added
    pub bounds_held : (cs : List Contents) (ks : List Phase) → IsAdded held had ocs (length ocs) cs ks
        → AreHeldUpTo cs (part_of (state_of ocs oks)).bounds (length (part_of (state_of ocs oks)).bounds)
    bounds_held cs ks a j b l at =
        let h = bound_from o b (Contains-from_place (part_of o).bounds j b at) in
        let in_o : Contains ocs h.0.changeset =
        subst (λ ds. Contains ds h.0.changeset) other_is (changeset_from o h.0 h.1) in
        let whole : take (length ocs) ocs ≡ ocs = take_all (length ocs) ocs (omega arith) in
        let in_cs : Contains cs h.0.changeset =
        (a.same h.0.changeset).1
        (subst (λ xs. Contains (held ++ xs) h.0.changeset) (sym whole)
        (Contains-append_right held ocs h.0.changeset in_o)) in
        subst (GraphHolds cs) (ap (λ x. x.0) h.2) (Holds-from cs h.0.changeset in_cs)

    -- a fault is a collision, or want of memory
    pub fault_joined : length had ≡ length held → IsGraph ocs → (f : Fault) (ds : List Contents) (ls : List Phase)
        → AddAllAnswer held had ocs (Err f) ds ls → IsJoinFault (state_of held had) (state_of ocs oks) f
    fault_joined len graph (UnknownParent p) ds ls (i, c, at, a, h) =
        absurd (h.1 (Holds-same (take i ocs) (held ++ take i ocs) (λ d x. Contains-append_right held (take i ocs) d x) p
        (graph.parents_first i c at p h.0)))
    fault_joined len graph (Collision n) ds ls (i, c, at, a, h) =
        let d = h.1.0 in
        let in_o : Contains ocs c = Contains-from_place ocs i c at in
        let g = held_from o c (subst (λ xs. Contains xs c) (sym other_is) in_o) in
        elim (Contains-append_cases held (take i ocs) d h.1.1) [
          | inl x ↦
              let f = held_from (state_of held had) d
              (subst (λ xs. Contains xs d) (sym (changesets-held_of held had len)) x) in (
                f.0,
                g.0,
                f.1,
                g.1,
                ap node_of f.2 ∙ h.1.2 ∙ sym h.2,
                ap node_of g.2 ∙ sym h.2,
                λ e. h.1.3 (sym f.2 ∙ e ∙ g.2),
              )
          | inr x ↦
              let q = place_from_Contains (take i ocs) d x in
              absurd (h.1.3
              (same_changeset ocs graph c d in_o (Contains-from_place ocs q.0 d (get-take ocs i q.0 d q.1).1)
              (sym h.1.2)))
        ]
    fault_joined len graph (UnknownBound n) ds ls (i, c, at, a, h) = absurd h
    fault_joined len graph NullBound ds ls (i, c, at, a, h) = absurd h
    fault_joined len graph NoMemory ds ls h = tt

-- ---- loops

-- there is a changeset at each place
pub missing : (cs : List Contents) (p : ℕ) (r : Option (Bor Contents)) → p < length cs
    → option_copied r ≡ slice_get cs p → r ≡ None → ⊥
missing cs p r within e none =
    let d = slice_get_some cs p within in
    none-some d.0 (sym (ap option_copied none) ∙ e ∙ d.1)

-- The order of states, and the two forms of the least state.
use Rattle.std.proofs.Common.{◌≡◌, ◌≤◌, List, [], ◌∷◌, Contains, inl, inr, refl, sym, ap, subst, ◌∙◌, arith}
use Rattle.hg_changeset.specs.declared.node.Node.{Node}
use Rattle.hg_changeset.specs.Contents.{Contents}
use Rattle.hg_changeset.specs.Changeset.{node_of}
use Rattle.hg_graph.specs.Graph.{IsGraph, IsParent, nodes}
use Rattle.hg_graph.specs.Graph.Reaches.{itself, below}
use Rattle.hg_graph.proofs.GraphLemmas.{Contains-from_place, place_from_Contains, Holds-from, Holds-changeset}
use Rattle.hg_graph.proofs.MarkLemmas.{Holds-reached}
use Rattle.hg_phases.specs.declared.phase.Phase.{Phase}
use Rattle.hg_phases.specs.State.{State, Held, rank, changesets, Holds, Reaches, IsValid}
use Rattle.hg_phases.specs.Order.{Below, IsSameState}
use Rattle.hg_phases.specs.Least.{PartValue, Covers, IsAdmitted, IsCandidate, IsLeast, IsSmallest, IsLeastOneByOne}
pub use Rattle.hg_phases.proofs.RankLemmas.{rank-apart}
use Rattle.hg_phases.proofs.LeastLemmas.{rank-top, held_from, changeset_from, same_held, same_changeset, Holds-taken}
use Rattle.hg_phases.proofs.LeastLemmas.{Reaches-within, least-above, least-below, least-then}
use Rattle.hg_phases.proofs.LawLemmas.{least-covers, least-valid, least-unique, least-swap}

pub Below-itself : (s : State) → Below s s
Below-itself s h at = (h, at, refl, omega arith)

pub Below-then : (s t u : State) → Below s t → Below t u → Below s u
Below-then s t u first next h at =
    let g = first h at in
    let f = next g.0 g.1 in
    (f.0, f.1, f.2 ∙ g.2, omega (arith, f.3, g.3))

-- what is held is held above
pub changeset_above : (s t : State) → Below s t → (c : Contents) → Contains (changesets s) c → Contains (changesets t) c
changeset_above s t above c at =
    let h = held_from s c at in
    let g = above h.0 h.1 in
    subst (Contains (changesets t)) (g.2 ∙ h.2) (changeset_from t g.0 g.1)

-- below both ways, a changeset is held in the same phase
pub same_phase : (s t : State) → IsGraph (changesets t) → IsSameState s t → (g : Held) → Contains t.held g
    → (h : Held) × Contains s.held h × (h ≡ g)
same_phase s t graph same g at =
    let h = same.1 g at in
    let f = same.0 h.0 h.1 in
    let f_is : g ≡ f.0 = same_held t graph f.0 g f.1 at (ap node_of (f.2 ∙ h.2)) in
    let e = ap (λ x. rank x.phase) f_is in
    let phase_is : h.0.phase ≡ g.phase = rank-apart h.0.phase g.phase (omega (arith, e, h.3, f.3)) in
    (h.0, h.1, λ i. record { changeset = h.2 i; phase = phase_is i })

-- a state that is the same as the least one is the least one
pub least-along : (s : State) (ks : List PartValue) (t u : State) → IsGraph (changesets t) → IsLeast s ks u
    → IsSameState u t → IsLeast s ks t
least-along s ks t u graph l same = record {
  graph = graph;
  union = λ c. (
    λ at. (l.union c).0 (to_u c at),
    λ h. to_t c ((l.union c).1 h),
  );
  bounded = λ b is.
      let c = Holds-changeset (changesets u) b.0 (l.bounded b is) in
      subst (λ m. Contains (nodes (changesets t)) m) c.2 (Holds-from (changesets t) c.0 (to_t c.0 c.1));
  phases = λ g at.
      let h = same_phase u t graph same g at in
      let lowest_is = l.phases g (subst (Contains u.held) h.2 h.1) in (
        move u t to_t g.changeset g.phase lowest_is.0,
        λ j candidate. lowest_is.1 j (move t u to_u g.changeset j candidate),
      );
}
  where
    to_u : (c : Contents) → Contains (changesets t) c → Contains (changesets u) c
    to_u = changeset_above t u same.1

    to_t : (c : Contents) → Contains (changesets u) c → Contains (changesets t) c
    to_t = changeset_above u t same.0

    move : (v w : State) → ((c : Contents) → Contains (changesets v) c → Contains (changesets w) c)
        → (c : Contents) (k : Phase) → IsCandidate s ks v c k → IsCandidate s ks w c k
    move v w within c k (inl top) = inl top
    move v w within c k (inr (inl old)) = inr (inl old)
    move v w within c k (inr (inr b)) =
        inr (inr (b.0, b.1, Reaches-within (changesets v) (changesets w) within (node_of c) b.0.0 b.2, b.3))

-- the least state by the formula is the smallest that covers the parts
pub smallest-least : (s : State) (ks : List PartValue) (t : State) → IsValid s → IsLeast s ks t → IsSmallest s ks t
smallest-least s ks t valid l = record {
  valid = least-valid s ks t l valid;
  above = least-above s ks t l;
  covers = least-covers s ks t l;
  below_each = least-below s ks t l;
}

-- and, where there is one by the formula, the smallest is it
pub least-smallest : (s : State) (ks : List PartValue) (t u : State) → IsValid s → IsLeast s ks u → IsSmallest s ks t
    → IsLeast s ks t
least-smallest s ks t u valid l m =
    least-along s ks t u m.valid.graph l (
      least-below s ks u l t m.valid m.above m.covers,
      m.below_each u (least-valid s ks u l valid) (least-above s ks u l) (least-covers s ks u l),
    )

-- where the parts are covered the least state is the state itself
pub least-covered : (s : State) (ks : List PartValue) → IsValid s → ((k : PartValue) → Contains ks k → Covers s k)
    → IsLeast s ks s
least-covered s ks valid covers = record {
  graph = valid.graph;
  union = λ c. (λ at. inl at, λ h. elim h [ inl x ↦ x | inr p ↦ (covers p.0 p.1).holds c p.2 ]);
  bounded = λ b p. ((covers p.0 p.1).bounded b p.2).0;
  phases = λ g at. (
    inr (inl (g, at, refl, refl)),
    λ j candidate. elim candidate [
      | inl top ↦ subst (λ k. rank g.phase ≤ rank k) (sym top) (rank-top g.phase)
      | inr o ↦ elim o [
        | inl old ↦
            let same = same_held s valid.graph g old.0 at old.1 (ap node_of (sym old.2)) in
            let e = ap rank (sym (ap (λ x. x.phase) same) ∙ old.3) in
            omega (arith, e)
        | inr b ↦ subst (λ k. rank g.phase ≤ rank k) b.3 (((covers b.1.0 b.1.1).bounded b.0 b.1.2).1 g at b.2)
      ]
    ],
  );
}

-- an ancestor's phase is no higher
pub valid-reach : (v : State) → IsValid v → (a n : Node) → Reaches v a n → (g h : Held) → Contains v.held g
    → Contains v.held h → node_of g.changeset ≡ a → node_of h.changeset ≡ n → rank g.phase ≤ rank h.phase
valid-reach v valid a n (itself held) g h at_g at_h g_is h_is =
    let e = ap (λ x. rank x.phase) (same_held v valid.graph g h at_g at_h (g_is ∙ sym h_is)) in
    omega (arith, e)
valid-reach v valid a n (below {c = c} {p = p} r is at e) g h at_g at_h g_is h_is =
    let same : h.changeset ≡ c =
    same_changeset (changesets v) valid.graph c h.changeset at (changeset_from v h at_h) (e ∙ sym h_is) in
    let d = Holds-changeset (changesets v) p (Holds-reached (changesets v) r) in
    let up = held_from v d.0 d.1 in
    let up_is : node_of up.0.changeset ≡ p = ap node_of up.2 ∙ d.2 in
    let step = valid.phases h up.0 at_h up.1
    (subst (λ m. IsParent h.changeset m) (sym up_is) (subst (λ x. IsParent x p) (sym same) is)) in
    let rest = valid-reach v valid a p r g up.0 at_g up.1 g_is up_is in
    omega (arith, step, rest)

-- a part that is covered is admitted
pub admitted-covered : (s : State) (k : PartValue) → IsValid s → Covers s k → IsAdmitted s k
admitted-covered s k valid covers = record {
  parents = λ i c at p is.
      let place = place_from_Contains (changesets s) c (covers.holds c (Contains-from_place k.changesets i c at)) in
      inl (Holds-taken (changesets s) place.0 p (valid.graph.parents_first place.0 c place.1 p is));
  bounds = λ b at. inl (covers.bounded b at).0;
  apart = λ c d at_c at_d e. same_changeset (changesets s) valid.graph d c
      (elim at_d [ inl x ↦ x | inr x ↦ covers.holds d x ]) (covers.holds c at_c) (sym e);
}

-- and is covered in each valid state above
pub covered_above : (s t : State) (k : PartValue) → IsValid t → Covers s k → Below s t → Covers t k
covered_above s t k valid covers above = record {
  holds = λ c at. changeset_above s t above c (covers.holds c at);
  bounded = λ b at.
      let held = (covers.bounded b at).0 in
      let c = Holds-changeset (changesets s) b.0 held in
      let h = held_from s c.0 c.1 in
      let h_is : node_of h.0.changeset ≡ b.0 = ap node_of h.2 ∙ c.2 in
      let low = (covers.bounded b at).1 h.0 h.1 (subst (λ n. Reaches s n b.0) (sym h_is) (itself held)) in
      let g = above h.0 h.1 in
      let g_is : node_of g.0.changeset ≡ b.0 = ap node_of g.2 ∙ h_is in (
        subst (Holds t) g_is (Holds-from (changesets t) g.0.changeset (changeset_from t g.0 g.1)),
        λ x at_x reach. let le = valid-reach t valid (node_of x.changeset) b.0 reach x g.0 at_x g.1 refl g_is in
            omega (arith, le, g.3, low),
      );
}

pub least-none : (s : State) → IsValid s → IsLeast s [] s
least-none s valid = least-covered s [] valid (λ k at. absurd (omega (arith, at.1)))

-- one part after another, and the other way round
pub least-either : (s t u v w : State) (k l : PartValue) → IsValid s → IsLeast s (k ∷ []) t → IsLeast t (l ∷ []) u
    → IsLeast s (l ∷ []) v → IsLeast v (k ∷ []) w → IsSameState u w
least-either s t u v w k l valid first next other last =
    least-unique s (k ∷ l ∷ []) u w valid
    (least-then s (k ∷ []) (l ∷ []) t u first next)
    (least-swap s (l ∷ []) (k ∷ []) w (least-then s (l ∷ []) (k ∷ []) v w other last))

-- one by one they lead to the least state for the list
pub least-one_by_one : (s : State) (ks : List PartValue) (t : State) → IsValid s → IsLeastOneByOne s ks t
    → IsLeast s ks t
least-one_by_one s [] t valid e = subst (IsLeast s []) (sym e) (least-none s valid)
least-one_by_one s (k ∷ ks) t valid h =
    least-then s (k ∷ []) ks h.0 t h.1 (least-one_by_one h.0 ks t (least-valid s (k ∷ []) h.0 h.1 valid) h.2)

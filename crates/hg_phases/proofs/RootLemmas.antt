-- Roots, and the phases that follow from them.
use Rattle.std.proofs.Common.{◌≡◌, ℕ, zero, suc, ◌<◌, ◌≤◌, List, [], ◌∷◌, length, map, take, slice_get, Some, Contains}
use Rattle.std.proofs.Common.{◌↔◌, inl, inr, refl, sym, ap, subst, ◌∙◌, arith}
use Rattle.std.specs.Option.{option_map}
use Rattle.std.proofs.lemmas.Bool.{cases_lt}
use Rattle.std.proofs.lemmas.Option.{none-some, same_Some, slice_get-map}
use Rattle.hg_changeset.specs.declared.node.Node.{Node}
use Rattle.hg_changeset.specs.Contents.{Contents}
use Rattle.hg_changeset.specs.Changeset.{node_of}
use Rattle.hg_changeset.proofs.ListLemmas.{Contains-first, Contains-cons_cases, Contains-later}
use Rattle.hg_graph.specs.Graph.{IsGraph, IsParent, Reaches}
use Rattle.hg_graph.specs.Graph.Reaches.{itself, below}
use Rattle.hg_graph.proofs.GraphLemmas.{Contains-from_place, place_from_Contains, Holds-from, Holds-changeset, get-take}
use Rattle.hg_phases.specs.declared.phase.Phase.{Phase}
use Rattle.hg_phases.specs.State.{State, Held, rank, changesets, IsValid}
use Rattle.hg_phases.specs.Roots.{IsRoot, AreRootsAmong, AreRoots, AreSameRoots, IsRootPhase, IsOpened, root_of}
use Rattle.hg_phases.proofs.RankLemmas.{rank-apart}
use Rattle.hg_phases.proofs.LeastLemmas.{changeset_from, same_held}
use Rattle.hg_phases.proofs.FormLemmas.{valid-reach}

-- ---- the roots of a state

root_from : (s : State) (hs : List Held) (roots : List (Phase × Node)) → AreRootsAmong s hs roots → (r : Phase × Node)
    → Contains roots r → (h : Held) × Contains hs h × IsRoot s h × (root_of h ≡ r)
root_from s [] roots none r at = let l : at.0 < length roots = at.1 in absurd (omega (arith, l, ap length none))
root_from s (h ∷ hs) roots (inl is) r at =
    elim (Contains-cons_cases (root_of h) is.1 r (subst (λ rs. Contains rs r) is.2 at)) [
      | inl e ↦ (h, Contains-first h hs, is.0, e)
      | inr more ↦ let rest = root_from s hs is.1 is.3 r more in
          (rest.0, Contains-later h hs rest.0 rest.1, rest.2, rest.3)
    ]
root_from s (h ∷ hs) roots (inr isnt) r at = let rest = root_from s hs roots isnt.1 r at in
    (rest.0, Contains-later h hs rest.0 rest.1, rest.2, rest.3)

root_listed : (s : State) (hs : List Held) (roots : List (Phase × Node)) → AreRootsAmong s hs roots → (h : Held)
    → Contains hs h → IsRoot s h → Contains roots (root_of h)
root_listed s [] roots none h at is = absurd (omega (arith, at.1))
root_listed s (g ∷ hs) roots (inl its) h at is =
    subst (λ rs. Contains rs (root_of h)) (sym its.2) (elim (Contains-cons_cases g hs h at) [
      | inl e ↦ subst (λ x. Contains (root_of g ∷ its.1) (root_of x)) e (Contains-first (root_of g) its.1)
      | inr more ↦ Contains-later (root_of g) its.1 (root_of h) (root_listed s hs its.1 its.3 h more is)
    ])
root_listed s (g ∷ hs) roots (inr isnt) h at is = elim (Contains-cons_cases g hs h at) [
  | inl e ↦ absurd (isnt.0 (subst (IsRoot s) (sym e) is))
  | inr more ↦ root_listed s hs roots isnt.1 h more is
]

pub roots_are : (s : State) (roots : List (Phase × Node)) → AreRoots s roots → (r : Phase × Node)
    → Contains roots r ↔ ((h : Held) × Contains s.held h × IsRoot s h × (root_of h ≡ r))
roots_are s roots are r = (
  λ at. root_from s s.held roots are r at,
  λ h. subst (Contains roots) h.3 (root_listed s s.held roots are h.0 h.1 h.2),
)

-- ---- what listed roots give

module _ (cs : List Contents) (roots : List (Phase × Node)) (s : State) (opened : IsOpened cs roots s) where
  -- a parent's phase is no higher
  opened-parent : (child parent : Held) → Contains s.held child → Contains s.held parent
      → IsParent child.changeset (node_of parent.changeset) → rank parent.phase ≤ rank child.phase
  opened-parent child parent at_child at_parent is = by (opened.phases parent at_parent).0
    where
      by : IsRootPhase cs roots (node_of parent.changeset) parent.phase → rank parent.phase ≤ rank child.phase
      by (inl e) = let z = ap rank e in omega (arith, z)
      by (inr r) = (opened.phases child at_child).1 parent.phase
          (inr (
            r.0,
            r.1,
            below r.2 is (subst (λ ds. Contains ds child.changeset) opened.held (changeset_from s child at_child))
                refl,
            r.3,
          ))

  pub opened-valid : IsGraph cs → IsValid s
  opened-valid graph = record { graph = subst IsGraph (sym opened.held) graph; phases = opened-parent }

-- ---- back again

at_place : (hs : List Held) (j : ℕ) (c : Contents) → slice_get (map (λ h. h.changeset) hs) j ≡ Some c
    → (h : Held) × (slice_get hs j ≡ Some h) × (h.changeset ≡ c)
at_place [] j c at = absurd (none-some c at)
at_place (h ∷ hs) zero c at = (h, refl, same_Some h.changeset c at)
at_place (h ∷ hs) (suc j) c at = at_place hs j c at

changeset_at : (s : State) (j : ℕ) (h : Held) → slice_get s.held j ≡ Some h
    → slice_get (changesets s) j ≡ Some h.changeset
changeset_at s j h at = slice_get-map (λ g. g.changeset) s.held j ∙ ap (option_map (λ g. g.changeset)) at

parent_before : (s : State) → IsValid s → (i : ℕ) (h p : Held) → slice_get s.held i ≡ Some h → Contains s.held p
    → IsParent h.changeset (node_of p.changeset) → (j : ℕ) × (j < i) × (slice_get s.held j ≡ Some p)
parent_before s valid i h p at at_p is =
    let c = Holds-changeset (take i (changesets s)) (node_of p.changeset)
    (valid.graph.parents_first i h.changeset (changeset_at s i h at) (node_of p.changeset) is) in
    let place = place_from_Contains (take i (changesets s)) c.0 c.1 in
    let front = get-take (changesets s) i place.0 c.0 place.1 in
    let x = at_place s.held place.0 c.0 front.1 in
    let same : x.0 ≡ p =
    same_held s valid.graph p x.0 at_p (Contains-from_place s.held place.0 x.0 x.1) (sym (ap node_of x.2 ∙ c.2)) in
    (place.0, front.0, x.1 ∙ ap (λ y. Some y) same)

same_list : (gs hs : List Held) → map (λ h. h.changeset) gs ≡ map (λ h. h.changeset) hs
    → ((i : ℕ) (g h : Held) → slice_get gs i ≡ Some g → slice_get hs i ≡ Some h → g.phase ≡ h.phase) → gs ≡ hs
same_list [] [] e each = refl
same_list [] (h ∷ hs) e each = absurd (omega (arith, ap length e))
same_list (g ∷ gs) [] e each = absurd (omega (arith, ap length e))
same_list (g ∷ gs) (h ∷ hs) e each =
    let first : g.changeset ≡ h.changeset = cc in
    let others : map (λ x. x.changeset) gs ≡ map (λ x. x.changeset) hs = cc in
    let rest = same_list gs hs others (λ i. each (suc i)) in
    let phase = each zero g h refl refl in
    λ t. record { changeset = first t; phase = phase t } ∷ rest t

facing : (s t : State) → changesets t ≡ changesets s → (i : ℕ) (h : Held) → slice_get s.held i ≡ Some h
    → (g : Held) × (slice_get t.held i ≡ Some g) × (g.changeset ≡ h.changeset)
facing s t same i h at = at_place t.held i h.changeset (ap (λ cs. slice_get cs i) same ∙ changeset_at s i h at)

-- where no root has a lower phase in t, nothing has
module _ (s t : State) (valid : IsValid s) (same : changesets t ≡ changesets s)
    (rises : (child parent : Held) → Contains t.held child → Contains t.held parent
    → IsParent child.changeset (node_of parent.changeset) → rank parent.phase ≤ rank child.phase)
    (gives : (h g : Held) → Contains s.held h → Contains t.held g → g.changeset ≡ h.changeset → IsRoot s h
    → rank h.phase ≤ rank g.phase) where
  no_lower : (n i : ℕ) → i < n → (g h : Held) → slice_get t.held i ≡ Some g → slice_get s.held i ≡ Some h
      → g.changeset ≡ h.changeset → rank h.phase ≤ rank g.phase
  no_lower zero i l g h at_g at_h e = absurd (omega arith)
  no_lower (suc n) i l g h at_g at_h e = elim (cases_lt (rank g.phase) (rank h.phase)) [
    | inl lower ↦
        let in_t = Contains-from_place t.held i g at_g in
        let root : IsRoot s h = record {
          not_public = λ z. let k = ap rank z in omega (arith, lower, k);
          begins = λ p at_p is same_phase.
              let j = parent_before s valid i h p at_h at_p is in
              let up = facing s t same j.0 p j.2 in
              let first = no_lower n j.0 (omega (arith, j.1)) up.0 p up.1 j.2 up.2 in
              let then = rises g up.0 in_t (Contains-from_place t.held j.0 up.0 up.1)
              (subst (λ c. IsParent c (node_of up.0.changeset)) (sym e)
              (subst (λ c. IsParent h.changeset (node_of c)) (sym up.2) is)) in
              let k = ap rank same_phase in
              omega (arith, first, then, k, lower);
        } in
        let le = gives h g (Contains-from_place s.held i h at_h) in_t e root in
        absurd (omega (arith, le, lower))
    | inr enough ↦ enough
  ]

module _ (s t : State) (roots listed : List (Phase × Node)) (valid : IsValid s) (are : AreRoots s roots)
    (same : AreSameRoots listed roots) (opened : IsOpened (changesets s) listed t) where
  -- no listed root gives a higher phase than the state has
  no_higher : (i : ℕ) (g h : Held) → slice_get t.held i ≡ Some g → slice_get s.held i ≡ Some h
      → g.changeset ≡ h.changeset → rank g.phase ≤ rank h.phase
  no_higher i g h at_g at_h e = by (opened.phases g (Contains-from_place t.held i g at_g)).0
    where
      by : IsRootPhase (changesets s) listed (node_of g.changeset) g.phase → rank g.phase ≤ rank h.phase
      by (inl z) = let k = ap rank z in omega (arith, k)
      by (inr r) =
          let x = (roots_are s roots are r.0).0 ((same r.0).0 r.1) in
          let le = valid-reach s valid r.0.1 (node_of g.changeset) r.2 x.0 h x.1 (Contains-from_place s.held i h at_h)
          (ap (λ y. y.1) x.3) (ap node_of (sym e)) in
          let k = ap (λ y. rank y.0) x.3 in
          let l = ap rank r.3 in
          omega (arith, le, k, l)

  -- and each listed root gives its phase
  gives_root : (h g : Held) → Contains s.held h → Contains t.held g → g.changeset ≡ h.changeset → IsRoot s h
      → rank h.phase ≤ rank g.phase
  gives_root h g in_s in_t e root =
      let at_listed = (same (root_of h)).1 (root_listed s s.held roots are h in_s root) in
      let held = Holds-from (changesets s) h.changeset (changeset_from s h in_s) in
      (opened.phases g in_t).1 h.phase
      (inr (
        root_of h,
        at_listed,
        subst (λ c. Reaches (changesets s) (node_of h.changeset) (node_of c)) (sym e) (itself held),
        refl,
      ))

  pub opened-again : t ≡ s
  opened-again =
      let all = same_list t.held s.held opened.held (λ i g h at_g at_h.
      let up = facing s t opened.held i h at_h in
      let e : g.changeset ≡ h.changeset = ap (λ x. x.changeset) (same_Some g up.0 (sym at_g ∙ up.1)) ∙ up.2 in
      let a = no_higher i g h at_g at_h e in
      let b = no_lower s t valid opened.held (opened-parent (changesets s) listed t opened) gives_root (suc i) i
      (omega arith) g h at_g at_h e in
      rank-apart g.phase h.phase (omega (arith, a, b))) in
      λ i. record { held = all i }

-- ---- two states with the same roots

-- a root of s that t has as well
root_in_both : (s t : State) (roots listed : List (Phase × Node)) → AreRoots s roots → AreRoots t listed
    → AreSameRoots roots listed → IsValid t
    → (h g : Held) → Contains s.held h → Contains t.held g → g.changeset ≡ h.changeset → IsRoot s h
    → rank h.phase ≤ rank g.phase
root_in_both s t roots listed are are_t same valid h g in_s in_t e root =
    let x = (roots_are t listed are_t (root_of h)).0
    ((same (root_of h)).0 (root_listed s s.held roots are h in_s root)) in
    let is : x.0 ≡ g = same_held t valid.graph g x.0 in_t x.1 (ap node_of e ∙ sym (ap (λ r. r.1) x.3)) in
    let k = ap (λ y. rank y.phase) is in
    let l = ap (λ r. rank r.0) x.3 in
    omega (arith, k, l)

pub same-roots : (s t : State) (roots listed : List (Phase × Node)) → IsValid s → IsValid t
    → changesets t ≡ changesets s → AreRoots s roots → AreRoots t listed → AreSameRoots roots listed → t ≡ s
same-roots s t roots listed valid_s valid_t held are_s are_t same =
    let all = same_list t.held s.held held (λ i g h at_g at_h.
    let up = facing s t held i h at_h in
    let e : g.changeset ≡ h.changeset = ap (λ x. x.changeset) (same_Some g up.0 (sym at_g ∙ up.1)) ∙ up.2 in
    let back : AreSameRoots listed roots = λ r. ((same r).1, (same r).0) in
    let a = no_lower t s valid_t (sym held) valid_s.phases (root_in_both t s listed roots are_t are_s back valid_s)
    (suc i) i (omega arith) h g at_h at_g (sym e) in
    let b = no_lower s t valid_s held valid_t.phases (root_in_both s t roots listed are_s are_t same valid_t) (suc i) i
    (omega arith) g h at_g at_h e in
    rank-apart g.phase h.phase (omega (arith, a, b))) in
    λ i. record { held = all i }

-- What a kept list says, its content says, and the other way round.
use Rattle.std.proofs.Common.{◌≡◌, ℕ, zero, suc, ◌<◌, [], ◌∷◌, take, slice_get, Some, Result, Ok, Err}
use Rattle.std.proofs.Common.{OnOk, Contains, ◌↔◌, ◌⊎◌, inl, inr, refl, sym, ap, subst, ◌∙◌, arith}
use Rattle.hg_changeset.specs.declared.node.Node.{Node}
use Rattle.hg_changeset.specs.Contents.{Contents}
use Rattle.hg_changeset.specs.Changeset.{node_of, IsChangeset}
use Rattle.hg_changeset.proofs.ListLemmas.{Contains-one}
use Rattle.hg_graph.specs.Graph.{nodes, IsGraph, IsParent}
use Rattle.hg_graph.specs.Graph.Reaches.{itself as reaches_itself, below as reaches_below}
use Rattle.hg_graph.proofs.GraphLemmas.{Contains-from_place, place_from_Contains, Holds-from, Holds-changeset}
use Rattle.hg_graph.proofs.MarkLemmas.{get-take}
use Rattle.hg_phases.specs.declared.phase.Phase.{Phase}
use Rattle.hg_phases.specs.State.{State, Held, changesets, Holds, Reaches, IsValid}
use Rattle.hg_phases.specs.Order.{Below}
use Rattle.hg_phases.specs.Least.{PartValue, Covers, IsAdmitted, IsBoundOfOne, IsChangesetOfOne, IsCandidate, IsLeast}
use Rattle.hg_phases.proofs.LeastLemmas.{held_from, changeset_from, same_changeset, Holds-taken}
use Rattle.hg_history.specs.declared.fault.Fault.{Fault}
use Rattle.hg_history.specs.Answer.{IsFirstFault}
use Rattle.hg_phases.specs.Content.{content_of}
use Rattle.hg_phases.proofs.ContentLemmas.{held_in_content, content-held}
use Rattle.hg_history.specs.Content.{IsHeld, IsHeldAs, Leads, IsGrounded, IsValidContent, ContentBelow, ContentCovers}
use Rattle.hg_history.specs.Content.{ContentAdmits, IsContentCandidate, ContentAfter, IsListing, IsContentFault}
use Rattle.hg_history.specs.Content.Leads.{itself, below}
use Rattle.hg_history.specs.Content.IsGrounded.{grounded}
use Rattle.hg_history.proofs.FaultLemmas.{same_fault}

module _ (s : State) (graph : IsGraph (changesets s)) where
  pub content-changeset : (n : Node) (c : Contents) → Contains (changesets s) c → node_of c ≡ n
      → IsHeldAs (content_of s) n c
  content-changeset n c at e =
      let h = held_from s c at in
      (h.0, content-held s graph n h.0 h.1 (ap node_of h.2 ∙ e), h.2)

  pub changeset_in_content : (n : Node) (c : Contents) → IsHeldAs (content_of s) n c
      → Contains (changesets s) c × (node_of c ≡ n)
  changeset_in_content n c x =
      let h = held_in_content s n x.0 x.1 in
      (subst (Contains (changesets s)) x.2 (changeset_from s x.0 h.0), subst (λ d. node_of d ≡ n) x.2 h.1)

  pub content-node : (n : Node) → Holds s n → IsHeld (content_of s) n
  content-node n h =
      let c = Holds-changeset (changesets s) n h in
      let x = content-changeset n c.0 c.1 c.2 in
      (x.0, x.1)

  pub node_in_content : (n : Node) → IsHeld (content_of s) n → Holds s n
  node_in_content n x =
      let h = held_in_content s n x.0 x.1 in
      subst (λ m. Contains (nodes (changesets s)) m) h.1
      (Holds-from (changesets s) x.0.changeset (changeset_from s x.0 h.0))

  -- in a graph the parent of a changeset that is held is held
  parent-held : (c : Contents) (p : Node) → Contains (changesets s) c → IsParent c p → Holds s p
  parent-held c p at is =
      let place = place_from_Contains (changesets s) c at in
      Holds-taken (changesets s) place.0 p (graph.parents_first place.0 c place.1 p is)

  pub leads_from_reach : (a n : Node) → Reaches s a n → Leads (content_of s) a n
  leads_from_reach a n (reaches_itself h) = itself
  leads_from_reach a n (reaches_below {c = c} {p = p} r is at e) =
      let h = content-changeset n c at e in
      below (leads_from_reach a p r) h.1 (subst (λ d. IsParent d p) (sym h.2) is)

  pub reach_from_leads : (a n : Node) → Holds s n → Leads (content_of s) a n → Reaches s a n
  reach_from_leads a n held itself = reaches_itself held
  reach_from_leads a n held (below {p = p} {h = h} r e is) =
      let f = held_in_content s n h e in
      let at = changeset_from s h f.0 in
      reaches_below (reach_from_leads a p (parent-held h.changeset p at is) r) is at f.1

  -- the changesets before a place are grounded, each in those before it
  place-grounded : (bound i : ℕ) (c : Contents) → i < bound → slice_get (changesets s) i ≡ Some c
      → IsGrounded (content_of s) (node_of c)
  place-grounded zero i c lt at = absurd (omega arith)
  place-grounded (suc bound) i c lt at = grounded (λ h p e is.
      let f = held_in_content s (node_of c) h e in
      let same = same_changeset (changesets s) graph c h.changeset (Contains-from_place (changesets s) i c at)
      (changeset_from s h f.0) (sym f.1) in
      let d = Holds-changeset (take i (changesets s)) p
      (graph.parents_first i c at p (subst (λ x. IsParent x p) same is)) in
      let place = place_from_Contains (take i (changesets s)) d.0 d.1 in
      let at_d = get-take (changesets s) i place.0 d.0 place.1 in
      let earlier : place.0 < bound = omega (arith, at_d.0) in
      subst (IsGrounded (content_of s)) d.2 (place-grounded bound place.0 d.0 earlier at_d.1))

  pub content-grounded : (n : Node) → IsGrounded (content_of s) n
  content-grounded n = grounded (λ h p e is.
      let f = held_in_content s n h e in
      let d = Holds-changeset (changesets s) p (parent-held h.changeset p (changeset_from s h f.0) is) in
      let place = place_from_Contains (changesets s) d.0 d.1 in
      let last : place.0 < suc place.0 = omega arith in
      subst (IsGrounded (content_of s)) d.2 (place-grounded (suc place.0) place.0 d.0 last place.1))

  pub content_listing : IsListing (content_of s) (changesets s)
  content_listing c = (λ at. content-changeset (node_of c) c at refl, λ x. (changeset_in_content (node_of c) c x).0)

-- the content of a valid state is valid
pub content-valid : (s : State) → IsValid s → IsValidContent (content_of s)
content-valid s valid = record {
  named = λ n h e. let f = held_in_content s n h e in (f.1, valid.graph.each h.changeset (changeset_from s h f.0));
  parents = λ n h p e is.
      let f = held_in_content s n h e in
      let g = content-node s valid.graph p (parent-held s valid.graph h.changeset p (changeset_from s h f.0) is) in
      let up = held_in_content s p g.0 g.1 in
      (g.0, g.1, valid.phases h g.0 f.0 up.0 (subst (IsParent h.changeset) (sym up.1) is));
  grounded = content-grounded s valid.graph;
}

-- below is below
pub content-below : (s t : State) → IsGraph (changesets t) → Below s t → ContentBelow (content_of s) (content_of t)
content-below s t graph up n h e =
    let f = held_in_content s n h e in
    let g = up h f.0 in
    (g.0, content-held t graph n g.0 g.1 (ap node_of g.2 ∙ f.1), g.2, g.3)

pub below_from_content : (s t : State) → IsGraph (changesets s) → ContentBelow (content_of s) (content_of t) → Below s t
below_from_content s t graph up h at =
    let n = node_of h.changeset in
    let g = up n h (content-held s graph n h at refl) in
    (g.0, (held_in_content t n g.0 g.1).0, g.2, g.3)

-- to cover is to cover
pub content-covers : (s : State) (k : PartValue) → IsGraph (changesets s) → Covers s k → ContentCovers (content_of s) k
content-covers s k graph covers = record {
  holds = λ c at. content-changeset s graph (node_of c) c (covers.holds c at) refl;
  bounded = λ b at.
      let held = covers.bounded b at in (
        content-node s graph b.0 held.0,
        λ n h e leads.
            let f = held_in_content s n h e in
            held.1 h f.0 (subst (λ m. Reaches s m b.0) (sym f.1) (reach_from_leads s graph n b.0 held.0 leads)),
      );
}

pub covers_from_content : (s : State) (k : PartValue) → IsGraph (changesets s) → ContentCovers (content_of s) k
    → Covers s k
covers_from_content s k graph covers = record {
  holds = λ c at. (changeset_in_content s graph (node_of c) c (covers.holds c at)).0;
  bounded = λ b at.
      let held = covers.bounded b at in (
        node_in_content s graph b.0 held.0,
        λ h at_h reach.
            let n = node_of h.changeset in
            held.1 n h (content-held s graph n h at_h refl) (leads_from_reach s graph n b.0 reach),
      );
}

-- to admit is to admit
pub content-admits : (s : State) (k : PartValue) → IsGraph (changesets s)
    → ((c : Contents) → Contains k.changesets c → IsChangeset c) → IsAdmitted s k → ContentAdmits (content_of s) k
content-admits s k graph each admitted = record {
  each = each;
  parents = λ i c at p is. elim (admitted.parents i c at p is)
      [ inl x ↦ inl (content-node s graph p x) | inr x ↦ inr (Holds-changeset (take i k.changesets) p x) ];
  bounds = λ b at. elim (admitted.bounds b at)
      [ inl x ↦ inl (content-node s graph b.0 x) | inr x ↦ inr (Holds-changeset k.changesets b.0 x) ];
  apart = λ c d at other e. admitted.apart c d at
      (elim other [ inl x ↦ inl (changeset_in_content s graph (node_of d) d x).0 | inr x ↦ inr x ]) e;
}

pub admits_from_content : (s : State) (k : PartValue) → IsGraph (changesets s) → ContentAdmits (content_of s) k
    → IsAdmitted s k
admits_from_content s k graph admitted = record {
  parents = λ i c at p is. elim (admitted.parents i c at p is) [
    | inl x ↦ inl (node_in_content s graph p x)
    | inr x ↦ inr
        (subst (λ n. Contains (nodes (take i k.changesets)) n) x.2 (Holds-from (take i k.changesets) x.0 x.1))
  ];
  bounds = λ b at. elim (admitted.bounds b at) [
    | inl x ↦ inl (node_in_content s graph b.0 x)
    | inr x ↦ inr
        (subst (λ n. Contains (nodes k.changesets) n) x.2 (Holds-from k.changesets x.0 x.1))
  ];
  apart = λ c d at other e. admitted.apart c d at
      (elim other [ inl x ↦ inl (content-changeset s graph (node_of d) d x refl) | inr x ↦ inr x ]) e;
}

-- a first fault is one
pub content-fault : (s : State) (k : PartValue) (fault : Fault) → IsGraph (changesets s)
    → IsFirstFault (changesets s) k fault → IsContentFault (content_of s) k fault
content-fault s k fault graph h = (changesets s, content_listing s graph, h)

pub fault_from_content : (s : State) (k : PartValue) (fault : Fault) → IsGraph (changesets s)
    → IsContentFault (content_of s) k fault → IsFirstFault (changesets s) k fault
fault_from_content s k fault graph (held, listing, is) =
    same_fault held (changesets s) (λ c. (
      λ at. (content_listing s graph c).1 ((listing c).0 at),
      λ at. (listing c).1 ((content_listing s graph c).0 at),
    )) k fault is

-- the least state is the content after the part
module _ (s t : State) (k : PartValue) (valid : IsValid s) (large : IsGraph (changesets t)) where
  module _ (l : IsLeast s (k ∷ []) t) where
    part-changeset : (c : Contents) → Contains k.changesets c → Contains (changesets t) c
    part-changeset c at = (l.union c).1 (inr (k, (0, omega arith, refl), at))

    -- what the state held under an id it still does
    same-then : (n : Node) (h old : Held) → content_of t n ≡ Some h → content_of s n ≡ Some old
        → old.changeset ≡ h.changeset
    same-then n h old e at =
        let f = held_in_content t n h e in
        let g = held_in_content s n old at in
        same_changeset (changesets t) large h.changeset old.changeset (changeset_from t h f.0)
        ((l.union old.changeset).1 (inl (changeset_from s old g.0))) (f.1 ∙ sym g.1)

    candidate-there : (n : Node) (h : Held) (phase : Phase) → content_of t n ≡ Some h
        → IsCandidate s (k ∷ []) t h.changeset phase → IsContentCandidate (content_of s) k (content_of t) n phase
    candidate-there n h phase e (inl top) = inl top
    candidate-there n h phase e (inr (inl old)) =
        let f = held_in_content t n h e in
        inr (inl (old.0, content-held s valid.graph n old.0 old.1 (ap node_of old.2 ∙ f.1), old.3))
    candidate-there n h phase e (inr (inr b)) =
        let f = held_in_content t n h e in
        let within = subst (λ x. Contains x.bounds b.0) (sym (Contains-one k b.1.0 b.1.1)) b.1.2 in
        inr (inr (b.0, within, leads_from_reach t large n b.0.0 (subst (λ m. Reaches t m b.0.0) f.1 b.2), b.3))

    candidate-back : (n : Node) (h : Held) (phase : Phase) → content_of t n ≡ Some h
        → IsContentCandidate (content_of s) k (content_of t) n phase → IsCandidate s (k ∷ []) t h.changeset phase
    candidate-back n h phase e (inl top) = inl top
    candidate-back n h phase e (inr (inl old)) =
        let f = held_in_content s n old.0 old.1 in
        inr (inl (old.0, f.0, same-then n h old.0 e old.1, old.2))
    candidate-back n h phase e (inr (inr b)) =
        let f = held_in_content t n h e in
        let one : IsBoundOfOne (k ∷ []) b.0 = (k, (0, omega arith, refl), b.1) in
        inr (inr (
          b.0,
          one,
          subst (λ m. Reaches t m b.0.0) (sym f.1) (reach_from_leads t large n b.0.0 (l.bounded b.0 one) b.2),
          b.3,
        ))

    pub content-after : IsAdmitted s k → ContentAfter (content_of s) k (content_of t)
    content-after admitted = record {
      admitted = content-admits s k valid.graph (λ c at. large.each c (part-changeset c at)) admitted;
      union = λ n c. (
        λ x.
            let f = changeset_in_content t large n c x in
            elim ((l.union c).0 f.0) [
              | inl old ↦ inl (content-changeset s valid.graph n c old f.1)
              | inr new ↦ inr (subst (λ y. Contains y.changesets c) (sym (Contains-one k new.0 new.1)) new.2, f.1)
            ],
        λ h. elim h [
          | inl old ↦ let f = changeset_in_content s valid.graph n c old in
              content-changeset t large n c ((l.union c).1 (inl f.0)) f.1
          | inr new ↦ content-changeset t large n c (part-changeset c new.0) new.1
        ],
      );
      phases = λ n h e.
          let f = held_in_content t n h e in
          let lowest = l.phases h f.0 in
          (candidate-there n h h.phase e lowest.0, λ j candidate. lowest.1 j (candidate-back n h j e candidate));
    }

  -- and where it is, the state is the least
  module _ (after : ContentAfter (content_of s) k (content_of t)) where
    least-union : (c : Contents) → Contains (changesets t) c ↔ (Contains (changesets s) c ⊎ IsChangesetOfOne (k ∷ []) c)
    least-union c = (
      λ at. elim ((after.union (node_of c) c).0 (content-changeset t large (node_of c) c at refl)) [
        | inl old ↦ inl (changeset_in_content s valid.graph (node_of c) c old).0
        | inr new ↦ inr (k, (0, omega arith, refl), new.0)
      ],
      λ h. elim h [
        | inl old ↦ (changeset_in_content t large (node_of c) c
            ((after.union (node_of c) c).1 (inl (content-changeset s valid.graph (node_of c) c old refl)))).0
        | inr new ↦ (changeset_in_content t large (node_of c) c
            ((after.union (node_of c) c).1
            (inr (subst (λ y. Contains y.changesets c) (sym (Contains-one k new.0 new.1)) new.2, refl)))).0
      ],
    )

    least-bounded : (b : Node × Phase) → IsBoundOfOne (k ∷ []) b → Holds t b.0
    least-bounded b one =
        let at = subst (λ x. Contains x.bounds b) (sym (Contains-one k one.0 one.1)) one.2 in
        elim (after.admitted.bounds b at) [
          | inl held ↦
              let x = (after.union b.0 held.0.changeset).1 (inl (held.0, held.1, refl)) in
              node_in_content t large b.0 (x.0, x.1)
          | inr new ↦
              let x = (after.union b.0 new.0).1 (inr (new.1, new.2)) in
              node_in_content t large b.0 (x.0, x.1)
        ]

    forth : (h : Held) (phase : Phase) → Contains t.held h → IsCandidate s (k ∷ []) t h.changeset phase
        → IsContentCandidate (content_of s) k (content_of t) (node_of h.changeset) phase
    forth h phase at (inl top) = inl top
    forth h phase at (inr (inl old)) =
        inr (inl (old.0, content-held s valid.graph (node_of h.changeset) old.0 old.1 (ap node_of old.2), old.3))
    forth h phase at (inr (inr b)) =
        let within = subst (λ x. Contains x.bounds b.0) (sym (Contains-one k b.1.0 b.1.1)) b.1.2 in
        inr (inr (b.0, within, leads_from_reach t large (node_of h.changeset) b.0.0 b.2, b.3))

    back : (h : Held) (phase : Phase) → Contains t.held h
        → IsContentCandidate (content_of s) k (content_of t) (node_of h.changeset) phase
        → IsCandidate s (k ∷ []) t h.changeset phase
    back h phase at (inl top) = inl top
    back h phase at (inr (inl old)) =
        let f = held_in_content s (node_of h.changeset) old.0 old.1 in
        let there = (least-union old.0.changeset).1 (inl (changeset_from s old.0 f.0)) in
        inr (inl (
          old.0,
          f.0,
          same_changeset (changesets t) large h.changeset old.0.changeset (changeset_from t h at)
              there (sym f.1),
          old.2,
        ))
    back h phase at (inr (inr b)) =
        let one : IsBoundOfOne (k ∷ []) b.0 = (k, (0, omega arith, refl), b.1) in
        inr (inr (b.0, one, reach_from_leads t large (node_of h.changeset) b.0.0 (least-bounded b.0 one) b.2, b.3))

    pub least_from_content : IsAdmitted s k × IsLeast s (k ∷ []) t
    least_from_content = (
      admits_from_content s k valid.graph after.admitted,
      record {
        graph = large;
        union = least-union;
        bounded = least-bounded;
        phases = λ h at.
            let lowest = after.phases (node_of h.changeset) h (content-held t large (node_of h.changeset) h at refl) in
            (back h h.phase at lowest.0, λ j candidate. lowest.1 j (forth h j at candidate));
      },
    )

pub whatever_answer : {X E : Type 0} (r : Result X E) (P : Type 0) → P → OnOk r P
whatever_answer (Ok x) P h = h
whatever_answer (Err e) P h = tt

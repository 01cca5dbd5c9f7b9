-- The heads of what has one phase, by the marks of what has a child with its phase.
use Rattle.std.proofs.Common.{◌≡◌, ◌↔◌, ◌⊎◌, ℕ, ◌-◌, ◌<◌, Bool, false, List, length, replicate}
use Rattle.std.proofs.Common.{slice_get, Some, Contains, inl, inr, refl, sym, ap, subst, ◌∙◌, arith}
use Rattle.std.specs.List.Sorted.{IsStrictlySortedBy}
use Rattle.std.proofs.lemmas.List.{length-replicate, length-map}
use Rattle.std.proofs.lemmas.Option.{same_Some, slice_get-map}
use Rattle.std.specs.Option.{option_map}
use Rattle.hg_changeset.specs.declared.node.Node.{Node}
use Rattle.hg_changeset.specs.Node.{node_cmp}
use Rattle.hg_changeset.specs.Contents.{Contents}
use Rattle.hg_changeset.specs.Changeset.{node_of}
use Rattle.hg_changeset.proofs.ListLemmas.{slice_get_some}
use Rattle.hg_graph.specs.Graph.{nodes, IsGraph, IsParent}
use Rattle.hg_graph.specs.Places.{IsAt, IsParentPlace}
use Rattle.hg_graph.specs.Marks.{IsMarked, IsMarkedNode, MarksAlso}
use Rattle.hg_graph.proofs.GraphLemmas.{Contains-from_place}
use Rattle.hg_graph.proofs.PlaceLemmas.{same_place, IsAt-from, parent_first, place_from_Holds, placed_within}
use Rattle.hg_graph.proofs.MarkLemmas.{MarksAlso-then, MarksAlso-same, IsMarked-within, unmarked}
use Rattle.hg_obsstore.specs.Places.{ListsAll}
use Rattle.hg_phases.specs.declared.phase.Phase.{Phase}
use Rattle.hg_phases.specs.State.{State, Held, IsValid, changesets, rank}
use Rattle.hg_phases.specs.Content.{content_of}
use Rattle.hg_phases.proofs.RankLemmas.{rank-apart}
use Rattle.hg_phases.proofs.ContentLemmas.{content-held}
use Rattle.hg_history.specs.Content.{Leads}
use Rattle.hg_history.specs.Content.Leads.{itself, below}
use Rattle.hg_history.specs.ContentLaws.{leads-low}
use Rattle.hg_history.proofs.ContentLemmas.{content-changeset, content-valid, node_in_content}
use Rattle.hg_replica.specs.State.{ReplicaState, IsValid as IsValidReplica}
use Rattle.hg_replica.specs.Content.{content_of as replica_content}
use Rattle.hg_message.specs.declared.scope.Scope.{Scope}
use Rattle.hg_message.specs.Offer.{IsNamed, IsOneWith, AreHeads}
use Rattle.hg_message.specs.Outgoing.{AreMarksOf}
use Rattle.hg_message.specs.Covered.{HasPhaseAt, IsAtOneIn, IsCovered, AreCovered}
use Rattle.hg_message.proofs.NamedLemmas.{named-above}

-- ---- the marks of those that are covered

-- those that stand so to one place more
pub along_more : (R : ℕ → ℕ → Type 0) (D E : ℕ → Type 0) (p : ℕ) (a b c : List Bool)
    → ((j : ℕ) → E j ↔ (D j ⊎ (j ≡ p))) → MarksAlso 0 (λ k. (j : ℕ) × D j × R j k) a b → MarksAlso 0 (R p) b c
    → MarksAlso 0 (λ k. (j : ℕ) × E j × R j k) a c
along_more R D E p a b c joins before more = MarksAlso-then 0 _ _ _ a b c before more (λ k l. (
  λ h. elim ((joins h.0).0 h.1)
      [ inl old ↦ inl (h.0, old, h.2) | inr e ↦ inr (subst (λ j. R j k) e h.2) ],
  λ h. elim h [ inl old ↦ (old.0, (joins old.0).1 (inl old.1), old.2) | inr new ↦ (p, (joins p).1 (inr refl), new) ],
))

pub along_same : (R : ℕ → ℕ → Type 0) (D E : ℕ → Type 0) (a b : List Bool) → ((j : ℕ) → E j ↔ D j)
    → MarksAlso 0 (λ k. (j : ℕ) × D j × R j k) a b → MarksAlso 0 (λ k. (j : ℕ) × E j × R j k) a b
along_same R D E a b same h = MarksAlso-same 0 _ _ a b
    (λ k. (λ d. (d.0, (same d.0).1 d.1, d.2), λ e. (e.0, (same e.0).0 e.1, e.2))) h

-- where no place was marked before, exactly the covered ones are
pub covered_all : (s : State) → IsGraph (changesets s) → (marks covered : List Bool)
    → length marks ≡ length (changesets s) → MarksAlso 0 (IsCovered s marks) (replicate (length marks) false) covered
    → AreCovered s marks covered
covered_all s graph marks covered len also =
    let long : length covered ≡ length marks = also.0 ∙ length-replicate (length marks) false in
    record {
      len = long ∙ len;
      exact = λ k. (
        λ m. elim ((also.1 k (omega arith) (omega (arith, IsMarked-within 0 covered k m, also.0))).0 m)
            [ inl before ↦ absurd (unmarked (length marks) (k - 0) before.1) | inr so ↦ so ],
        λ so.
            let first : k < so.0 = parent_first (changesets s) graph so.0 k so.2.0 in
            (also.1 k (omega arith)
            (omega (arith, first, IsMarked-within 0 marks so.0 so.1, length-replicate (length marks) false))).1
            (inr so),
      );
    }

-- ---- heads

-- who is led to from another is led to by way of a child
child_on_way : (s : State) (n d : Node) → Leads (content_of s) n d
    → (d ≡ n)
    ⊎ ((c : Node) × (h : Held) × (content_of s c ≡ Some h) × IsParent h.changeset n × Leads (content_of s) c d)
child_on_way s n d itself = inl refl
child_on_way s n d (below {p = p} {h = h} r at up) = elim (child_on_way s n p r) [
  | inl e ↦ inr (d, h, at, subst (IsParent h.changeset) e up, itself)
  | inr c ↦ inr (c.0, c.1, c.2, c.3, below c.4 at up)
]

pub changeset_at : (s : State) (k : ℕ) (h : Held) → slice_get s.held k ≡ Some h
    → slice_get (changesets s) k ≡ Some h.changeset
changeset_at s k h e =
    slice_get-map (λ (x : Held). x.changeset) s.held k ∙ ap (option_map (λ (x : Held). x.changeset)) e

module _ (s : State) (graph : IsGraph (changesets s)) where
  -- what stands at a node's place is what is held under it
  pub held_at : (k : ℕ) (n : Node) → IsAt (changesets s) n k → (h : Held) × (slice_get s.held k ≡ Some h)
      × (content_of s n ≡ Some h)
  held_at k n at =
      let there = slice_get_some s.held k
      (omega (arith, placed_within (changesets s) n k at, length-map s.held (λ (x : Held). x.changeset))) in
      let h = there.0 in
      let stands = IsAt-from (changesets s) k h.changeset (node_of h.changeset) (changeset_at s k h there.1) refl in
      let named : node_of h.changeset ≡ n = same_Some (node_of h.changeset) n (sym stands ∙ at) in
      (h, there.1, content-held s graph n h (Contains-from_place s.held k h there.1) named)

  stands_at : (k : ℕ) (n : Node) (h : Held) → IsAt (changesets s) n k → content_of s n ≡ Some h
      → slice_get s.held k ≡ Some h
  stands_at k n h at e = let x = held_at k n at in x.1 ∙ ap Some (same_Some x.0 h (sym x.2 ∙ e))

module _ (s : State) (valid : IsValid s) (P : Node → Type 0)
    (closed : (a n : Node) → P n → Leads (content_of s) a n → P a) (phase : Phase) where
  -- one of these, held with this phase
  abbrev pub IsOne : Node → Type 0
  IsOne n = P n × ((h : Held) × (content_of s n ≡ Some h) × (h.phase ≡ phase))

  -- one of these, with this phase, stands at the place
  abbrev pub IsOneAt : ℕ → Type 0
  IsOneAt k = (n : Node) × IsAt (changesets s) n k × IsOne n

  child-place : (c : Node) (h : Held) (n : Node) (k : ℕ) → content_of s c ≡ Some h → IsParent h.changeset n
      → IsAt (changesets s) n k → (j : ℕ) × IsAt (changesets s) c j × IsParentPlace (changesets s) j k
  child-place c h n k e up at =
      let there = place_from_Holds (changesets s) c (node_in_content s valid.graph c (h, e)) in
      let stands = changeset_at s there.0 h (stands_at s valid.graph there.0 c h there.1 e) in
      (there.0, there.1, (h.changeset, n, stands, up, at))

  -- it has none of these as a child exactly where it has none as another descendant
  pub heads-by-children : (n : Node) (k : ℕ) → IsAt (changesets s) n k
      → (IsOne n × ((j : ℕ) → IsParentPlace (changesets s) j k → ¬ (IsOneAt j)))
      ↔ (IsOne n × ((d : Node) → IsOne d → Leads (content_of s) n d → d ≡ n))
  heads-by-children n k at = (
    λ h. (
      h.0,
      λ d other leads. elim (child_on_way s n d leads) [
        | inl e ↦ e
        | inr c ↦
            let v = content-valid s valid in
            let low = leads-low (content_of s) v n c.0 (below itself c.2 c.3) h.0.1.0 c.1 h.0.1.1 c.2 in
            let high = leads-low (content_of s) v c.0 d c.4 c.1 other.1.0 c.2 other.1.1 in
            let bottom = ap rank h.0.1.2 in
            let top = ap rank other.1.2 in
            let same : c.1.phase ≡ phase = rank-apart c.1.phase phase (omega (arith, low, high, bottom, top)) in
            let place = child-place c.0 c.1 n k c.2 c.3 at in
            absurd (h.1 place.0 place.2 (c.0, place.1, (closed c.0 d other.0 c.4, (c.1, c.2, same))))
      ],
    ),
    λ h. (
      h.0,
      λ j parent one.
          let c = parent.0 in
          let d = node_of c in
          let at_d : IsAt (changesets s) d j = IsAt-from (changesets s) j c d parent.2 refl in
          let is_d : one.0 ≡ d = same_Some one.0 d (sym one.1 ∙ at_d) in
          let x = content-changeset s valid.graph d c (Contains-from_place (changesets s) j c parent.2) refl in
          let named : parent.1 ≡ n = same_Some parent.1 n (sym parent.4 ∙ at) in
          let up : IsParent x.0.changeset n =
          subst (λ (y : Contents). IsParent y n) (sym x.2) (subst (IsParent c) named parent.3) in
          let e : d ≡ n = h.1 d (subst IsOne is_d one.2) (below itself x.1 up) in
          let before : k < j = parent_first (changesets s) valid.graph j k parent in
          let same_one : j ≡ k = same_place (nodes (changesets s)) n k j valid.graph.distinct at
          (subst (λ y. IsAt (changesets s) y j) e at_d) in
          omega (arith, before, same_one),
    ),
  )

  -- what stands at a place is one of these where it has this phase and P holds of it
  pub one_at : (k : ℕ) (n : Node) → IsAt (changesets s) n k → P n → HasPhaseAt s phase k → IsOne n
  one_at k n at p so =
      let x = held_at s valid.graph k n at in
      (p, (x.0, x.2, ap (λ (h : Held). h.phase) (same_Some x.0 so.0 (sym x.1 ∙ so.1)) ∙ so.2))

  -- and where one of these stands is this phase
  pub phase_at : (k : ℕ) (n : Node) → IsAt (changesets s) n k → IsOne n → HasPhaseAt s phase k
  phase_at k n at one = (one.1.0, stands_at s valid.graph k n one.1.0 at one.1.1, one.1.2)

  module _ (marks covered : List Bool) (are : (n : Node) → IsMarkedNode (changesets s) marks n ↔ P n)
      (told : AreCovered s marks covered) where
    -- where one of these stands is marked
    marked_at : (k : ℕ) (n : Node) → IsAt (changesets s) n k → P n → IsMarked 0 marks k
    marked_at k n at p =
        let m = (are n).1 p in
        subst (IsMarked 0 marks) (same_place (nodes (changesets s)) n k m.0 valid.graph.distinct at m.1) m.2

    heads-at : (places : List ℕ) → ((k : ℕ) → Contains places k ↔ (IsMarked 0 marks k × ¬ (IsMarked 0 covered k)))
        → (n : Node) → IsAtOneIn s places phase n
        ↔ (IsOne n × ((d : Node) → IsOne d → Leads (content_of s) n d → d ≡ n))
    heads-at places are_heads n = (
      λ u.
          let m = (are_heads u.0).0 u.1 in
          (heads-by-children n u.0 u.2).0 (
            one_at u.0 n u.2 ((are n).0 (u.0, u.2, m.0)) u.3,
            λ j parent one. m.1 ((told.exact u.0).1 (
              j,
              marked_at j one.0 one.1 one.2.0,
              (parent, (phase, phase_at j one.0 one.1 one.2, u.3)),
            )),
          ),
      λ h.
          let m = (are n).1 h.0.0 in
          let so = phase_at m.0 n m.1 h.0 in
          let top = (heads-by-children n m.0 m.1).1 h in (
            m.0,
            (are_heads m.0).1 (
              m.2,
              λ marked.
                  let cover = (told.exact m.0).0 marked in
                  let j = cover.0 in
                  let parent = cover.2.0 in
                  let alike = cover.2.1 in
                  let at : IsAt (changesets s) (node_of parent.0) j =
                  IsAt-from (changesets s) j parent.0 (node_of parent.0) parent.2 refl in
                  let same : alike.0 ≡ phase =
                  sym alike.2.2 ∙ ap (λ (h : Held). h.phase) (same_Some alike.2.0 so.0 (sym alike.2.1 ∙ so.1)) ∙ so.2 in
                  let one = one_at j (node_of parent.0) at ((are (node_of parent.0)).0 (j, at, cover.1))
                  (subst (λ p. HasPhaseAt s p j) same alike.1) in
                  top.1 j parent (node_of parent.0, at, one),
            ),
            m.1,
            so,
          ),
    )

-- of what a scope names, by the places of what is named and has no child of its phase
pub heads-named : (s : ReplicaState) → IsValidReplica s → (pins : List Node) (scope : Scope) (marks covered : List Bool)
    → AreMarksOf s (IsNamed (replica_content s) pins scope) marks → AreCovered s.history marks covered
    → (places : List ℕ) → ListsAll (λ k. IsMarked 0 marks k × ¬ (IsMarked 0 covered k)) places
    → (phase : Phase) (heads : List Node)
    → ((n : Node) → Contains heads n ↔ IsAtOneIn s.history places phase n)
    → IsStrictlySortedBy node_cmp heads
    → AreHeads (replica_content s) (IsOneWith (replica_content s) (IsNamed (replica_content s) pins scope) phase) heads
heads-named s valid pins scope marks covered are told places are_heads phase heads exact ascending = record {
  exact = λ n.
      let same = heads-at s.history valid (IsNamed (replica_content s) pins scope)
      (λ a m named leads. named-above (replica_content s) pins scope a m (content-valid s.history valid) named leads)
      phase marks covered are.exact told places are_heads.exact n in
      (λ h. same.0 ((exact n).0 h), λ h. (exact n).1 (same.1 h));
  ascending = ascending;
}

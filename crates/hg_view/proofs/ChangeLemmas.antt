-- Heads before and after a change.
use Rattle.std.proofs.Common.{◌≡◌, ℕ, ◌-◌, ◌<◌, ◌≤◌, true, Bool, List, [], ◌++◌, length, take}
use Rattle.std.proofs.Common.{slice_get, Some, ◌↔◌, inl, inr, refl, sym, ap, subst, ◌∙◌, arith}
use Rattle.std.specs.Option.{option_map}
use Rattle.std.proofs.lemmas.Bool.{cases_lt}
use Rattle.std.proofs.lemmas.List.{take_at, length-append, length-map}
use Rattle.std.proofs.lemmas.Option.{none-some, same_Some, slice_get-map, slice_get_within}
use Rattle.hg_changeset.specs.declared.node.Node.{Node}
use Rattle.hg_changeset.specs.Contents.{Contents}
use Rattle.hg_changeset.specs.Changeset.{node_of}
use Rattle.hg_changeset.proofs.ListLemmas.{slice_get_some, slice_get-append, slice_get-take, Contains-none}
use Rattle.hg_graph.specs.Graph.{IsGraph, IsParent, nodes}
use Rattle.hg_graph.specs.Places.{IsAt, IsParentPlace}
use Rattle.hg_graph.proofs.GraphLemmas.{map-take, Contains-from_place}
use Rattle.hg_graph.proofs.PlaceLemmas.{parent_first, placed_within, IsAt-from}
use Rattle.hg_phases.specs.declared.phase.Phase.{Phase}
use Rattle.hg_phases.specs.declared.phase.Phase.TheVariants.{Public}
use Rattle.hg_phases.specs.State.{State, Held, rank, changesets, IsValid}
use Rattle.hg_phases.specs.Order.{Below}
use Rattle.hg_phases.proofs.LeastLemmas.{same_held}
use Rattle.hg_phases.proofs.RankLemmas.{rank-apart}
use Rattle.hg_history.specs.Change.{ChangeValue}
use Rattle.hg_history.specs.Join.{TellsChange}
use Rattle.hg_view.specs.declared.head_updates.Among.{Among}
use Rattle.hg_view.specs.declared.head_updates.Among.TheVariants.{Everything, Published}
use Rattle.hg_view.specs.Flags.{AreFlags, AreUpdated, IsTouched}
use Rattle.hg_view.specs.HeadPlaces.{IsHeadAmong, IsPlace, IsPublicAt, IsAmong}
use Rattle.hg_view.proofs.FlagLemmas.{heads-after}

-- ---- states

-- the changeset that is held at a place
held-changeset : (s : State) (k : ℕ) (h : Held) → slice_get s.held k ≡ Some h
    → slice_get (changesets s) k ≡ Some h.changeset
held-changeset s k h at =
    slice_get-map (λ g. g.changeset) s.held k ∙ ap (option_map (λ (g : Held). g.changeset)) at

held-node : (s : State) (k : ℕ) (h : Held) → slice_get s.held k ≡ Some h → IsAt (changesets s) (node_of h.changeset) k
held-node s k h at = IsAt-from (changesets s) k h.changeset (node_of h.changeset) (held-changeset s k h at) refl

length-held : (s : State) → length (changesets s) ≡ length s.held
length-held s = length-map s.held (λ h. h.changeset)

-- whoever is looked at has a place
pub among-within : (s : State) (among : Among) (k : ℕ) → IsAmong among s k → k < length (changesets s)
among-within s Everything k h = h
among-within s Published k h = omega (arith, slice_get_within s.held k h.0 h.1, length-held s)

-- the lowest phase is public
lowest : (k : Phase) → rank k ≤ 0 → k ≡ Public
lowest k le = rank-apart k Public (omega arith)

-- a parent of what is public is public
pub public-parent : (s : State) → IsValid s → (j k : ℕ) → IsParentPlace (changesets s) j k → IsPublicAt s j
    → IsPublicAt s k
public-parent s valid j k parent h =
    let p = slice_get_some s.held k
    (omega (arith, placed_within (changesets s) parent.1 k parent.4, length-held s)) in
    let n_is : parent.1 ≡ node_of p.0.changeset = same_Some _ _ (sym parent.4 ∙ held-node s k p.0 p.1) in
    let c_is : parent.0 ≡ h.0.changeset = same_Some _ _ (sym parent.2 ∙ held-changeset s j h.0 h.1) in
    let le = valid.phases h.0 p.0 (Contains-from_place s.held j h.0 h.1) (Contains-from_place s.held k p.0 p.1)
    (subst (λ c. IsParent c (node_of p.0.changeset)) c_is (subst (IsParent parent.0) n_is parent.3)) in
    (p.0, p.1, lowest p.0.phase (omega (arith, le, ap rank h.2)))

-- ---- from one graph to a longer one

module _ (cs ds new : List Contents) (order : ds ≡ cs ++ new) where
  front : take (length cs) ds ≡ cs
  front = ap (take (length cs)) order ∙ take_at cs new (length cs) refl

  at-after : (k : ℕ) (c : Contents) → slice_get cs k ≡ Some c → slice_get ds k ≡ Some c
  at-after k c at = ap (λ xs. slice_get xs k) order ∙ slice_get-append cs new k c at

  at-before : (k : ℕ) (c : Contents) → k < length cs → slice_get ds k ≡ Some c → slice_get cs k ≡ Some c
  at-before k c l at = subst (λ xs. slice_get xs k ≡ Some c) front (slice_get-take ds (length cs) k c l at)

  node-before : (k : ℕ) (n : Node) → k < length cs → IsAt ds n k → IsAt cs n k
  node-before k n l at = subst (λ xs. slice_get (nodes xs) k ≡ Some n) front
      (subst (λ ns. slice_get ns k ≡ Some n) (sym (map-take node_of (length cs) ds))
      (slice_get-take (nodes ds) (length cs) k n l at))

  node-after : (k : ℕ) (n : Node) → IsAt cs n k → IsAt ds n k
  node-after k n at =
      let c = slice_get_some cs k (placed_within cs n k at) in
      IsAt-from ds k c.0 n (at-after k c.0 c.1)
      (same_Some (node_of c.0) n (sym (IsAt-from cs k c.0 (node_of c.0) c.1 refl) ∙ at))

  parent-after : (j k : ℕ) → IsParentPlace cs j k → IsParentPlace ds j k
  parent-after j k h = (h.0, h.1, at-after j h.0 h.2, h.3, node-after k h.1 h.4)

  module _ (graph : IsGraph ds) where
    parent-before : (j k : ℕ) → j < length cs → IsParentPlace ds j k → IsParentPlace cs j k
    parent-before j k l h =
        let less = parent_first ds graph j k h in
        (h.0, h.1, at-before j h.0 l h.2, h.3, node-before k h.1 (omega (arith, less, l)) h.4)

    -- a head among the first changesets is one among all, where P holds of no others
    head-same : (P : ℕ → Type 0) → ((k : ℕ) → P k → k < length cs) → (k : ℕ) → IsHeadAmong cs P k ↔ IsHeadAmong ds P k
    head-same P within k = (
      λ head. (head.0, λ j parent p. head.1 j (parent-before j k (within j p) parent) p),
      λ head. (head.0, λ j parent p. head.1 j (parent-after j k parent) p),
    )

-- ---- a change

module _ (s t : State) (valid : IsValid s) (graph : IsGraph (changesets t)) (above : Below s t)
    (change : ChangeValue) (tells : TellsChange s change t) where
  -- how many were held
  pub count-before : length (changesets t) - length change.added ≡ length (changesets s)
  count-before =
      let whole = ap length tells.order ∙ length-append (changesets s) tells.new in
      let added = ap length tells.added ∙ length-map tells.new node_of in
      omega (arith, whole, added)

  -- what is at a place of both is one changeset, with a phase no higher, and lower only where that is told
  same-place : (k : ℕ) (h g : Held) → slice_get s.held k ≡ Some h → slice_get t.held k ≡ Some g
      → (g.changeset ≡ h.changeset) × (rank g.phase ≤ rank h.phase)
  same-place k h g at_s at_t =
      let cs_at = at-after (changesets s) (changesets t) tells.new tells.order k h.changeset
      (held-changeset s k h at_s) in
      let same : g.changeset ≡ h.changeset =
      same_Some g.changeset h.changeset (sym (held-changeset t k g at_t) ∙ cs_at) in
      let up = above h (Contains-from_place s.held k h at_s) in
      let is : g ≡ up.0 = same_held t graph up.0 g up.1 (Contains-from_place t.held k g at_t)
      (ap node_of (up.2 ∙ sym same)) in
      (same, omega (arith, ap (λ (x : Held). rank x.phase) is, up.3))

  public-kept : (k : ℕ) → IsPublicAt s k → IsPublicAt t k
  public-kept k h =
      let c_at = at-after (changesets s) (changesets t) tells.new tells.order k h.0.changeset
      (held-changeset s k h.0 h.1) in
      let g = slice_get_some t.held k
      (omega (arith, slice_get_within (changesets t) k h.0.changeset c_at, length-held t)) in
      let low = (same-place k h.0 g.0 h.1 g.1).1 in
      (g.0, g.1, lowest g.0.phase (omega (arith, low, ap rank h.2)))

  public-fresh : (k : ℕ) → IsTouched (changesets t) (length (changesets s)) change.lowered k → ¬ (IsPublicAt s k)
  public-fresh k (inl past) h = omega (arith, past, among-within s Published k h)
  public-fresh k (inr m) h =
      let went = (tells.lowered.each m.0).0 m.1 in
      let at_s = node-before (changesets s) (changesets t) tells.new tells.order k m.0 (among-within s Published k h)
      m.2 in
      let n_is : node_of h.0.changeset ≡ m.0 = same_Some _ _ (sym (held-node s k h.0 h.1) ∙ at_s) in
      let is : went.0 ≡ h.0 = same_held s valid.graph h.0 went.0 (Contains-from_place s.held k h.0 h.1) went.2
      (n_is ∙ sym went.5) in
      omega (arith, went.6, ap (λ (x : Held). rank x.phase) is, ap rank h.2)

  public-same : (k : ℕ) → ¬ (IsTouched (changesets t) (length (changesets s)) change.lowered k) → IsPublicAt t k
      → IsPublicAt s k
  public-same k out g = elim (cases_lt k (length (changesets s))) [
    | inr past ↦ absurd (out (inl past))
    | inl l ↦
        let h = slice_get_some s.held k (omega (arith, l, length-held s)) in
        let same = same-place k h.0 g.0 h.1 g.1 in
        elim (cases_lt (rank g.0.phase) (rank h.0.phase)) [
          | inl less ↦
              let n = node_of h.0.changeset in
              absurd (out (inr (
                n,
                (tells.lowered.each n).1 (
                  h.0,
                  g.0,
                  Contains-from_place s.held k h.0 h.1,
                  Contains-from_place t.held k g.0 g.1,
                  same.0,
                  refl,
                  less,
                ),
                node-after (changesets s) (changesets t) tells.new tells.order k n (held-node s k h.0 h.1),
              )))
          | inr le ↦ (h.0, h.1, lowest h.0.phase (omega (arith, le, ap rank g.2)))
        ]
  ]

  public-closed : (j k : ℕ) → IsParentPlace (changesets t) j k → IsPublicAt s j → IsPublicAt s k
  public-closed j k parent h = public-parent s valid j k
      (parent-before (changesets s) (changesets t) tells.new tells.order graph j k (among-within s Published j h)
      parent) h

  -- the heads follow
  module _ (first : ℕ) (counted : first ≡ length (changesets t) - length change.added) (before old new : List Bool)
      (grown : take (length before) old ≡ before) (long : length old ≡ length (changesets t)) where
    pub public-heads : AreFlags (length (changesets s)) (IsHeadAmong (changesets s) (IsPublicAt s)) before
        → AreUpdated (changesets t) (IsTouched (changesets t) first change.lowered) (IsAmong Published t) old new
        → AreFlags (length (changesets t)) (IsHeadAmong (changesets t) (IsPublicAt t)) new
    public-heads are updated =
        let n_is : first ≡ length (changesets s) = counted ∙ count-before in
        let S : ℕ → Type 0 = IsTouched (changesets t) (length (changesets s)) change.lowered in
        record {
          len = updated.taken.len ∙ updated.recomputed.len ∙ long;
          exact = heads-after (changesets t) (IsPublicAt s) (IsPublicAt t) S public-fresh public-same public-kept
              public-closed (length (changesets s)) before old new (λ k le. inl le)
              (ap (λ m. take m old) (sym are.len) ∙ grown)
              (λ k. let same = head-same (changesets s) (changesets t) tells.new tells.order graph (IsPublicAt s)
              (among-within s Published) k in
              ((λ up. same.0 ((are.exact k).0 up)), (λ head. (are.exact k).1 (same.1 head))))
              (subst (λ m. AreUpdated (changesets t) (IsTouched (changesets t) m change.lowered) (IsPublicAt t) old new)
              n_is updated);
        }

    pub all-heads : AreFlags (length (changesets s)) (IsHeadAmong (changesets s) (IsPlace s)) before
        → AreUpdated (changesets t) (IsTouched (changesets t) first []) (IsAmong Everything t) old new
        → AreFlags (length (changesets t)) (IsHeadAmong (changesets t) (IsPlace t)) new
    all-heads are updated =
        let n_is : first ≡ length (changesets s) = counted ∙ count-before in
        let S : ℕ → Type 0 = IsTouched (changesets t) (length (changesets s)) [] in
        let whole = ap length tells.order ∙ length-append (changesets s) tells.new in
        record {
          len = updated.taken.len ∙ updated.recomputed.len ∙ long;
          exact = heads-after (changesets t) (IsPlace s) (IsPlace t) S
              (λ k touched l. elim touched [
                | inl past ↦ omega (arith, past, l)
                | inr m ↦ Contains-none m.0 m.1
              ])
              (λ k out l. elim (cases_lt k (length (changesets s))) [
                | inl less ↦ less
                | inr past ↦ absurd (out (inl past))
              ])
              (λ k l. omega (arith, l, whole))
              (λ j k parent l. let less = parent_first (changesets t) graph j k parent in omega (arith, less, l))
              (length (changesets s)) before old new (λ k le. inl le)
              (ap (λ m. take m old) (sym are.len) ∙ grown)
              (λ k. let same = head-same (changesets s) (changesets t) tells.new tells.order graph (IsPlace s)
              (λ j l. l) k in
              ((λ up. same.0 ((are.exact k).0 up)), (λ head. (are.exact k).1 (same.1 head))))
              (subst (λ m. AreUpdated (changesets t) (IsTouched (changesets t) m []) (IsPlace t) old new) n_is updated);
        }

-- ---- from scratch

-- where all places were recomputed, the heads are found
pub heads-all : (cs : List Contents) (Q : ℕ → Type 0) (old new : List Bool) → length old ≡ length cs
    → AreUpdated cs (IsTouched cs 0 []) Q old new → AreFlags (length cs) (IsHeadAmong cs Q) new
heads-all cs Q old new long updated = record {
  len = updated.taken.len ∙ updated.recomputed.len ∙ long;
  exact = heads-after cs (λ k. ⊥) Q (IsTouched cs 0 []) (λ k touched none. none)
      (λ k out q. absurd (out (inl (omega arith)))) (λ k none. absurd none) (λ j k parent none. none) 0 [] old new
      (λ k le. inl le) refl (λ k. ((λ up. absurd (none-some true up)), (λ head. absurd head.0))) updated;
}

-- Walks that ask at places until none waits.
use Rattle.std.proofs.Common.{◌≡◌, ◌≢◌, ℕ, ◌<◌, ◌≤◌, Bool, true, false, true≢false, IsTrue, List, [], length, get_or}
use Rattle.std.proofs.Common.{Option, Some, None, MatchOption, slice_get, Contains, ◌↔◌, ◌⊎◌, inl, inr, refl, sym}
use Rattle.std.proofs.Common.{subst, ◌∙◌, arith}
use Rattle.std.proofs.lemmas.Bool.{cases_order}
use Rattle.std.proofs.lemmas.List.Elements.{Contains-get_or}
use Rattle.std.proofs.lemmas.Option.{same_Some, get_or_from_slice_get, slice_get_within}
use mathlib.Core.Bool.{beq}
use Rattle.hg_changeset.specs.declared.node.Node.{Node}
use Rattle.hg_changeset.specs.Contents.{Contents}
use Rattle.hg_changeset.specs.Changeset.{node_of}
use Rattle.hg_changeset.proofs.ListLemmas.{Contains-none}
use Rattle.hg_graph.specs.Graph.{nodes, Holds, IsParent, IsGraph}
use Rattle.hg_graph.specs.Places.{IsAt, IsParentPlace}
use Rattle.hg_graph.specs.Waiting.{Widens, IsOneOf}
use Rattle.hg_graph.proofs.GraphLemmas.{Contains-from_place, place_from_Contains}
use Rattle.hg_graph.proofs.PlaceLemmas.{same_place, IsAt-from, place_from_Holds, parent_first}
use Rattle.hg_phases.specs.State.{changesets}
use Rattle.hg_history.specs.Content.{IsHeld}
use Rattle.hg_history.proofs.ContentLemmas.{node_in_content, content-changeset, changeset_in_content}
use Rattle.hg_replica.specs.State.{ReplicaState, IsValid}
use Rattle.hg_replica.specs.Content.{Content, content_of}
use Rattle.hg_replica.proofs.ContentLemmas.{content-valid}
use Rattle.hg_instab.specs.declared.settling.Kind.{Kind}
use Rattle.hg_instab.specs.declared.settling.Kind.TheVariants.{Orphan, Extinct}
use Rattle.hg_instab.specs.declared.waiting.Beside.{Beside}
use Rattle.hg_instab.specs.declared.waiting.Beside.TheVariants.{Children, Parents}
use Rattle.hg_instab.specs.Changed.{IsNow}
use Rattle.hg_instab.specs.Local.{IsParentOf, StandsUnstably, HoldsNothing}
use Rattle.hg_instab.specs.Settling.{IsTurned, IsBeside, IsSoAt, IsAtEach, IsSoBy, beside_of, IsLater}
use Rattle.hg_instab.specs.Settling.{IsSettling, SettlesAt}
use Rattle.hg_instab.proofs.TurnedLemmas.{now-alike, now-none, now-turned, others-alike}
use Rattle.hg_instab.proofs.WaitingLemmas.{beside-within}

-- ---- places of parents

module _ (s : ReplicaState) (v : IsValid s) where
  -- a parent's place is that of a parent
  pub parent-from_place : (n p : Node) (k j : ℕ) → IsAt (changesets s.history) n k → IsAt (changesets s.history) p j
      → IsParentPlace (changesets s.history) k j → IsParentOf (content_of s) p n
  parent-from_place n p k j at_n at_p parent =
      let c = parent.0 in
      let n_is : node_of c ≡ n = same_Some (node_of c) n
      (sym (IsAt-from (changesets s.history) k c (node_of c) parent.2 refl) ∙ at_n) in
      let p_is : parent.1 ≡ p = same_Some parent.1 p (sym parent.4 ∙ at_p) in
      let x = content-changeset s.history v.graph n c (Contains-from_place (changesets s.history) k c parent.2) n_is in
      (x.0, x.1, subst (λ d. IsParent d p) (sym x.2) (subst (IsParent c) p_is parent.3))

  pub place-from_parent : (n p : Node) (k j : ℕ) → IsAt (changesets s.history) n k → IsAt (changesets s.history) p j
      → IsParentOf (content_of s) p n → IsParentPlace (changesets s.history) k j
  place-from_parent n p k j at_n at_p parent =
      let c = changeset_in_content s.history v.graph n parent.0.changeset (parent.0, parent.1, refl) in
      let there = place_from_Contains (changesets s.history) parent.0.changeset c.0 in
      let k_is : k ≡ there.0 = same_place (nodes (changesets s.history)) n there.0 k v.graph.distinct
      (IsAt-from (changesets s.history) there.0 parent.0.changeset n there.1 c.1) at_n in (
        parent.0.changeset,
        p,
        subst (λ i. slice_get (changesets s.history) i ≡ Some parent.0.changeset) (sym k_is) there.1,
        parent.2,
        at_p,
      )

  pub parent-held : (p n : Node) → IsParentOf (content_of s) p n → IsHeld (content_of s).0 p
  parent-held p n parent =
      let g = (content-valid s v).parents n parent.0 p parent.1 parent.2 in
      (g.0, g.1)

  pub placed-node : (n : Node) → IsHeld (content_of s).0 n → (k : ℕ) × IsAt (changesets s.history) n k
  placed-node n held = place_from_Holds (changesets s.history) n (node_in_content s.history v.graph n held)

  module _ (n : Node) (k : ℕ) (at : IsAt (changesets s.history) n k) where
    -- P holds of a parent exactly where it does at the place of one
    pub parents-by_place : (P : Node → Type 0) → ((p : Node) × IsParentOf (content_of s) p n × P p)
        ↔ ((j : ℕ) × (p : Node) × IsParentPlace (changesets s.history) k j × IsAt (changesets s.history) p j × P p)
    parents-by_place P = (
      λ h. let j = placed-node h.0 (parent-held h.0 n h.1) in
          (j.0, h.0, place-from_parent n h.0 k j.0 at j.1 h.1, j.1, h.2),
      λ h. (h.1, parent-from_place n h.1 k h.0 at h.3 h.2, h.4),
    )

    -- P holds of each child exactly where it does at each place of one
    pub children-by_place : (P : Node → Type 0) (places : List ℕ)
        → ((j : ℕ) → Contains places j ↔ IsParentPlace (changesets s.history) j k)
        → ((c : Node) → IsParentOf (content_of s) n c → P c)
        ↔ ((j : ℕ) → Contains places j → (c : Node) → IsAt (changesets s.history) c j → P c)
    children-by_place P places are = (
      λ h j in_places c at_c. h c (parent-from_place c n j k at_c at ((are j).0 in_places)),
      λ h c parent. let j = placed-node c (parent.0, parent.1) in
          h j.0 ((are j.0).1 (place-from_parent c n j.0 k j.1 at parent)) c j.1,
    )

-- ---- what stands at each of some places

module _ (cs : List Contents) (P : Node → Type 0) (places : List ℕ) where
  -- it is so in two parts, or not so of one of the second
  pub each-in_parts : (first : ℕ) → ((i : ℕ) → 0 ≤ i → i < first → IsSoAt cs P (get_or places i 0)) → (o : Option ℕ)
      → MatchOption o ((i : ℕ) → first ≤ i → i < length places → IsSoAt cs P (get_or places i 0))
      (λ i. (first ≤ i) × (i < length places) × ¬ (IsSoAt cs P (get_or places i 0)))
      → MatchOption o (IsAtEach cs places P) (λ i. ¬ (IsAtEach cs places P))
  each-in_parts first front None back = λ k h.
      let p = place_from_Contains places k h in
      let within = slice_get_within places p.0 k p.1 in
      subst (IsSoAt cs P) (get_or_from_slice_get places p.0 k 0 p.1) (elim (cases_order p.0 first) [
        | inl e ↦ back p.0 (omega (arith, e)) within
        | inr apart ↦ elim apart
            [ inl less ↦ front p.0 (omega arith) less | inr more ↦ back p.0 (omega (arith, more)) within ]
      ])
  each-in_parts first front (Some i) back = λ each.
      back.2 (each (get_or places i 0) (Contains-get_or places i 0 back.1))

-- ---- what is told by neighbours

-- what is told of a node goes by those to which it is so beside
abbrev pub GoesBy : List Contents → Beside → ((Node → Type 0) → Node → Type 0) → Type 1
GoesBy cs beside Told = (A B : Node → Type 0) (n : Node) (k : ℕ) → IsAt cs n k
    → ((m : Node) (j : ℕ) → IsAt cs m j → IsBeside beside cs j k → A m ↔ B m) → Told A n → Told B n

-- what is told goes by what is so, and not by how that is said
abbrev pub IsFaithful : ((Node → Type 0) → Node → Type 0) → Type 1
IsFaithful Told = (A B : Node → Type 0) (n : Node) → ((m : Node) → A m ↔ B m) → Told A n → Told B n

orphans-faithful : (f : Content) → IsFaithful (StandsUnstably f)
orphans-faithful f A B n same h =
    (h.0, (h.1.0, h.1.1, elim h.1.2 [ inl o ↦ inl o | inr o ↦ inr ((same h.1.0).0 o) ]))

extinct-faithful : (f : Content) → IsFaithful (HoldsNothing f)
extinct-faithful f A B n same h = (h.0, λ c parent. (same c).0 (h.1 c parent))

orphans-local : (s : ReplicaState) → IsValid s
    → GoesBy (changesets s.history) Children (StandsUnstably (content_of s))
orphans-local s v A B n k at near h = (
  h.0,
  (
    h.1.0,
    h.1.1,
    elim h.1.2 [
      | inl o ↦ inl o
      | inr o ↦
          let j = placed-node s v h.1.0 (parent-held s v h.1.0 n h.1.1) in
          inr ((near h.1.0 j.0 j.1 (place-from_parent s v n h.1.0 k j.0 at j.1 h.1.1)).0 o)
    ],
  ),
)

extinct-local : (s : ReplicaState) → IsValid s
    → GoesBy (changesets s.history) Parents (HoldsNothing (content_of s))
extinct-local s v A B n k at near h = (
  h.0,
  λ c parent.
      let j = placed-node s v c (parent.0, parent.1) in
      (near c j.0 j.1 (place-from_parent s v c n j.0 k j.1 at parent)).0 (h.1 c parent),
)

-- ---- by kind

pub faithful : (kind : Kind) (f : Content) → IsFaithful (IsSoBy kind f)
faithful Orphan f = orphans-faithful f
faithful Extinct f = extinct-faithful f

pub local : (kind : Kind) (s : ReplicaState) → IsValid s
    → GoesBy (changesets s.history) (beside_of kind) (IsSoBy kind (content_of s))
local Orphan s v = orphans-local s v
local Extinct s v = extinct-local s v

-- what is asked again is asked later
pub beside-later : (kind : Kind) (cs : List Contents) → IsGraph cs → (j k : ℕ) → IsBeside (beside_of kind) cs j k
    → IsLater kind j k
beside-later Orphan cs graph j k child = parent_first cs graph k j child
beside-later Extinct cs graph j k parent = parent_first cs graph j k parent

never-later : (kind : Kind) (k : ℕ) → ¬ (IsLater kind k k)
never-later Orphan k l = omega (arith, l)
never-later Extinct k l = omega (arith, l)

-- so nothing is asked again on account of itself
pub never-beside : (kind : Kind) (cs : List Contents) → IsGraph cs → (k : ℕ) → ¬ (IsBeside (beside_of kind) cs k k)
never-beside kind cs graph k h = never-later kind k (beside-later kind cs graph k k h)

-- ---- one place

beq-same : (a b : Bool) → beq a b ≡ true → a ≡ b
beq-same true true e = refl
beq-same true false e = sym e
beq-same false true e = e
beq-same false false e = refl

beq-apart : (a b : Bool) → beq a b ≡ false → ((a ≡ true) × (b ≡ false)) ⊎ ((a ≡ false) × (b ≡ true))
beq-apart true true e = absurd (true≢false e)
beq-apart true false e = inl (refl, refl)
beq-apart false true e = inr (refl, refl)
beq-apart false false e = absurd (true≢false e)

module _ (cs : List Contents) (beside : Beside) (Told : (Node → Type 0) → Node → Type 0) (set : List Node) (place : ℕ)
    (turned : List Node) (waiting : List ℕ) where
  module _ (node : Node) (at : IsAt cs node place) (is has : Bool) (tells : IsTrue is ↔ Told (IsNow set turned) node)
      (told : IsTrue has ↔ IsNow set turned node) where
    -- it is so already
    pub settles-same : beq is has ≡ true → SettlesAt cs beside Told set place turned waiting turned waiting
    settles-same same = record {
      here = λ n at_n. subst (λ m. IsNow set turned m ↔ Told (IsNow set turned) m) (same_Some node n (sym at ∙ at_n)) (
        λ h. tells.0 (beq-same is has same ∙ told.1 h),
        λ h. told.0 (sym (beq-same is has same) ∙ tells.1 h),
      );
      spread = inl (refl, refl);
    }

    -- it is turned
    pub settles-turned : IsGraph cs → GoesBy cs beside Told → ¬ (IsBeside beside cs place place) → beq is has ≡ false
        → (turned_now : List Node) (waiting_now : List ℕ) → IsTurned node turned turned_now
        → Widens (IsBeside beside cs place) waiting waiting_now
        → SettlesAt cs beside Told set place turned waiting turned_now waiting_now
    settles-turned graph by apart other turned_now waiting_now turns widens = record {
      here = λ n at_n.
          subst (λ m. IsNow set turned_now m ↔ Told (IsNow set turned_now) m) (same_Some node n (sym at ∙ at_n)) so;
      spread = inr (node, at, turns, widens);
    }
      where
        near : (m : Node) (j : ℕ) → IsAt cs m j → IsBeside beside cs j place
            → IsNow set turned_now m ↔ IsNow set turned m
        near m j at_m stands = now-alike set turned turned_now m (others-alike node turned turned_now turns m (λ e.
            let j_is : j ≡ place = same_place (nodes cs) node place j graph.distinct at
            (subst (λ x. IsAt cs x j) e at_m) in
            apart (subst (λ i. IsBeside beside cs i place) j_is stands)))

        sides : IsNow set turned_now node ↔ (¬ (IsNow set turned node))
        sides = now-turned set turned turned_now node turns

        so : IsNow set turned_now node ↔ Told (IsNow set turned_now) node
        so = elim (beq-apart is has other) [
          | inl up ↦ (
            λ _. by (IsNow set turned) (IsNow set turned_now) node place at
                (λ m j at_m stands. let x = near m j at_m stands in (x.1, x.0)) (tells.0 up.0),
            λ _. sides.1 (λ was. true≢false (sym (told.1 was) ∙ up.1)),
          )
          | inr down ↦ (
            λ h. absurd (sides.0 h (told.0 down.1)),
            λ h. absurd (true≢false
                (sym (tells.1 (by (IsNow set turned_now) (IsNow set turned) node place at near h)) ∙ down.0)),
          )
        ]

-- ---- the walk

module _ (cs : List Contents) (Told : (Node → Type 0) → Node → Type 0) (set : List Node) (starts : List ℕ) where
  pub settling-start : IsFaithful Told → ((k : ℕ) → Contains starts k → k < length cs) → (turned : List Node)
      → turned ≡ [] → IsSettling cs Told set starts turned starts
  settling-start faithful within turned empty = record {
    within = within;
    held = λ n h. absurd (clear n h);
    told = λ begun n k at free.
        let x = now-none set turned n (clear n) in
        let was = begun n k at free in (
          λ h. faithful (Contains set) (IsNow set turned) n both (was.0 (x.0 h)),
          λ h. x.1 (was.1 (faithful (IsNow set turned) (Contains set) n (λ m. now-none set turned m (clear m)) h)),
        );
  }
    where
      clear : (n : Node) → ¬ (Contains turned n)
      clear n h = Contains-none n (subst (λ ns. Contains ns n) empty h)

      both : (m : Node) → Contains set m ↔ IsNow set turned m
      both m = let x = now-none set turned m (clear m) in (x.1, x.0)

  pub settling-end : (turned : List Node) (waiting : List ℕ) → ((k : ℕ) → ¬ (Contains waiting k))
      → IsSettling cs Told set starts turned waiting → IsSettling cs Told set starts turned []
  settling-end turned waiting none w = record {
    within = λ k h. absurd (Contains-none k h);
    held = w.held;
    told = λ begun n k at free. w.told begun n k at (none k);
  }

  module _ (beside : Beside) (graph : IsGraph cs) (by : GoesBy cs beside Told) (turned : List Node)
      (waiting rest : List ℕ) (place : ℕ) (one : IsOneOf (Contains waiting) place rest)
      (w : IsSettling cs Told set starts turned waiting) (turned_now : List Node) (waiting_now : List ℕ)
      (settles : SettlesAt cs beside Told set place turned rest turned_now waiting_now) where
    -- what waits now did already, or is so beside
    pub waits-from : (k : ℕ) → Contains waiting_now k → Contains rest k ⊎ IsBeside beside cs place k
    waits-from k h = elim settles.spread [
      | inl kept ↦ inl (subst (λ ks. Contains ks k) kept.1 h)
      | inr moved ↦ (moved.3 k).0 h
    ]

    pub place-within : place < length cs
    place-within = w.within place ((one place).1 (inl refl))

    waits-still : (k : ℕ) → Contains rest k → Contains waiting_now k
    waits-still k h = elim settles.spread [
      | inl kept ↦ subst (λ ks. Contains ks k) (sym kept.1) h
      | inr moved ↦ (moved.3 k).1 (inl h)
    ]

    was-free : (k : ℕ) → k ≢ place → ¬ (Contains waiting_now k) → ¬ (Contains waiting k)
    was-free k other free h = elim ((one k).0 h) [ inl e ↦ other (sym e) | inr later ↦ free (waits-still k later) ]

    held-now : (n : Node) → Contains turned_now n → Holds cs n
    held-now n h = elim settles.spread [
      | inl kept ↦ w.held n (subst (λ ns. Contains ns n) kept.0 h)
      | inr moved ↦ elim ((moved.2 n).0 h) [
        | inl was ↦ w.held n was.0
        | inr new ↦ subst (Holds cs) (sym new.1) (Contains-from_place (nodes cs) place moved.0 moved.1)
      ]
    ]

    told-apart : (n : Node) (k : ℕ) → IsAt cs n k → k ≢ place → ¬ (Contains waiting_now k)
        → IsNow set turned n ↔ Told (IsNow set turned) n → IsNow set turned_now n ↔ Told (IsNow set turned_now) n
    told-apart n k at other free before = elim settles.spread [
      | inl kept ↦ subst (λ ns. IsNow set ns n ↔ Told (IsNow set ns) n) (sym kept.0) before
      | inr moved ↦
          let alike : (m : Node) (j : ℕ) → IsAt cs m j → j ≢ place → IsNow set turned_now m ↔ IsNow set turned m =
          λ m j at_m away. now-alike set turned turned_now m (others-alike moved.0 turned turned_now moved.2 m
          (λ e. away (same_place (nodes cs) moved.0 place j graph.distinct moved.1
          (subst (λ x. IsAt cs x j) e at_m)))) in
          let near : (m : Node) (j : ℕ) → IsAt cs m j → IsBeside beside cs j k
          → IsNow set turned_now m ↔ IsNow set turned m =
          λ m j at_m stands. alike m j at_m
          (λ e. free ((moved.3 k).1 (inr (subst (λ i. IsBeside beside cs i k) e stands)))) in
          let here = alike n k at other in (
            λ h. by (IsNow set turned) (IsNow set turned_now) n k at
                (λ m j at_m stands. let x = near m j at_m stands in (x.1, x.0)) (before.0 (here.0 h)),
            λ h. here.1 (before.1 (by (IsNow set turned_now) (IsNow set turned) n k at near h)),
          )
    ]

    pub settling-step : IsSettling cs Told set starts turned_now waiting_now
    settling-step = record {
      within = λ k h. elim (waits-from k h) [
        | inl later ↦ w.within k ((one k).1 (inr later))
        | inr stands ↦ beside-within beside cs graph place k place-within stands
      ];
      held = held-now;
      told = λ begun n k at free. elim (cases_order k place) [
        | inl same ↦ settles.here n (subst (IsAt cs n) same at)
        | inr apart ↦
            let other : k ≢ place = λ e. elim apart [ inl l ↦ omega (arith, l, e) | inr l ↦ omega (arith, l, e) ] in
            told-apart n k at other free (w.told begun n k at (was-free k other free))
      ];
    }

-- What pins no longer uphold once one of them is taken away, and the walk that finds it.
use Rattle.std.proofs.Common.{◌≡◌, ◌≢◌, ℕ, ◌+◌, ◌<◌, List, [], take, get_or, length, slice_get, Option, Some, None}
use Rattle.std.proofs.Common.{MatchOption, Contains, ◌↔◌, inl, inr}
use Rattle.std.proofs.Common.{sym, ap, subst, ◌∙◌}
use Rattle.std.proofs.lemmas.Bool.{cases_eq}
use Rattle.std.proofs.lemmas.Option.{same_Some}
use Rattle.hg_changeset.specs.declared.node.Node.{Node}
use Rattle.hg_changeset.proofs.ListLemmas.{Contains-none, Contains-taken}
use Rattle.hg_graph.specs.Graph.{nodes, Holds}
use Rattle.hg_graph.specs.Places.{IsAt, IsOnlyAt, IsParentPlace}
use Rattle.hg_graph.specs.Waiting.{Widens, IsLast}
use Rattle.hg_graph.proofs.GraphLemmas.{Contains-from_place}
use Rattle.hg_phases.specs.State.{changesets}
use Rattle.hg_replica.specs.State.{ReplicaState, IsValid}
use Rattle.hg_replica.specs.Content.{Content, content_of}
use Rattle.hg_instab.specs.Local.{IsParentOf}
use Rattle.hg_instab.specs.Walk.{Adds}
use Rattle.hg_instab.proofs.SettlingLemmas.{parent-from_place, place-from_parent, placed-node}
use Rattle.hg_view.specs.Shown.{IsAtOne}
use Rattle.hg_view.specs.Upheld.{AreUpheld}
use Rattle.hg_view.specs.Released.{AreReleased, AreReleasing, IsUpheldStill, IsPinnedBut, IsLeft, IsLeftAt}

-- what is left is what the other pins uphold
pub upheld-left : (f : Content) (pins fewer upheld gone left : List Node) (but : Node) → AreUpheld f pins upheld
    → AreReleased f pins but upheld gone → ((n : Node) → Contains left n ↔ IsLeft upheld gone n)
    → ((n : Node) → Contains fewer n ↔ IsPinnedBut pins but n) → AreUpheld f fewer left
upheld-left f pins fewer upheld gone left but are r lefts fewers = record {
  pinned = λ n h. are.pinned n ((fewers n).0 h).0;
  held = λ n h. are.held n ((lefts n).0 h).0;
  stands = λ n h. elim (r.upheld_still n ((lefts n).0 h)) [
    | inl pinned ↦ inl ((fewers n).1 pinned)
    | inr child ↦ inr (child.0, (lefts child.0).1 child.1, child.2)
  ];
  begun = λ n pinned m.
      let other = (fewers n).0 pinned in
      (lefts n).1 (are.begun n other.0 m, λ goes. r.not_upheld n goes (inl other));
  closed = λ n child m.
      let c = (lefts child.0).0 child.1 in
      (lefts n).1
      (are.closed n (child.0, c.0, child.2) m, λ goes. r.not_upheld n goes (inr (child.0, c, child.2)));
}

-- ---- the walk

module _ (s : ReplicaState) (pins : List Node) (but : Node) (upheld : List Node) where
  -- nothing has gone, and the one waits
  pub releasing-start : (gone : List Node) (place : Option ℕ) (old waiting : List ℕ)
      → AreUpheld (content_of s) pins upheld → gone ≡ []
      → MatchOption place (¬ (Holds (changesets s.history) but)) (IsOnlyAt (changesets s.history) but)
      → Widens (λ k. (place ≡ Some k) × IsLeftAt (changesets s.history) upheld gone k) old waiting
      → AreReleasing s pins but upheld gone waiting
  releasing-start gone place old waiting are empty there widens = record {
    not_upheld = λ n goes. absurd (clear n goes);
    upheld_still = λ n k at left free. elim (are.stands n left.0) [
      | inl pinned ↦ inl (pinned, λ same. free ((widens k).1 (inr (is place there n k at same, (n, at, left)))))
      | inr child ↦ inr (child.0, (child.1, clear child.0), child.2)
    ];
  }
    where
      clear : (n : Node) → ¬ (Contains gone n)
      clear n h = Contains-none n (subst (λ ns. Contains ns n) empty h)

      is : (o : Option ℕ) → MatchOption o (¬ (Holds (changesets s.history) but)) (IsOnlyAt (changesets s.history) but)
          → (n : Node) (k : ℕ) → IsAt (changesets s.history) n k → n ≡ but → o ≡ Some k
      is None out n k at same =
          absurd (out (subst (Holds (changesets s.history)) same
          (Contains-from_place (nodes (changesets s.history)) k n at)))
      is (Some j) only n k at same =
          ap (λ i. Some i) (sym ((only k).0 (subst (λ m. IsAt (changesets s.history) m k) same at)))

  -- no place waits
  pub releasing-end : (v : IsValid s) (gone : List Node) (waiting : List ℕ) → AreUpheld (content_of s) pins upheld
      → ((k : ℕ) → ¬ (Contains waiting k)) → AreReleasing s pins but upheld gone waiting
      → AreReleased (content_of s) pins but upheld gone
  releasing-end v gone waiting are none w = record {
    not_upheld = w.not_upheld;
    upheld_still = λ n left.
        let k = placed-node s v n (are.held n left.0) in
        w.upheld_still n k.0 k.1 left (none k.0);
  }

  module _ (gone : List Node) (waiting rest : List ℕ) (place : ℕ) (next : IsLast (Contains waiting) rest place)
      (w : AreReleasing s pins but upheld gone waiting) where
    -- what stands at the place is upheld still, or nothing does
    pub releasing-stays : ((n : Node) → IsAt (changesets s.history) n place
        → IsUpheldStill (content_of s) pins but upheld gone n) → AreReleasing s pins but upheld gone rest
    releasing-stays still = record {
      not_upheld = w.not_upheld;
      upheld_still = λ n k at left free. elim (cases_eq k place) [
        | inl same ↦ still n (subst (IsAt (changesets s.history) n) same at)
        | inr other ↦ w.upheld_still n k at left
            (λ h. elim ((next.0 k).0 h) [ inl e ↦ other (sym e) | inr more ↦ free more ])
      ];
    }

    -- what stands at the place goes, and its parents wait
    pub releasing-goes : (v : IsValid s) (node : Node) (gone_now : List Node) (waiting_now : List ℕ)
        → IsAt (changesets s.history) node place → ¬ (IsUpheldStill (content_of s) pins but upheld gone node)
        → Adds (λ n. node ≡ n) gone gone_now
        → Widens (λ k. IsParentPlace (changesets s.history) place k
        × IsLeftAt (changesets s.history) upheld gone_now k) rest waiting_now
        → AreReleasing s pins but upheld gone_now waiting_now
    releasing-goes v node gone_now waiting_now here none adds widens = record {
      not_upheld = λ n goes still. elim ((adds.members n).0 goes) [
        | inl old ↦ w.not_upheld n old (before n still)
        | inr e ↦ none (subst (IsUpheldStill (content_of s) pins but upheld gone) (sym e) (before n still))
      ];
      upheld_still = λ n k at left free.
          let other : k ≢ place = λ same. left.1 ((adds.members n).1 (inr (same_Some node n
          (sym here ∙ ap (slice_get (nodes (changesets s.history))) (sym same) ∙ at)))) in
          elim (w.upheld_still n k at (left.0, λ h. left.1 ((adds.members n).1 (inl h)))
          (λ h. elim ((next.0 k).0 h) [
            | inl e ↦ other (sym e)
            | inr more ↦ free ((widens k).1 (inl more))
          ])) [
            | inl pinned ↦ inl pinned
            | inr child ↦ inr (
              child.0,
              (
                child.1.0,
                λ goes. elim ((adds.members child.0).0 goes) [
                  | inl old ↦ child.1.1 old
                  | inr e ↦ free ((widens k).1 (inr (
                    place-from_parent s v node n place k here at
                        (subst (IsParentOf (content_of s) n) (sym e) child.2),
                    (n, at, left),
                  )))
                ],
              ),
              child.2,
            )
          ];
    }
      where
        before : (n : Node) → IsUpheldStill (content_of s) pins but upheld gone_now n
            → IsUpheldStill (content_of s) pins but upheld gone n
        before n still = elim still [
          | inl pinned ↦ inl pinned
          | inr child ↦ inr
              (child.0, (child.1.0, λ old. child.1.1 ((adds.members child.0).1 (inl old))), child.2)
        ]

-- ---- one place

module _ (s : ReplicaState) (v : IsValid s) (upheld gone : List Node) (node : Node) (place : ℕ)
    (at : IsAt (changesets s.history) node place) (places : List ℕ)
    (are : (k : ℕ) → Contains places k ↔ IsParentPlace (changesets s.history) k place) where
  -- a child that is left stands at one of the places of children
  pub children-left : ((n : Node) × IsAtOne (changesets s.history) places n × IsLeft upheld gone n)
      ↔ ((c : Node) × IsLeft upheld gone c × IsParentOf (content_of s) node c)
  children-left = (
    λ h. (
      h.0,
      h.2,
      parent-from_place s v h.0 node h.1.0 place h.1.2 at ((are h.1.0).0 h.1.1),
    ),
    λ h.
        let k = placed-node s v h.0 (h.2.0, h.2.1) in
        (h.0, (k.0, (are k.0).1 (place-from_parent s v h.0 node k.0 place k.1 at h.2), k.1), h.1),
  )

-- ---- what goes is taken out

-- one more goes
pub left-less : (upheld gone now new : List Node) (i : ℕ) (x : Node) → i < length gone → get_or gone i x ≡ x
    → ((n : Node) → Contains now n ↔ IsLeft upheld (take i gone) n)
    → ((n : Node) → Contains new n ↔ (Contains now n × (n ≢ x))) → (n : Node)
    → Contains new n ↔ IsLeft upheld (take (i + 1) gone) n
left-less upheld gone now new i x l at before less n = (
  λ h.
      let still = (less n).0 h in
      let left = (before n).0 still.0 in (
        left.0,
        λ goes. elim ((Contains-taken gone i x n l at).0 goes) [
          | inl old ↦ left.1 old
          | inr e ↦ still.1 (sym e)
        ],
      ),
  λ left. (less n).1 (
    (before n).1 (left.0, λ old. left.1 ((Contains-taken gone i x n l at).1 (inl old))),
    λ same. left.1 ((Contains-taken gone i x n l at).1 (inr (sym same))),
  ),
)

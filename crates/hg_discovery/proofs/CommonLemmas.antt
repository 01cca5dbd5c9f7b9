-- Heads of what both have in common, where parents of that are in common.
use Rattle.std.proofs.Common.{◌≡◌, ◌≢◌, ◌↔◌, ◌⊎◌, ℕ, zero, suc, ◌<◌, inl, inr, List, [], ◌∷◌, ◌++◌, length}
use Rattle.std.proofs.Common.{length-append, Some, Contains, refl, sym, ap, subst, ◌∙◌, arith}
use Rattle.std.specs.List.Sorted.{IsStrictlySortedBy}
use Rattle.std.proofs.lemmas.Bool.{cases_eq}
use Rattle.std.proofs.lemmas.Option.{same_Some, slice_get_within}
use Rattle.hg_changeset.specs.declared.node.Node.{Node}
use Rattle.hg_changeset.specs.Contents.{Contents}
use Rattle.hg_changeset.proofs.ListLemmas.{Contains-from_place, slice_get-append, slice_get-append_seam}
use Rattle.hg_changeset.proofs.ListLemmas.{slice_get-push_cases}
use Rattle.hg_graph.specs.declared.graph.ParentPlaces.{ParentPlaces}
use Rattle.hg_graph.specs.Graph.{nodes}
use Rattle.hg_graph.specs.Places.{IsAt}
use Rattle.hg_graph.proofs.PlaceLemmas.{IsAt-within}
use Rattle.hg_phases.specs.declared.phase.Phase.TheVariants.{Secret}
use Rattle.hg_phases.specs.State.{changesets}
use Rattle.hg_history.proofs.ContentLemmas.{content-node}
use Rattle.hg_replica.specs.State.{ReplicaState, IsValid}
use Rattle.hg_replica.specs.Content.{content_of}
use Rattle.hg_view.specs.Common.{IsCommonAt}
use Rattle.hg_view.specs.Descent.{IsClosedUnderParents}
use Rattle.hg_view.specs.Kept.{KeptValue}
use Rattle.hg_view.specs.Pins.{IsServedUnder}
use Rattle.hg_view.specs.Share.{IsShared}
use Rattle.hg_view.specs.HeadPlaces.{IsHeadAmong}
use Rattle.hg_view.proofs.CommonLemmas.{common_within}
use Rattle.hg_view.proofs.ShareLemmas.{shared-or}
use Rattle.hg_discovery.specs.declared.finding.Finding.{Finding}
use Rattle.hg_discovery.specs.declared.finding.Finding.TheVariants.{Undecided, Common, Missing}
use Rattle.hg_discovery.specs.declared.finding.PlacedNode.{PlacedNode}
use Rattle.hg_discovery.specs.Between.{AreHeadsInCommon}
use Rattle.hg_discovery.specs.Order.{placed_node_cmp}
use Rattle.hg_discovery.specs.Search.{Is, IsClosed, IsHead, nodes_of}
use Rattle.hg_discovery.specs.Start.{IsBaseline}
use Rattle.hg_discovery.proofs.BaselineLemmas.{baseline_exists, top_head}
use Rattle.hg_discovery.proofs.SortLemmas.{sorted_lists}
use Rattle.hg_discovery.proofs.StartLemmas.{one_placed_node, phase_in_content}
use Rattle.hg_discovery.proofs.UnderLemmas.{under_common}
use Rattle.hg_discovery.proofs.WholeLemmas.{AreToldApart, closed_told, told_in_common}

-- ---- what is so is common, and all else is missing

module _ (Q : ℕ → Type 0) where
  record IsDecidedBy (n : ℕ) (ds : List Finding) : Type 0 where
    pub len : length ds ≡ n
    pub none_undecided : (k : ℕ) → ¬ (Is ds Undecided k)
    pub common : (k : ℕ) → k < n → Is ds Common k ↔ Q k

  one_more : (n : ℕ) (ds : List Finding) (d : Finding) → IsDecidedBy n ds → d ≢ Undecided → ((d ≡ Common) ↔ Q n)
      → IsDecidedBy (suc n) (ds ++ d ∷ [])
  one_more n ds d before decided last = record {
    len = omega (arith, length-append ds (d ∷ []), before.len);
    none_undecided = λ k u. elim (slice_get-push_cases ds d k Undecided u)
        [ inl old ↦ before.none_undecided k old | inr new ↦ decided new.1 ];
    common = λ k lt. elim (cases_eq k n) [
      | inl e ↦ (
        λ c. elim (slice_get-push_cases ds d k Common c) [
          | inl old ↦ absurd (omega (arith, slice_get_within ds k Common old, before.len, e))
          | inr new ↦ subst Q (sym e) (last.0 new.1)
        ],
        λ q. subst (Is (ds ++ d ∷ []) Common) (sym (e ∙ sym before.len))
            (slice_get-append_seam ds d [] ∙ ap (λ x. Some x) (last.1 (subst Q e q))),
      )
      | inr ne ↦ (
        λ c. elim (slice_get-push_cases ds d k Common c) [
          | inl old ↦ (before.common k (omega (arith, lt, ne))).0 old
          | inr new ↦ absurd (ne (new.0 ∙ before.len))
        ],
        λ q. slice_get-append ds (d ∷ []) k Common ((before.common k (omega (arith, lt, ne))).1 q),
      )
    ];
  }

  decided_by : (n : ℕ) → ((k : ℕ) → k < n → Q k ⊎ ¬ (Q k)) → (ds : List Finding) × IsDecidedBy n ds
  decided_by zero tell = (
    [],
    record {
      len = refl;
      none_undecided = λ k u. omega (arith, slice_get_within [] k Undecided u);
      common = λ k lt. absurd (omega (arith, lt));
    },
  )
  decided_by (suc n) tell =
      let before = decided_by n (λ k lt. tell k (omega (arith, lt))) in
      elim (tell n (omega arith)) [
        | inl so ↦ (
          before.0 ++ Common ∷ [],
          one_more n before.0 Common before.1 (λ e. let c : Common ≡ Undecided = e in cc) (λ e. so, λ q. refl),
        )
        | inr out ↦ (
          before.0 ++ Missing ∷ [],
          one_more n before.0 Missing before.1 (λ e. let c : Missing ≡ Undecided = e in cc)
              (λ e. let c : Missing ≡ Common = e in cc, λ q. absurd (out q)),
        )
      ]

-- ---- what a walk finds is what rounds end with

module _ (ours : ReplicaState) (other : KeptValue) (valid : IsValid ours)
    (tell : (n : Node) → IsServedUnder (content_of other.replica) other.pins n
    ⊎ ¬ (IsServedUnder (content_of other.replica) other.pins n)) where
  abbrev cs : List Contents
  cs = changesets ours.history

  abbrev Served : Node → Type 0
  Served = IsServedUnder (content_of other.replica) other.pins

  in_common-or : (k : ℕ) → k < length cs → IsCommonAt ours other k ⊎ ¬ (IsCommonAt ours other k)
  in_common-or k lt =
      let n = IsAt-within cs k lt in
      let held = content-node ours.history valid.graph n.0 (Contains-from_place (nodes cs) k n.0 n.1) in
      let same : (so : IsCommonAt ours other k) → so.0 ≡ n.0 = λ so. same_Some so.0 n.0 (sym so.1 ∙ n.1) in
      elim (tell n.0) [
        | inr out ↦ inr (λ so. out (subst Served (same so) so.3))
        | inl served ↦ elim (shared-or (content_of ours) n.0 held) [
          | inl shared ↦ inl (n.0, n.1, shared, served)
          | inr secret ↦ inr (λ so. secret (subst (λ m. IsShared (content_of ours) m) (same so) so.2))
        ]
      ]

  -- what is in common is common, and all else is missing
  abbrev told : (ds : List Finding) × IsDecidedBy (IsCommonAt ours other) (length cs) ds
  told = decided_by (IsCommonAt ours other) (length cs) in_common-or

  last : List Finding
  last = told.0

  last_len : length last ≡ length cs
  unfolding last
  last_len = told.1.len

  none_undecided : (k : ℕ) → ¬ (Is last Undecided k)
  unfolding last
  none_undecided = told.1.none_undecided

  common_at : (k : ℕ) → Is last Common k ↔ IsCommonAt ours other k
  unfolding last
  common_at k = (
    λ c. (told.1.common k (omega (arith, slice_get_within last k Common c, last_len))).0 c,
    λ so. (told.1.common k (common_within ours other k so)).1 so,
  )

  module _ (closed : IsClosedUnderParents cs (IsCommonAt ours other)) (ps : List ParentPlaces) (xs : List PlacedNode)
      (ds : List Finding) (baseline : IsBaseline ours.history ps xs ds) where
    apart : AreToldApart Served xs last
    apart = record {
      none_undecided = none_undecided;
      common = λ k. (
        λ c.
            let so = (common_at k).0 c in
            let phase = phase_in_content ours.history valid.graph so.0 Secret in
            let x : PlacedNode = record { node = so.0; place = k } in
            (x, (baseline.shared x).1 (so.1, λ secret. so.2.1 (phase.1 secret)), refl, so.3),
        λ h.
            let x = h.0 in
            let at = (baseline.shared x).0 h.1 in
            let held = content-node ours.history valid.graph x.node
            (Contains-from_place (nodes cs) x.place x.node at.0) in
            let phase = phase_in_content ours.history valid.graph x.node Secret in
            subst (Is last Common) h.2
            ((common_at x.place).1 (x.node, at.0, (held, λ secret. at.1 (phase.0 secret)), h.3)),
      );
    }

    len : length last ≡ length ds
    len = omega (arith, last_len, baseline.shape.len, baseline.len)

    last_closed : IsClosed ps last
    last_closed = closed_told Served xs ds last baseline.placed_nodes apart len ps (len ∙ baseline.len)
        (λ j k parent c. (common_at k).1 (closed j k ((baseline.shape.parents j k).0 parent) ((common_at j).0 c)))

    -- what stands where one of the placed nodes does is that placed node
    placed_node_at : (x : PlacedNode) → Is last Common x.place → IsAt cs x.node x.place ↔ Contains xs x
    placed_node_at x c =
        let y = (apart.common x.place).0 c in (
          λ at.
              let at_y : IsAt cs y.0.node x.place = subst (IsAt cs y.0.node) y.2 ((baseline.shared y.0).0 y.1).0 in
              subst (Contains xs) (one_placed_node y.0 x (same_Some y.0.node x.node (sym at_y ∙ at)) y.2) y.1,
          λ in_xs. ((baseline.shared x).0 in_xs).0,
        )

    module _ (places : List ℕ) (are_heads : (k : ℕ) → Contains places k ↔ IsHeadAmong cs (IsCommonAt ours other) k)
        (new : List PlacedNode) (sorted : IsStrictlySortedBy placed_node_cmp new)
        (same : (x : PlacedNode) → Contains new x ↔ (Contains places x.place × IsAt cs x.node x.place)) where
      abbrev Head : PlacedNode → Type 0
      Head = IsHead (record { parents = ps; placed_nodes = xs; decided = last; asked = new }) Common

      found_heads : (x : PlacedNode) → Contains new x ↔ Head x
      found_heads x =
          let head = top_head cs ps baseline.shape baseline.in_order xs last Common new placed_node_at
          (λ k m j low high at_k at_j. under_common ps last last_closed m j high at_j) x in (
            λ h.
                let at = (same x).0 h in
                let top = (are_heads x.place).0 at.0 in
                head.0 (
                  at.1,
                  ((common_at x.place).1 top.0, λ j parent c. top.1 j parent ((common_at j).0 c)),
                ),
            λ h.
                let top = head.1 h in
                (same x).1 (
                  (are_heads x.place).1 (
                    (common_at x.place).0 top.1.0,
                    λ j parent so. top.1.1 j parent ((common_at j).1 so),
                  ),
                  top.0,
                ),
          )

      heads_in_common : AreHeadsInCommon ours other.replica other.pins (nodes_of new)
      heads_in_common =
          told_in_common ours other.replica other.pins tell ps xs ds last baseline apart len last_closed new
          (sorted_lists xs Head baseline.placed_nodes.distinct new sorted (λ x h. h.0.0) found_heads)

  pub walked_in_common : IsClosedUnderParents cs (IsCommonAt ours other) → (places : List ℕ)
      → ((k : ℕ) → Contains places k ↔ IsHeadAmong cs (IsCommonAt ours other) k) → (new : List PlacedNode)
      → IsStrictlySortedBy placed_node_cmp new
      → ((x : PlacedNode) → Contains new x ↔ (Contains places x.place × IsAt cs x.node x.place))
      → AreHeadsInCommon ours other.replica other.pins (nodes_of new)
  walked_in_common closed places are_heads new sorted same =
      let baseline = baseline_exists ours.history valid in
      heads_in_common closed baseline.0 baseline.1 baseline.2 baseline.3 places are_heads new sorted same

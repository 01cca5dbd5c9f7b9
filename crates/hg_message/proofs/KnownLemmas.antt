-- What is left of a part without the changesets that are known is absorbed as the whole part.
use Rattle.std.proofs.Common.{◌≡◌, ◌≢◌, ◌<◌, ◌≤◌, ◌⊎◌, ℕ, List, [], ◌∷◌, ◌++◌, length, take, slice_get, Some, Contains}
use Rattle.std.proofs.Common.{◌↔◌, Result, Ok, Err, inl, inr, refl, sym, ap, subst, ◌∙◌, arith}
use Rattle.std.proofs.lemmas.List.Elements.{Contains-append_left, Contains-append_right, Contains-append_cases}
use Rattle.std.proofs.lemmas.Option.{same_Some, none-some, slice_get_within}
use Rattle.hg_changeset.specs.declared.node.Node.{Node}
use Rattle.hg_changeset.specs.Node.{null_node}
use Rattle.hg_changeset.specs.Contents.{Contents}
use Rattle.hg_changeset.specs.Changeset.{node_of}
use Rattle.hg_changeset.proofs.ListLemmas.{Contains-one, Contains-map_from, slice_get_some, slice_get-append}
use Rattle.hg_graph.specs.Graph.{nodes}
use Rattle.hg_graph.proofs.GraphLemmas.{Contains-from_place, place_from_Contains, get-take, Holds-from}
use Rattle.hg_phases.specs.declared.phase.Phase.{Phase}
use Rattle.hg_phases.specs.declared.phase.Phase.TheVariants.{Public, Draft, Secret}
use Rattle.hg_phases.specs.State.{State, Held, rank, changesets, Holds, Reaches}
use Rattle.hg_phases.specs.Least.{PartValue as HistoryPart, Covers, IsBoundOfOne, IsChangesetOfOne, IsAdmitted, IsLeast}
use Rattle.hg_phases.proofs.LeastLemmas.{changeset_from, same_changeset, Holds-taken, least-then}
use Rattle.hg_phases.proofs.LawLemmas.{least-same}
use Rattle.hg_phases.proofs.FormLemmas.{least-covered, admitted-covered, valid-reach}
use Rattle.hg_history.specs.declared.fault.Fault.{Fault}
use Rattle.hg_history.specs.declared.fault.Fault.TheVariants.{UnknownParent, Collision, UnknownBound, NullBound}
use Rattle.hg_history.specs.declared.fault.Fault.TheVariants.{NoMemory}
use Rattle.hg_history.specs.Change.{unheld}
use Rattle.hg_history.specs.Answer.{IsFineUpTo, AreHeldUpTo, AreKnownUpTo, IsFirstUnheld, IsRefusal}
use Rattle.hg_history.specs.Answer.{IsGrowthBeforeFault as IsHistoryGrowth}
use Rattle.hg_history.proofs.AddLemmas.{Holds-same}
use Rattle.hg_history.proofs.UnheldLemmas.{unheld-none}
use Rattle.hg_replica.specs.State.{ReplicaState, IsValid}
use Rattle.hg_replica.specs.Least.{PartValue}
use Rattle.hg_replica.specs.Change.{ChangeValue}
use Rattle.hg_replica.specs.Answer.{AbsorbAnswer, IsGrowthBeforeFault}
use Rattle.hg_replica.proofs.LeastLemmas.{marker_of_one}
use Rattle.hg_message.specs.Value.{MessageValue}
use Rattle.hg_message.specs.Part.{draft_bounds, part_of}
use Rattle.hg_message.specs.Known.{AreKnown, IsPartAt, rest_of}

-- what isn't secret is draft at most
shared-rank : (k : Phase) → k ≢ Secret → rank k ≤ rank Draft
shared-rank Public ne = omega arith
shared-rank Draft ne = omega arith
shared-rank Secret ne = absurd (ne refl)

module _ (s : ReplicaState) (valid : IsValid s) (cs : List Contents) (known : AreKnown s cs)
    (bounds : List (Node × Phase)) where
  abbrev held : List Contents
  held = changesets s.history

  -- the changesets with their draft bounds, which are known
  abbrev drafts : HistoryPart
  drafts = record { changesets = cs; bounds = draft_bounds cs }

  -- what is left without these
  abbrev left : HistoryPart
  left = record { changesets = []; bounds = bounds }

  -- and both
  abbrev whole : HistoryPart
  whole = record { changesets = cs; bounds = bounds ++ draft_bounds cs }

  known_held : (c : Contents) → Contains cs c → Contains held c
  known_held c at = let k = known c at in subst (Contains held) k.2 (changeset_from s.history k.0 k.1)

  known_node : (c : Contents) → Contains cs c → Holds s.history (node_of c)
  known_node c at = Holds-from held c (known_held c at)

  covers_drafts : Covers s.history drafts
  covers_drafts = record {
    holds = known_held;
    bounded = λ b at.
        let c = Contains-map_from (λ (x : Contents). (node_of x, Draft)) cs b at in
        subst (λ (x : Node × Phase). Holds s.history x.0 × ((g : Held) → Contains s.history.held g
        → Reaches s.history (node_of g.changeset) x.0 → rank g.phase ≤ rank x.1)) c.2 (
          known_node c.0 c.1,
          λ g at_g reach.
              let k = known c.0 c.1 in
              let below = valid-reach s.history valid (node_of g.changeset) (node_of c.0) reach g k.0 at_g k.1 refl
              (ap node_of k.2) in
              let low = shared-rank k.0.phase k.3 in
              omega (arith, below, low),
        );
  }

  admitted : IsAdmitted s.history left → IsAdmitted s.history whole
  admitted a =
      let d = admitted-covered s.history drafts valid covers_drafts in
      record {
        parents = d.parents;
        bounds = λ b at. elim (Contains-append_cases bounds (draft_bounds cs) b at) [
          | inr x ↦ d.bounds b x
          | inl x ↦ elim (a.bounds b x) [ inl there ↦ inl there | inr none ↦ absurd (omega (arith, none.1)) ]
        ];
        apart = d.apart;
      }

  -- both parts, one after the other
  abbrev two : List HistoryPart
  two = drafts ∷ left ∷ []

  abbrev one : List HistoryPart
  one = whole ∷ []

  drafts_in : Contains two drafts
  drafts_in = (0, omega arith, refl)

  left_in : Contains two left
  left_in = (1, omega arith, refl)

  whole_in : Contains one whole
  whole_in = (0, omega arith, refl)

  either : (k : HistoryPart) → Contains two k → (drafts ≡ k) ⊎ (left ≡ k)
  either k at = elim (Contains-append_cases (drafts ∷ []) (left ∷ []) k at)
      [ inl x ↦ inl (Contains-one drafts k x) | inr x ↦ inr (Contains-one left k x) ]

  same_changesets : (c : Contents) → IsChangesetOfOne two c ↔ IsChangesetOfOne one c
  same_changesets c = (
    λ p. elim (either p.0 p.1) [
      | inl is ↦ (whole, whole_in, subst (λ (k : HistoryPart). Contains k.changesets c) (sym is) p.2)
      | inr is ↦
          let none : Contains [] c = subst (λ (k : HistoryPart). Contains k.changesets c) (sym is) p.2 in
          absurd (omega (arith, none.1))
    ],
    λ p. (
      drafts,
      drafts_in,
      subst (λ (k : HistoryPart). Contains k.changesets c) (sym (Contains-one whole p.0 p.1)) p.2,
    ),
  )

  same_bounds : (b : Node × Phase) → IsBoundOfOne two b ↔ IsBoundOfOne one b
  same_bounds b = (
    λ p. elim (either p.0 p.1) [
      | inl is ↦ (
        whole,
        whole_in,
        Contains-append_right bounds (draft_bounds cs) b
            (subst (λ (k : HistoryPart). Contains k.bounds b) (sym is) p.2),
      )
      | inr is ↦ (
        whole,
        whole_in,
        Contains-append_left bounds (draft_bounds cs) b
            (subst (λ (k : HistoryPart). Contains k.bounds b) (sym is) p.2),
      )
    ],
    λ p. elim (Contains-append_cases bounds (draft_bounds cs) b
        (subst (λ (k : HistoryPart). Contains k.bounds b) (sym (Contains-one whole p.0 p.1)) p.2)) [
          | inl x ↦ (left, left_in, x)
          | inr x ↦ (drafts, drafts_in, x)
        ],
  )

  least : (t : State) → IsLeast s.history (left ∷ []) t → IsLeast s.history one t
  least t l =
      let first : IsLeast s.history (drafts ∷ []) s.history =
      least-covered s.history (drafts ∷ []) valid
      (λ k at. subst (Covers s.history) (Contains-one drafts k at) covers_drafts) in
      least-same s.history two one t same_changesets same_bounds
      (least-then s.history (drafts ∷ []) (left ∷ []) s.history t first l)

  none_new : unheld held cs ≡ []
  none_new = unheld-none held cs known_held

  -- ---- refusals

  in_front : (j : ℕ) (d : Contents) → Contains (held ++ take j cs) d → Contains held d
  in_front j d at = elim (Contains-append_cases held (take j cs) d at) [
    | inl x ↦ x
    | inr x ↦
        let p = place_from_Contains (take j cs) d x in
        known_held d (Contains-from_place cs p.0 d (get-take cs j p.0 d p.1).1)
  ]

  fine : IsFineUpTo held cs (length cs)
  fine j c l at =
      let in_cs = Contains-from_place cs j c at in
      let place = place_from_Contains held c (known_held c in_cs) in (
        λ p is. Holds-same held (held ++ take j cs) (λ d x. Contains-append_left held (take j cs) d x) p
            (Holds-taken held place.0 p (valid.graph.parents_first place.0 c place.1 p is)),
        λ other. other.3 (same_changeset held valid.graph c other.0 (known_held c in_cs)
            (in_front j other.0 other.1) (sym other.2)),
      )

  wider : (n : Node) → Contains (nodes (held ++ [])) n → Contains (nodes (held ++ cs)) n
  wider n h = Holds-same (held ++ []) (held ++ cs) (λ c at. elim (Contains-append_cases held [] c at) [
    | inl x ↦ Contains-append_left held cs c x
    | inr x ↦ absurd (omega (arith, x.1))
  ]) n h

  narrower : (n : Node) → Contains (nodes (held ++ cs)) n → Contains (nodes (held ++ [])) n
  narrower n h = Holds-same (held ++ cs) (held ++ []) (λ c at. Contains-append_left held [] c
      (elim (Contains-append_cases held cs c at) [ inl x ↦ x | inr x ↦ known_held c x ])) n h

  -- a bound of the first ones stands among all
  first_bound : (j : ℕ) (b : Node × Phase) → j < length bounds → slice_get (bounds ++ draft_bounds cs) j ≡ Some b
      → slice_get bounds j ≡ Some b
  first_bound j b l at =
      let x = slice_get_some bounds j l in
      let same = same_Some x.0 b (sym (slice_get-append bounds (draft_bounds cs) j x.0 x.1) ∙ at) in
      x.1 ∙ ap Some same

  first_unheld : (n : Node) → IsFirstUnheld (held ++ []) bounds n
      → IsFirstUnheld (held ++ cs) (bounds ++ draft_bounds cs) n
  first_unheld n u =
      let within = slice_get_within bounds u.place u.bound u.at in
      record {
        place = u.place;
        bound = u.bound;
        at = slice_get-append bounds (draft_bounds cs) u.place u.bound u.at;
        before = λ j b l at. wider b.0 (u.before j b l (first_bound j b (omega arith) at));
        node = u.node;
        unheld = λ h. u.unheld (narrower n h);
      }

  refused : (fault : Fault) → IsRefusal held left fault → IsRefusal held whole fault
  refused (UnknownParent p) h = absurd (none-some h.1 h.2)
  refused (Collision n) h = absurd (none-some h.1 h.2)
  refused (UnknownBound n) h = (fine, first_unheld n h.1, h.2)
  refused NullBound h = (fine, first_unheld null_node h.1)
  refused NoMemory h = tt

  -- ---- growth

  all_known : AreKnownUpTo held cs (length cs)
  all_known j c l at = known_held c (Contains-from_place cs j c at)

  all_held : AreHeldUpTo held bounds (length bounds)
      → AreHeldUpTo held (bounds ++ draft_bounds cs) (length (bounds ++ draft_bounds cs))
  all_held h j b l at =
      elim (Contains-append_cases bounds (draft_bounds cs) b (Contains-from_place (bounds ++ draft_bounds cs) j b at)) [
        | inl x ↦
            let p = place_from_Contains bounds b x in
            h p.0 b (slice_get_within bounds p.0 b p.1) p.1
        | inr x ↦ (covers_drafts.bounded b x).0
      ]

  grown : IsHistoryGrowth s.history left → IsHistoryGrowth s.history whole
  unfolding IsHistoryGrowth
  grown (inl new) = absurd (none-some new.changeset new.at)
  grown (inr h) = inr (
    all_known,
    all_held h.1,
    (h.2.0, Contains-append_left bounds (draft_bounds cs) h.2.0 h.2.1, h.2.2),
  )

-- the whole part is answered as what is left of it
whole-answered : (s t : ReplicaState) (m : MessageValue) (r : Result ChangeValue Fault) → IsValid s
    → AreKnown s m.changesets → AbsorbAnswer s (rest_of m) r t → AbsorbAnswer s (part_of m) r t
unfolding AbsorbAnswer
whole-answered s t m (Ok change) valid known a =
    let none = none_new s valid m.changesets known m.bounds in
    let k = rest_of m in
    let l = part_of m in
    record {
      admitted = admitted s valid m.changesets known m.bounds a.admitted;
      least = record {
        history = least s valid m.changesets known m.bounds t.history a.least.history;
        markers = λ f. (
          λ at. elim ((a.least.markers f).0 at) [
            | inl x ↦ inl x
            | inr p ↦ inr ((marker_of_one l f).1 ((marker_of_one k f).0 p))
          ],
          λ h. elim h [
            | inl x ↦ (a.least.markers f).1 (inl x)
            | inr p ↦ (a.least.markers f).1 (inr ((marker_of_one k f).1 ((marker_of_one l f).0 p)))
          ],
        );
      };
      order = a.order ∙ ap (λ xs. changesets s.history ++ xs) (sym none);
      added = a.added ∙ ap nodes (sym none);
      lowered = a.lowered;
      marker_order = a.marker_order;
      markers = a.markers;
    }
whole-answered s t m (Err fault) valid known a = (refused s valid m.changesets known m.bounds fault a.0, a.1)

-- where something grows as what is left is taken in, something does as the whole is
whole-grown : (s : ReplicaState) (m : MessageValue) → IsValid s → AreKnown s m.changesets
    → IsGrowthBeforeFault s (rest_of m) → IsGrowthBeforeFault s (part_of m)
unfolding IsGrowthBeforeFault
whole-grown s m valid known (inl marker) = inl marker
whole-grown s m valid known (inr h) = inr (grown s valid m.changesets known m.bounds h)

pub part-answered : (s t : ReplicaState) (m : MessageValue) (part : PartValue) (r : Result ChangeValue Fault)
    → IsValid s → IsPartAt s m part → AbsorbAnswer s part r t → AbsorbAnswer s (part_of m) r t
part-answered s t m part r valid (inl is) a = subst (λ k. AbsorbAnswer s k r t) is a
part-answered s t m part r valid (inr h) a =
    whole-answered s t m r valid h.0 (subst (λ k. AbsorbAnswer s k r t) h.1 a)

pub part-grown : (s : ReplicaState) (m : MessageValue) (part : PartValue) → IsValid s → IsPartAt s m part
    → IsGrowthBeforeFault s part → IsGrowthBeforeFault s (part_of m)
part-grown s m part valid (inl is) g = subst (IsGrowthBeforeFault s) is g
part-grown s m part valid (inr h) g = whole-grown s m valid h.0 (subst (IsGrowthBeforeFault s) h.1 g)

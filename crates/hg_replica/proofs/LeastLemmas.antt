-- The least state with markers: each law is that of histories beside that of sets of markers.
use Rattle.std.proofs.Common.{◌≡◌, ◌<◌, List, [], ◌∷◌, ◌++◌, length, get_or, slice_get, Some, Contains, ◌↔◌, inl, inr}
use Rattle.std.proofs.Common.{refl, sym, ap, subst, ◌∙◌, arith}
use Rattle.std.specs.Option.{option_map}
use Rattle.std.proofs.lemmas.List.{length-map, map-append}
use Rattle.std.proofs.lemmas.List.Elements.{Contains-append_left, Contains-append_right, Contains-append_cases}
use Rattle.std.proofs.lemmas.Option.{slice_get-map, slice_get-get_or, get_or_from_slice_get}
use Rattle.hg_changeset.proofs.ListLemmas.{Contains-one, Contains-append_swap}
use Rattle.hg_marker.specs.Fields.{Fields}
use Rattle.hg_graph.proofs.GraphLemmas.{Contains-from_place, place_from_Contains}
use Rattle.hg_phases.specs.Least.{PartValue as HistoryPart, IsLeast as IsLeastHistory}
use Rattle.hg_phases.proofs.LeastLemmas.{least-above as history-above, least-below as history-below}
use Rattle.hg_phases.proofs.LeastLemmas.{least-then as history-then}
use Rattle.hg_phases.proofs.LawLemmas.{least-valid as history-valid, least-swap as history-swap}
use Rattle.hg_phases.proofs.LawLemmas.{least-again as history-again, least-covers as history-covers}
use Rattle.hg_phases.proofs.FormLemmas.{Below-itself, Below-then, least-along as history-along}
use Rattle.hg_phases.proofs.FormLemmas.{least-covered as history-covered, admitted-covered as history-admitted}
use Rattle.hg_phases.proofs.FormLemmas.{covered_above as history-stays}
use Rattle.hg_phases.proofs.JoinLemmas.{join-least as history-join, below-covers as history-below_covers}
use Rattle.hg_phases.proofs.ExistLemmas.{least-admitted as history-exists}
use Rattle.hg_phases.proofs.ContentLemmas.{least-unordered as history-unordered}
use Rattle.hg_replica.specs.State.{ReplicaState, IsValid, Below, IsSameState}
use Rattle.hg_replica.specs.Least.{PartValue, histories, Covers, IsAdmitted, IsMarkerOfOne, IsLeast, AreAdmitted}
use Rattle.hg_replica.specs.Least.{IsSmallest, IsLeastOneByOne, part_of}

-- ---- lists of parts

history_in : (ks : List PartValue) (k : PartValue) → Contains ks k → Contains (histories ks) k.history
history_in ks k at =
    let p = place_from_Contains ks k at in
    Contains-from_place (histories ks) p.0 k.history (slice_get-map (λ x. x.history) ks p.0
    ∙ ap (option_map (λ (x : PartValue). x.history)) p.1)

history_from : (ks : List PartValue) (j : HistoryPart) → Contains (histories ks) j → (k : PartValue) × Contains ks k
    × (k.history ≡ j)
history_from [] j at = absurd (omega (arith, at.1))
history_from (x ∷ ks) j at =
    let within : at.0 < length (x ∷ ks) = rw (length-map (x ∷ ks) (λ y. y.history)) at at.1 in
    let at_k = slice_get-get_or (x ∷ ks) at.0 x within in
    let k = get_or (x ∷ ks) at.0 x in
    let at_j : slice_get (histories (x ∷ ks)) at.0 ≡ Some k.history =
    slice_get-map (λ y. y.history) (x ∷ ks) at.0 ∙ ap (option_map (λ (y : PartValue). y.history)) at_k in (
      k,
      Contains-from_place (x ∷ ks) at.0 k at_k,
      sym (get_or_from_slice_get (histories (x ∷ ks)) at.0 k.history j at_j)
          ∙ at.2,
    )

each_history : (P : HistoryPart → Type 0) (ks : List PartValue) → ((k : PartValue) → Contains ks k → P k.history) →
    (j : HistoryPart) → Contains (histories ks) j → P j
each_history P ks h j at = let k = history_from ks j at in subst P k.2 (h k.0 k.1)

histories-append : (ks ls : List PartValue) → histories (ks ++ ls) ≡ histories ks ++ histories ls
histories-append ks ls = map-append (λ k. k.history) ks ls

-- a marker of one part alone
pub marker_of_one : (k : PartValue) (m : Fields) → IsMarkerOfOne (k ∷ []) m ↔ Contains k.markers m
marker_of_one k m =
    (λ p. subst (λ x. Contains x.markers m) (sym (Contains-one k p.0 p.1)) p.2, λ at. (k, (0, omega arith, refl), at))

-- ---- the order

pub below-itself : (s : ReplicaState) → Below s s
below-itself s = record { history = Below-itself s.history; markers = λ m at. at }

pub below-then : (s t u : ReplicaState) → Below s t → Below t u → Below s u
below-then s t u first next = record {
  history = Below-then s.history t.history u.history first.history next.history;
  markers = λ m at. next.markers m (first.markers m at);
}

-- ---- the least state

pub least-above : (s : ReplicaState) (ks : List PartValue) (t : ReplicaState) → IsLeast s ks t → Below s t
least-above s ks t l = record {
  history = history-above s.history (histories ks) t.history l.history;
  markers = λ m at. (l.markers m).1 (inl at);
}

pub least-valid : (s : ReplicaState) (ks : List PartValue) (t : ReplicaState) → IsLeast s ks t → IsValid s → IsValid t
least-valid s ks t l valid = history-valid s.history (histories ks) t.history l.history valid

pub least-covers : (s : ReplicaState) (ks : List PartValue) (t : ReplicaState) → IsLeast s ks t → (k : PartValue) →
    Contains ks k → Covers t k
least-covers s ks t l k at = record {
  history = history-covers s.history (histories ks) t.history l.history k.history (history_in ks k at);
  markers = λ m in_k. (l.markers m).1 (inr (k, at, in_k));
}

pub least-below : (s : ReplicaState) (ks : List PartValue) (t : ReplicaState) → IsLeast s ks t → (u : ReplicaState) →
    IsValid u → Below s u → ((k : PartValue) → Contains ks k → Covers u k) → Below t u
least-below s ks t l u valid above covers = record {
  history =
      history-below s.history (histories ks) t.history l.history u.history valid above.history
      (each_history _ ks (λ k at. (covers k at).history));
  markers = λ m at. elim ((l.markers m).0 at) [ inl x ↦ above.markers m x | inr p ↦ (covers p.0 p.1).markers m p.2 ];
}

pub smallest-least : (s t : ReplicaState) (ks : List PartValue) → IsValid s → IsLeast s ks t → IsSmallest s ks t
smallest-least s t ks valid l = record {
  valid = least-valid s ks t l valid;
  above = least-above s ks t l;
  covers = least-covers s ks t l;
  below_each = least-below s ks t l;
}

pub least-unique : (s t u : ReplicaState) (ks : List PartValue) → IsValid s → IsLeast s ks t → IsLeast s ks u →
    IsSameState t u
least-unique s t u ks valid l m = (
  least-below s ks t l u (least-valid s ks u m valid) (least-above s ks u m) (least-covers s ks u m),
  least-below s ks u m t (least-valid s ks t l valid) (least-above s ks t l) (least-covers s ks t l),
)

-- a state that says the same is the least one as well
pub least-along : (s : ReplicaState) (ks : List PartValue) (t u : ReplicaState) → IsValid t → IsLeast s ks u →
    IsSameState u t → IsLeast s ks t
least-along s ks t u valid l same = record {
  history =
      history-along s.history (histories ks) t.history u.history valid.graph l.history (same.0.history, same.1.history);
  markers = λ m. (λ at. (l.markers m).0 (same.1.markers m at), λ h. same.0.markers m ((l.markers m).1 h));
}

pub least-smallest : (s t u : ReplicaState) (ks : List PartValue) → IsValid s → IsLeast s ks u → IsSmallest s ks t →
    IsLeast s ks t
least-smallest s t u ks valid l m =
    least-along s ks t u m.valid l (
      least-below s ks u l t m.valid m.above m.covers,
      m.below_each u (least-valid s ks u l valid) (least-above s ks u l) (least-covers s ks u l),
    )

-- the first parts, and then the others
pub least-then : (s t u : ReplicaState) (ks ls : List PartValue) → IsLeast s ks t → IsLeast t ls u →
    IsLeast s (ks ++ ls) u
least-then s t u ks ls first next = record {
  history =
      subst (λ hs. IsLeastHistory s.history hs u.history) (sym (histories-append ks ls))
      (history-then s.history (histories ks) (histories ls) t.history u.history first.history next.history);
  markers = λ m. (
    λ at. elim ((next.markers m).0 at) [
      | inl x ↦
          elim ((first.markers m).0 x) [ inl y ↦ inl y | inr p ↦ inr (p.0, Contains-append_left ks ls p.0 p.1, p.2) ]
      | inr p ↦ inr (p.0, Contains-append_right ks ls p.0 p.1, p.2)
    ],
    λ h. elim h [
      | inl x ↦ (next.markers m).1 (inl ((first.markers m).1 (inl x)))
      | inr p ↦ elim (Contains-append_cases ks ls p.0 p.1) [
        | inl x ↦ (next.markers m).1 (inl ((first.markers m).1 (inr (p.0, x, p.2))))
        | inr x ↦ (next.markers m).1 (inr (p.0, x, p.2))
      ]
    ],
  );
}

pub least-swap : (s t : ReplicaState) (ks ls : List PartValue) → IsLeast s (ks ++ ls) t → IsLeast s (ls ++ ks) t
least-swap s t ks ls l = record {
  history =
      subst (λ hs. IsLeastHistory s.history hs t.history) (sym (histories-append ls ks))
      (history-swap s.history (histories ks) (histories ls) t.history
      (subst (λ hs. IsLeastHistory s.history hs t.history) (histories-append ks ls) l.history));
  markers = λ m. (
    λ at. elim ((l.markers m).0 at) [ inl x ↦ inl x | inr p ↦ inr (p.0, Contains-append_swap ks ls p.0 p.1, p.2) ],
    λ h. elim h [
      | inl x ↦ (l.markers m).1 (inl x)
      | inr p ↦ (l.markers m).1 (inr (p.0, Contains-append_swap ls ks p.0 p.1, p.2))
    ],
  );
}

pub least-again : (s t : ReplicaState) (ks : List PartValue) → IsLeast s ks t → IsLeast t ks t
least-again s t ks l = record {
  history = history-again s.history (histories ks) t.history l.history;
  markers = λ m. (λ at. inl at, λ h. elim h [ inl x ↦ x | inr p ↦ (l.markers m).1 (inr p) ]);
}

pub least-covered : (s : ReplicaState) (ks : List PartValue) → IsValid s →
    ((k : PartValue) → Contains ks k → Covers s k) → IsLeast s ks s
least-covered s ks valid covers = record {
  history = history-covered s.history (histories ks) valid (each_history _ ks (λ k at. (covers k at).history));
  markers = λ m. (λ at. inl at, λ h. elim h [ inl x ↦ x | inr p ↦ (covers p.0 p.1).markers m p.2 ]);
}

pub least-either : (s t u v w : ReplicaState) (k l : PartValue) → IsValid s → IsLeast s (k ∷ []) t →
    IsLeast t (l ∷ []) u → IsLeast s (l ∷ []) v → IsLeast v (k ∷ []) w → IsSameState u w
least-either s t u v w k l valid first next other last =
    least-unique s u w (k ∷ l ∷ []) valid
    (least-then s t u (k ∷ []) (l ∷ []) first next)
    (least-swap s w (l ∷ []) (k ∷ []) (least-then s v w (l ∷ []) (k ∷ []) other last))

pub least-one_by_one : (s t : ReplicaState) (ks : List PartValue) → IsValid s → IsLeastOneByOne s ks t → IsLeast s ks t
least-one_by_one s t [] valid e =
    subst (IsLeast s []) (sym e) (least-covered s [] valid (λ k at. absurd (omega (arith, at.1))))
least-one_by_one s t (k ∷ ks) valid h =
    least-then s h.0 t (k ∷ []) ks h.1 (least-one_by_one h.0 t ks (least-valid s (k ∷ []) h.0 h.1 valid) h.2)

-- ---- parts that have a least state

pub least-all_admitted : (s : ReplicaState) (ks : List PartValue) → IsValid s → AreAdmitted s ks →
    (t : ReplicaState) × IsLeast s ks t
least-all_admitted s [] valid a = (s, least-covered s [] valid (λ k at. absurd (omega (arith, at.1))))
least-all_admitted s (k ∷ ks) valid a =
    let one = history-exists s.history k.history valid a.0 a.1 in
    let t : ReplicaState = record { history = one.0; markers = s.markers ++ k.markers } in
    let least : IsLeast s (k ∷ []) t = record {
      history = one.1;
      markers = λ m. (
        λ at. elim (Contains-append_cases s.markers k.markers m at) [
          | inl x ↦ inl x
          | inr x ↦ inr ((marker_of_one k m).1 x)
        ],
        λ h. elim h [
          | inl x ↦ Contains-append_left s.markers k.markers m x
          | inr p ↦ Contains-append_right s.markers k.markers m ((marker_of_one k m).0 p)
        ],
      );
    } in
    let all = least-all_admitted t ks (least-valid s (k ∷ []) t least valid) (a.2 t least) in
    (all.0, least-then s t all.0 (k ∷ []) ks least all.1)

pub forms-same : (s t : ReplicaState) (ks : List PartValue) → IsValid s → AreAdmitted s ks →
    IsLeast s ks t ↔ IsSmallest s ks t
forms-same s t ks valid a =
    let u = least-all_admitted s ks valid a in
    (λ l. smallest-least s t ks valid l, λ m. least-smallest s t u.0 ks valid u.1 m)

-- ---- covered parts, and states as parts

pub admitted-covered : (s : ReplicaState) (k : PartValue) → IsValid s → Covers s k → IsAdmitted s k
admitted-covered s k valid covers = history-admitted s.history k.history valid covers.history

pub covered_above : (s t : ReplicaState) (k : PartValue) → IsValid t → Covers s k → Below s t → Covers t k
covered_above s t k valid covers above = record {
  history = history-stays s.history t.history k.history valid covers.history above.history;
  markers = λ m at. above.markers m (covers.markers m at);
}

pub below-covers : (t v : ReplicaState) → IsValid v → Below t v → Covers v (part_of t)
below-covers t v valid above =
    record { history = history-below_covers t.history v.history valid above.history; markers = above.markers }

pub join-least : (s t u : ReplicaState) → IsLeast s (part_of t ∷ []) u →
    Below s u × Below t u × ((v : ReplicaState) → IsValid v → Below s v → Below t v → Below u v)
join-least s t u l =
    let h = history-join s.history t.history u.history l.history in (
      least-above s (part_of t ∷ []) u l,
      record { history = h.1; markers = λ m at. (l.markers m).1 (inr ((marker_of_one (part_of t) m).1 at)) },
      λ v valid above_s above_t. least-below s (part_of t ∷ []) u l v valid above_s
          (λ k at. subst (Covers v) (Contains-one (part_of t) k at) (below-covers t v valid above_t)),
    )

pub least-itself : (s : ReplicaState) → IsValid s → IsLeast s (part_of s ∷ []) s
least-itself s valid =
    least-covered s (part_of s ∷ []) valid
    (λ k at. subst (Covers s) (Contains-one (part_of s) k at) (below-covers s s valid (below-itself s)))

-- for states that say the same, in whatever order each is kept
pub least-unordered : (s t u v : ReplicaState) (ks : List PartValue) → IsValid s → IsValid t → IsValid v →
    IsSameState s t → IsSameState u v → IsLeast s ks u → IsLeast t ks v
least-unordered s t u v ks s_valid t_valid v_valid same_below same_above l = record {
  history =
      history-unordered s.history t.history u.history v.history (histories ks) s_valid.graph t_valid.graph v_valid.graph
      (same_below.0.history, same_below.1.history) (same_above.0.history, same_above.1.history) l.history;
  markers = λ m. (
    λ at. elim ((l.markers m).0 (same_above.1.markers m at)) [ inl x ↦ inl (same_below.0.markers m x) | inr p ↦ inr p ],
    λ h. same_above.0.markers m ((l.markers m).1 (elim h [ inl x ↦ inl (same_below.1.markers m x) | inr p ↦ inr p ])),
  );
}

-- What a replica comes to by a part, from what its history and its store answered.
use Rattle.std.proofs.Common.{◌≡◌, ◌<◌, ◌⊎◌, ◌∙◌, ◌++◌, ℕ, List, [], ◌∷◌, length, take, Contains, Result, Ok, Err, IfOk}
use Rattle.std.proofs.Common.{inl, inr, refl, sym, ap, subst, arith}
use Rattle.std.specs.Prelude.{IsErrOf}
use Rattle.std.proofs.Math.Seq.{take-append_seam}
use Rattle.std.proofs.lemmas.List.{append-nil, length-append}
use Rattle.hg_join.specs.declared.absorbed.Absorbed.{Absorbed}
use Rattle.hg_join.specs.Absorbed.{without_undo}
use Rattle.hg_marker.specs.Fields.{Fields}
use Rattle.hg_phases.specs.State.{State}
use Rattle.hg_phases.specs.Least.{part_of as history_part_of}
use Rattle.hg_history.specs.declared.fault.Fault.{Fault}
use Rattle.hg_history.specs.declared.fault.Fault.TheVariants.{NoMemory}
use Rattle.hg_history.specs.Answer.{AbsorbAnswer as AbsorbHistoryAnswer, IsGrowthBeforeFault as IsHistoryGrowth}
use Rattle.hg_history.specs.Change.{ChangeValue as HistoryChange, IsNothing as IsHistoryNothing}
use Rattle.hg_history.specs.Undo.{UndoValue as HistoryUndo, LeadsBack as LeadsHistoryBack}
use Rattle.hg_history.proofs.NothingLemmas.{empty_or_not}
use Rattle.hg_obsstore.specs.Sets.{IsUnion}
use Rattle.hg_obsstore.specs.Growth.{holds, united, new_among, AreNewPlaces}
use Rattle.hg_replica.specs.State.{ReplicaState}
use Rattle.hg_replica.specs.Least.{PartValue, part_of}
use Rattle.hg_replica.specs.Change.{ChangeValue, IsNothing}
use Rattle.hg_replica.specs.Answer.{AbsorbAnswer, KeepAnswer, IsGrowthBeforeFault}
use Rattle.hg_replica.specs.Undo.{UndoValue, LeadsBack}
use Rattle.hg_replica.proofs.ContentLemmas.{least-union}

module _ (held new : List Fields) (places : List ℕ) (are : AreNewPlaces held (held ++ new) places) where
  -- where no place is told, no marker is new
  none_new : places ≡ [] → new ≡ []
  none_new none_told = elim (empty_or_not new) [
    | inl e ↦ e
    | inr some ↦
        let more : length held < length (held ++ new) =
        elim (empty_or_not_length new some) [ inl l ↦ omega (arith, l, length-append held new) | inr e ↦ absurd e ] in
        let at = (are.exact (length held)).1 (omega arith, more) in
        let l = ap length none_told in
        absurd (omega (arith, at.1, l))
  ]
    where
      empty_or_not_length : (ns : List Fields) → ¬ (ns ≡ []) → (0 < length ns) ⊎ ⊥
      empty_or_not_length [] some = inr (some refl)
      empty_or_not_length (n ∷ ns) some = inl (omega arith)

  -- where no marker is new, no place is told
  none_told : new ≡ [] → places ≡ []
  none_told none_new = by places refl
    where
      by : (ps : List ℕ) → places ≡ ps → places ≡ []
      by [] e = e
      by (p ∷ ps) e =
          let q = (are.exact p).0 (subst (λ xs. Contains xs p) (sym e) (0, omega arith, refl)) in
          let l = ap length none_new in
          absurd (omega (arith, q.0, q.1, l, length-append held new))

-- all that is told of a part at s, and of the state after it
pub record Taken (s : ReplicaState) (k : PartValue) (result : Result (Absorbed ChangeValue UndoValue) Fault)
    (t : ReplicaState) : Type 0 where
  pub answer : AbsorbAnswer s k (without_undo result) t
  pub back : IfOk result (λ absorbed. LeadsBack t absorbed.undo s)
  pub nothing : IfOk result (λ absorbed. IsNothing absorbed.change → t ≡ s)
  pub growth : IfOk result (λ absorbed. IsNothing absorbed.change ⊎ IsGrowthBeforeFault s k)
  pub memory : IsErrOf result NoMemory → IsGrowthBeforeFault s k

module _ (s : ReplicaState) (k : PartValue) (h : State) (grown kept : List Fields) (before : ℕ) (places : List ℕ)
    (first : before ≡ length s.markers) (order : grown ≡ united s.markers k.markers)
    (union : IsUnion (holds s.markers) (holds k.markers) (holds grown))
    (new : AreNewPlaces s.markers grown places) where
  -- where the history has answered, and the store kept or forgot what it added
  pub taken : (answered : Result (Absorbed HistoryChange HistoryUndo) Fault)
      (result : Result (Absorbed ChangeValue UndoValue) Fault) → KeepAnswer before places answered grown result kept
      → AbsorbHistoryAnswer s.history k.history (without_undo answered) h
      → IfOk answered (λ absorbed. LeadsHistoryBack h absorbed.undo s.history)
      → IfOk answered (λ absorbed. IsHistoryNothing absorbed.change → h ≡ s.history)
      → IfOk answered (λ absorbed. IsHistoryNothing absorbed.change ⊎ IsHistoryGrowth s.history k.history)
      → (IsErrOf answered NoMemory → IsHistoryGrowth s.history k.history)
      → Taken s k result (record { history = h; markers = kept })
  unfolding AbsorbAnswer IsGrowthBeforeFault
  taken (Ok absorbed) result keeps answer back same grew memory =
      let t : ReplicaState = record { history = h; markers = kept } in
      let fresh = new_among s.markers k.markers in
      let all : kept ≡ s.markers ++ fresh = keeps.1 ∙ order in
      let at_order : AreNewPlaces s.markers (s.markers ++ fresh) places =
      subst (λ ms. AreNewPlaces s.markers ms places) order new in
      subst (λ r. Taken s k r t) (sym keeps.0)
      (record {
        answer = record {
          admitted = answer.admitted;
          least = record {
            history = answer.least;
            markers = (least-union s k t).1
                (subst (λ ms. IsUnion (holds s.markers) (holds k.markers) (holds ms)) (sym keeps.1) union);
          };
          order = answer.order;
          added = answer.added;
          lowered = answer.lowered;
          marker_order = all;
          markers = subst (λ ms. AreNewPlaces s.markers ms places) (sym keeps.1) new;
        };
        back = record {
          history = back;
          within = omega (arith, first, ap length all, length-append s.markers fresh);
          markers = sym ((λ i. take (first i) (all i)) ∙ take-append_seam s.markers fresh);
        };
        nothing = λ none.
            let history = same (none.0, none.1) in
            let markers : kept ≡ s.markers =
            all ∙ ap (λ ms. s.markers ++ ms) (none_new s.markers fresh places at_order none.2)
            ∙ append-nil s.markers in
            λ i. record { history = history i; markers = markers i };
        growth = elim (empty_or_not fresh) [
          | inr some ↦ inr (inl some)
          | inl none ↦ elim grew [
            | inr growth ↦ inr (inr growth)
            | inl nothing ↦ inl (nothing.0, nothing.1, none_told s.markers fresh places at_order none)
          ]
        ];
        memory = λ is. absurd cc;
      })
  taken (Err fault) result keeps answer back same grew memory =
      let markers : kept ≡ s.markers =
      keeps.1 ∙ (λ i. take (first i) (order i)) ∙ take-append_seam s.markers (new_among s.markers k.markers) in
      subst (λ r. Taken s k r (record { history = h; markers = kept })) (sym keeps.0)
      (record {
        answer = (answer.0, λ i. record { history = answer.1 i; markers = markers i });
        back = tt;
        nothing = tt;
        growth = tt;
        memory = λ is. let one : fault ≡ NoMemory = cc in inr (memory (ap (λ x. Err x) one));
      })

-- where the other is joined in, something grew, or the state is the same
pub join_grown : (s o : ReplicaState) (h : State) (kept : List Fields) → kept ≡ united s.markers o.markers
    → IsHistoryGrowth s.history (history_part_of o.history) ⊎ (h ≡ s.history)
    → IsGrowthBeforeFault s (part_of o) ⊎ (record { history = h; markers = kept } ≡ s)
unfolding IsGrowthBeforeFault
join_grown s o h kept order grew = elim (empty_or_not (new_among s.markers o.markers)) [
  | inr some ↦ inl (inl some)
  | inl fresh ↦ elim grew [
    | inl growth ↦ inl (inr growth)
    | inr same ↦
        let markers : kept ≡ s.markers = order ∙ ap (λ ms. s.markers ++ ms) fresh ∙ append-nil s.markers in
        inr (λ i. record { history = same i; markers = markers i })
  ]
]

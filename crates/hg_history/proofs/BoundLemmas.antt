-- Looking bounds up, and lowering to them.
use Rattle.std.proofs.Common.{◌≡◌, ℕ, ◌<◌, ◌≤◌, ◌+◌, List, [], ◌∷◌, ◌++◌, take, slice_get, Some, Contains, ◌⊎◌, inl}
use Rattle.std.proofs.Common.{inr, refl, sym, ap, subst, ◌∙◌, arith}
use Rattle.std.proofs.lemmas.List.{take_more}
use Rattle.std.proofs.lemmas.List.Elements.{Contains-append_left, Contains-push, Contains-push_cases}
use Rattle.std.proofs.lemmas.Bool.{cases_eq}
use Rattle.std.proofs.lemmas.Option.{same_Some, slice_get_within, get_or_from_slice_get}
use Rattle.hg_changeset.specs.declared.node.Node.{Node}
use Rattle.hg_changeset.specs.Contents.{Contents}
use Rattle.hg_changeset.proofs.ListLemmas.{Contains-one}
use Rattle.hg_graph.specs.Graph.{Holds}
use Rattle.hg_graph.proofs.GraphLemmas.{Contains-from_place}
use Rattle.hg_phases.specs.declared.phase.Phase.{Phase}
use Rattle.hg_phases.specs.declared.phase.Phase.TheVariants.{Secret}
use Rattle.hg_phases.specs.State.{State, IsValid, rank, state_of, Holds as StateHolds}
use Rattle.hg_phases.specs.declared.lowered.LoweredPlace.{LoweredPlace}
use Rattle.hg_phases.specs.Lowered.{IsAbove}
use Rattle.hg_phases.specs.Least.{PartValue, IsLeast}
use Rattle.hg_phases.proofs.LeastLemmas.{rank-top}
use Rattle.hg_phases.proofs.LawLemmas.{least-more, least-valid}
use Rattle.hg_history.specs.declared.fault.Fault.{Fault}
use Rattle.hg_history.specs.declared.fault.Fault.TheVariants.{UnknownParent, Collision, UnknownBound, NullBound}
use Rattle.hg_history.specs.declared.fault.Fault.TheVariants.{NoMemory}
use Rattle.hg_history.specs.Answer.{AreHeldUpTo, HasHigher}
use Rattle.hg_history.specs.Steps.{IsBoundFault, IsBoundAt, OneLowered, IsLoweredTo}

-- the first bound whose node isn't held
pub bound_fault : (cs : List Contents) (bounds : List (Node × Phase)) (i : ℕ) (b : Node × Phase) (f : Fault)
    → slice_get bounds i ≡ Some b
    → AreHeldUpTo cs bounds i → IsBoundAt cs b.0 f → IsBoundFault cs bounds f
bound_fault cs bounds i b (UnknownParent p) at before h = h
bound_fault cs bounds i b (Collision n) at before h = h
bound_fault cs bounds i b (UnknownBound n) at before h = (
  record {
    place = i;
    bound = b;
    at = at;
    before = before;
    node = sym h.1;
    unheld =
        subst (λ m. ¬ (Holds cs m)) (sym h.1) h.0;
  },
  h.2,
)
bound_fault cs bounds i b NullBound at before h =
    record { place = i; bound = b; at = at; before = before; node = h.1; unheld = subst (λ m. ¬ (Holds cs m)) h.1 h.0 }
bound_fault cs bounds i b NoMemory at before h = h

pub taken : (bounds : List (Node × Phase)) (i : ℕ) (b : Node × Phase) → slice_get bounds i ≡ Some b
    → take (i + 1) bounds ≡ take i bounds ++ b ∷ []
taken bounds i b at =
    take_more bounds i b (slice_get_within bounds i b at)
    ∙ ap (λ x. take i bounds ++ x ∷ []) (get_or_from_slice_get bounds i b b at)

-- one more bound is held
pub held-more : (cs : List Contents) (bounds : List (Node × Phase)) (i : ℕ) (b : Node × Phase)
    → slice_get bounds i ≡ Some b → AreHeldUpTo cs bounds i → Holds cs b.0 → AreHeldUpTo cs bounds (i + 1)
held-more cs bounds i b at before here j d l at_d = elim (cases_eq j i) [
  | inr ne ↦ let less : j < i = omega arith in before j d less at_d
  | inl e ↦ subst (λ x. Holds cs x.0) (same_Some b d (sym at ∙ ap (slice_get bounds) (sym e) ∙ at_d)) here
]

-- one more bound
pub IsLoweredTo-step : (cs : List Contents) (bounds : List (Node × Phase)) (i : ℕ) (b : Node × Phase) (phase : Phase)
    (old now new : List Phase) → slice_get bounds i ≡ Some b
    → IsLoweredTo cs (take i bounds) phase old now → OneLowered cs b phase now new
    → IsLoweredTo cs (take (i + 1) bounds) phase old new
IsLoweredTo-step cs bounds i b phase old now new at so one s p bs l =
    let r = so s p bs l in
    let more = taken bounds i b at in
    elim one [
      | inl x ↦ (
        r.0 ++ b ∷ [],
        least-more s p r.0 b (state_of cs now) (state_of cs new) r.1 x.1,
        λ d at_d. elim (Contains-push_cases r.0 b d at_d) [
          | inl y ↦ elim (r.2 d y) [
            | inl z ↦ inl z
            | inr z ↦ inr
                (subst (λ xs. Contains xs d) (sym more) (Contains-append_left (take i bounds) (b ∷ []) d z))
          ]
          | inr e ↦ inr
              (subst (λ xs. Contains xs d) (sym more)
              (subst (Contains (take i bounds ++ b ∷ [])) e (Contains-push (take i bounds) b)))
        ],
        λ d at_d. Contains-append_left r.0 (b ∷ []) d (r.3 d at_d),
        λ d at_d is. elim (Contains-push_cases (take i bounds) b d (subst (λ xs. Contains xs d) more at_d)) [
          | inl y ↦ Contains-append_left r.0 (b ∷ []) d (r.4 d y is)
          | inr e ↦ subst (Contains (r.0 ++ b ∷ [])) e (Contains-push r.0 b)
        ],
      )
      | inr x ↦ (
        r.0,
        subst (λ ks. IsLeast s (record { changesets = p; bounds = r.0 } ∷ []) (state_of cs ks)) (sym x.1) r.1,
        λ d at_d. elim (r.2 d at_d) [
          | inl z ↦ inl z
          | inr z ↦ inr
              (subst (λ xs. Contains xs d) (sym more) (Contains-append_left (take i bounds) (b ∷ []) d z))
        ],
        r.3,
        λ d at_d is. elim (Contains-push_cases (take i bounds) b d (subst (λ xs. Contains xs d) more at_d)) [
          | inl y ↦ r.4 d y is
          | inr e ↦ absurd (x.0 (subst (λ y. y.1 ≡ phase) (sym e) is))
        ],
      )
    ]

-- a state in which a bound was lowered to is valid
pub valid-lowered : (cs : List Contents) (b : Node × Phase) (phase : Phase) (now new : List Phase)
    → IsValid (state_of cs now) → OneLowered cs b phase now new → IsValid (state_of cs new)
valid-lowered cs b phase now new valid one = elim one [
  | inl x ↦ least-valid (state_of cs now) _ (state_of cs new) x.1 valid
  | inr x ↦ subst (λ ks. IsValid (state_of cs ks)) (sym x.1) valid
]

-- bounds that say no more than secret need no lowering
pub least-secrets : (s : State) (p : List Contents) (bs bounds : List (Node × Phase)) (t : State)
    → ((b : Node × Phase) → Contains bs b → Contains bounds b)
    → ((b : Node × Phase) → Contains bounds b → Contains bs b ⊎ (b.1 ≡ Secret))
    → ((b : Node × Phase) → Contains bounds b → StateHolds t b.0)
    → IsLeast s (record { changesets = p; bounds = bs } ∷ []) t
    → IsLeast s (record { changesets = p; bounds = bounds } ∷ []) t
least-secrets s p bs bounds t sub all held l = record {
  graph = l.graph;
  union = λ c. (
    λ at. elim ((l.union c).0 at) [
      | inl x ↦ inl x
      | inr h ↦ let e = Contains-one few h.0 h.1 in
          inr (full, one full, subst (λ x. Contains x.changesets c) (sym e) h.2)
    ],
    λ h. elim h [
      | inl x ↦ (l.union c).1 (inl x)
      | inr h ↦ let e = Contains-one full h.0 h.1 in
          (l.union c).1 (inr (few, one few, subst (λ x. Contains x.changesets c) (sym e) h.2))
    ],
  );
  bounded = λ b h. let e = Contains-one full h.0 h.1 in held b (subst (λ x. Contains x.bounds b) (sym e) h.2);
  phases = λ g at. (
    elim (l.phases g at).0 [
      | inl x ↦ inl x
      | inr o ↦ elim o [
        | inl x ↦ inr (inl x)
        | inr b ↦ let e = Contains-one few b.1.0 b.1.1 in
            inr (inr (b.0, (full, one full, sub b.0 (subst (λ x. Contains x.bounds b.0) (sym e) b.1.2)), b.2, b.3))
      ]
    ],
    λ j candidate. elim candidate [
      | inl x ↦ (l.phases g at).1 j (inl x)
      | inr o ↦ elim o [
        | inl x ↦ (l.phases g at).1 j (inr (inl x))
        | inr b ↦
            let e = Contains-one full b.1.0 b.1.1 in
            elim (all b.0 (subst (λ x. Contains x.bounds b.0) (sym e) b.1.2)) [
              | inl x ↦ (l.phases g at).1 j (inr (inr (b.0, (few, one few, x), b.2, b.3)))
              | inr top ↦ subst (λ x. rank g.phase ≤ rank x) (sym top ∙ b.3) (rank-top g.phase)
            ]
      ]
    ],
  );
}
  where
    few : PartValue
    few = record { changesets = p; bounds = bs }

    full : PartValue
    full = record { changesets = p; bounds = bounds }

    one : (y : PartValue) → Contains (y ∷ []) y
    one y = (0, omega arith, refl)

-- one more bound's node may be above it
module _ (cs : List Contents) (bounds : List (Node × Phase)) (i : ℕ) (b : Node × Phase)
    (at : slice_get bounds i ≡ Some b) (old now : List Phase) (before log : List LoweredPlace)
    (still : HasHigher (state_of cs old) bounds ⊎ ((now ≡ old) × (log ≡ before))) where
  pub higher_at : IsAbove (state_of cs now) b.0 b.1 → HasHigher (state_of cs old) bounds
  higher_at above = elim still [
    | inl higher ↦ higher
    | inr same ↦ (b, Contains-from_place bounds i b at, subst (λ ks. IsAbove (state_of cs ks) b.0 b.1) same.0 above)
  ]

  pub still_more : (new : List Phase) (newlog : List LoweredPlace) → IsAbove (state_of cs now) b.0 b.1
      ⊎ ((new ≡ now) × (newlog ≡ log)) → HasHigher (state_of cs old) bounds ⊎ ((new ≡ old) × (newlog ≡ before))
  still_more new newlog one = elim one [
    | inl above ↦ inl (higher_at above)
    | inr kept ↦ elim still [ inl higher ↦ inl higher | inr same ↦ inr (kept.0 ∙ same.0, kept.1 ∙ same.1) ]
  ]

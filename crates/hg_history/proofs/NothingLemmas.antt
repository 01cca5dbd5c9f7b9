-- What is told where nothing changed, and what changed where nothing is told.
use Rattle.std.proofs.Common.{◌≡◌, ◌≢◌, ◌∙◌, ◌⊎◌, ℕ, List, [], ◌∷◌, ◌++◌, length, map, take, Contains, Result}
use Rattle.std.proofs.Common.{Ok, Err, IfOk, inl, inr, refl, sym, ap, subst, arith}
use Rattle.std.proofs.lemmas.Bool.{cases_eq, cases_lt}
use Rattle.std.proofs.lemmas.List.{append-nil, length-append, take_all}
use Rattle.std.proofs.lemmas.List.Elements.{Contains-append_right}
use Rattle.hg_changeset.specs.Contents.{Contents}
use Rattle.hg_changeset.specs.Changeset.{node_of}
use Rattle.hg_changeset.specs.declared.node.Node.{Node}
use Rattle.hg_graph.specs.Graph.{IsGraph, nodes}
use Rattle.hg_phases.specs.declared.phase.Phase.{Phase}
use Rattle.hg_phases.specs.declared.lowered.LoweredPlace.{LoweredPlace}
use Rattle.hg_phases.specs.State.{State, Held, IsValid, rank, changesets, state_of}
use Rattle.hg_phases.specs.Least.{PartValue}
use Rattle.hg_phases.specs.Log.{restored}
use Rattle.hg_phases.specs.Lowered.{WentDown}
use Rattle.hg_phases.proofs.FormLemmas.{rank-apart}
use Rattle.hg_phases.proofs.LeastLemmas.{least-above, same_held}
use Rattle.hg_history.specs.declared.fault.Fault.{Fault}
use Rattle.hg_join.specs.declared.absorbed.Absorbed.{Absorbed}
use Rattle.hg_join.specs.Absorbed.{without_undo}
use Rattle.hg_history.specs.Answer.{AbsorbAnswer, IsAbsorbed, IsGrowthBeforeFault}
use Rattle.hg_history.specs.Change.{ChangeValue, IsNothing, unheld}
use Rattle.hg_history.specs.Steps.{CanTakeBack}

-- a list is empty or not
pub empty_or_not : {X : Type 0} (xs : List X) → (xs ≡ []) ⊎ (xs ≢ [])
empty_or_not [] = inl refl
empty_or_not (x ∷ xs) = inr (λ e. let l = ap length e in omega (arith, l))

nothing_or_not : (change : ChangeValue) → IsNothing change ⊎ ¬ (IsNothing change)
nothing_or_not change = elim (empty_or_not change.added) [
  | inr some ↦ inr (λ e. some e.0)
  | inl none_added ↦ elim (empty_or_not change.lowered) [
    | inl none_lowered ↦ inl (none_added, none_lowered)
    | inr some ↦ inr (λ e. some e.1)
  ]
]

nodes_none : (cs : List Contents) → nodes cs ≡ [] → cs ≡ []
nodes_none [] e = refl
nodes_none (c ∷ cs) e = absurd (let l = ap length e in omega (arith, l))

length_none : {X : Type 0} (xs : List X) → length xs ≡ 0 → xs ≡ []
length_none [] e = refl
length_none (x ∷ xs) e = absurd (omega (arith, e))

-- lists of the same changesets, each with the same phase in both, are equal
same_list : (gs hs : List Held) → map (λ g. g.changeset) gs ≡ map (λ h. h.changeset) hs
    → ((g h : Held) → Contains gs g → Contains hs h → g.changeset ≡ h.changeset → g.phase ≡ h.phase) → gs ≡ hs
same_list [] [] e phases = refl
same_list [] (h ∷ hs) e phases = absurd (let l = ap length e in omega (arith, l))
same_list (g ∷ gs) [] e phases = absurd (let l = ap length e in omega (arith, l))
same_list (g ∷ gs) (h ∷ hs) e phases =
    let first : g.changeset ≡ h.changeset = cc in
    let rest : map (λ x. x.changeset) gs ≡ map (λ x. x.changeset) hs = cc in
    let phase = phases g h (0, omega arith, refl) (0, omega arith, refl) first in
    let more =
    same_list gs hs rest
    (λ x y at_x at_y. phases x y (Contains-append_right (g ∷ []) gs x at_x)
    (Contains-append_right (h ∷ []) hs y at_y)) in
    λ i. record { changeset = first i; phase = phase i } ∷ more i

-- where nothing is told, nothing changed
pub nothing_changed : (s t : State) (k : PartValue) (change : ChangeValue) → IsAbsorbed s k change t
    → IsNothing change → t ≡ s
nothing_changed s t k change a none =
    let no_more = nodes_none (unheld (changesets s) k.changesets) (sym a.added ∙ none.0) in
    let same = a.order ∙ ap (λ xs. changesets s ++ xs) no_more ∙ append-nil (changesets s) in
    let held = same_list t.held s.held same phase in
    λ i. record { held = held i }
  where
    phase : (g h : Held) → Contains t.held g → Contains s.held h → g.changeset ≡ h.changeset → g.phase ≡ h.phase
    phase g h at_g at_h e =
        let low = least-above s (k ∷ []) t a.least h at_h in
        let low_is =
        ap (λ x. rank x.phase) (same_held t a.least.graph g low.0 at_g low.1 (ap node_of (e ∙ sym low.2))) in
        elim (cases_lt (rank g.phase) (rank h.phase)) [
          | inr le ↦ rank-apart g.phase h.phase (omega (arith, le, low.3, low_is))
          | inl less ↦
              let down : WentDown s t (node_of h.changeset) = (h, g, at_h, at_g, e, refl, less) in
              let at = (a.lowered.each (node_of h.changeset)).1 down in
              let l = ap length none.1 in
              absurd (omega (arith, at.1, l))
        ]

pub nothing_answered : (s t : State) (k : PartValue) {U : Type 0} (answer : Result (Absorbed ChangeValue U) Fault)
    → AbsorbAnswer s k (without_undo answer) t → IfOk answer (λ absorbed. IsNothing absorbed.change → t ≡ s)
nothing_answered s t k (Ok absorbed) a = λ none_told. nothing_changed s t k absorbed.change a none_told
nothing_answered s t k (Err fault) a = tt

-- where nothing changed, nothing is told
pub nothing_told : (s : State) (k : PartValue) (change : ChangeValue) → IsGraph (changesets s)
    → IsAbsorbed s k change s → IsNothing change
nothing_told s k change graph a = (added, lowered change.lowered refl)
  where
    added : change.added ≡ []
    added =
        let more = unheld (changesets s) k.changesets in
        let l = ap length a.order ∙ length-append (changesets s) more in
        a.added ∙ ap nodes (length_none more (omega (arith, l)))

    lowered : (ns : List Node) → change.lowered ≡ ns → change.lowered ≡ []
    lowered [] e = e
    lowered (n ∷ ns) e =
        let down = (a.lowered.each n).0 (subst (λ xs. Contains xs n) (sym e) (0, omega arith, refl)) in
        let same = ap (λ x. rank x.phase)
        (same_held s graph down.0 down.1 down.2 down.3 (ap node_of (sym down.4))) in
        absurd (omega (arith, down.6, same))

-- where nothing was added or logged, the state is the same
pub same_unlogged : (cs ds : List Contents) (ks new : List Phase) (log : List LoweredPlace) (before : ℕ)
    → length new ≡ length ds → take before ds ≡ cs → take before (restored new log) ≡ ks → log ≡ []
    → before ≡ length ds → state_of ds new ≡ state_of cs ks
same_unlogged cs ds ks new log before len front phases none first =
    let graph_is = sym (take_all before ds (omega (arith, first))) ∙ front in
    let phases_are =
    sym (take_all before new (omega (arith, first, len)))
    ∙ sym (ap (λ es. take before (restored new es)) none) ∙ phases in
    λ i. state_of (graph_is i) (phases_are i)

-- nothing is told, or something grew
pub nothing_or_growth : (held : List Contents) (had : List Phase) (cs : List Contents) (new : List Phase)
    (log : List LoweredPlace) (k : PartValue) (change : ChangeValue) → IsValid (state_of held had)
    → CanTakeBack held had cs new log → IsAbsorbed (state_of held had) k change (state_of cs new)
    → (¬ ((log ≡ []) × (length held ≡ length cs)) → IsGrowthBeforeFault (state_of held had) k)
    → IsNothing change ⊎ IsGrowthBeforeFault (state_of held had) k
nothing_or_growth held had cs new log k change valid back a growth =
    elim (nothing_or_not change) [
      | inl none_told ↦ inl none_told
      | inr told ↦ inr (growth (λ same. told (nothing_told (state_of held had) k change valid.graph
          (subst (IsAbsorbed (state_of held had) k change)
          (same_unlogged held cs had new log (length held) back.len back.front back.phases same.0 same.1) a))))
    ]

-- something grew, or the state is the same
pub growth_or_same : {G : Type 0} (cs ds : List Contents) (ks new : List Phase) (log : List LoweredPlace)
    → CanTakeBack cs ks ds new log → (¬ ((log ≡ []) × (length cs ≡ length ds)) → G)
    → G ⊎ (state_of ds new ≡ state_of cs ks)
growth_or_same {G} cs ds ks new log back growth = elim (empty_or_not log) [
  | inr some ↦ inl (growth (λ e. some e.0))
  | inl unlogged ↦ elim (cases_eq (length cs) (length ds)) [
    | inr more ↦ inl (growth (λ e. more e.1))
    | inl len ↦ inr (same_unlogged cs ds ks new log (length cs) back.len back.front back.phases unlogged len)
  ]
]

-- What grows before any fault of a part is met.
use Rattle.std.proofs.Common.{◌≡◌, ℕ, zero, suc, ◌<◌, ◌≤◌, List, [], ◌++◌, length, map, take, slice_get, Some, Contains}
use Rattle.std.proofs.Common.{Result, Ok, Err, ◌⊎◌, inl, inr, sym, ap, subst, ◌∙◌, arith}
use Rattle.std.proofs.lemmas.Bool.{cases_eq}
use Rattle.std.proofs.lemmas.List.{append-nil, length-append}
use Rattle.std.proofs.lemmas.List.Elements.{Contains-append_left, Contains-append_cases}
use Rattle.std.proofs.lemmas.Option.{same_Some, slice_get_within}
use Rattle.hg_changeset.specs.declared.node.Node.{Node}
use Rattle.hg_changeset.specs.Contents.{Contents}
use Rattle.hg_changeset.specs.Changeset.{node_of}
use Rattle.hg_changeset.proofs.ListLemmas.{slice_get_some}
use Rattle.hg_graph.specs.Graph.{Holds}
use Rattle.hg_graph.specs.Answers.{IsNew}
use Rattle.hg_graph.proofs.GraphLemmas.{place_from_Contains, get-take, Holds-changeset}
use Rattle.hg_phases.specs.declared.phase.Phase.{Phase}
use Rattle.hg_phases.specs.declared.phase.Phase.TheVariants.{Secret}
use Rattle.hg_phases.specs.declared.lowered.LoweredPlace.{LoweredPlace}
use Rattle.hg_phases.specs.State.{state_of}
use Rattle.hg_phases.specs.Log.{HasLogged}
use Rattle.hg_phases.proofs.PlaceLemmas.{changesets-held_of}
use Rattle.hg_history.specs.declared.fault.Fault.{Fault}
use Rattle.hg_history.specs.declared.fault.Fault.TheVariants.{UnknownParent, Collision, UnknownBound, NullBound}
use Rattle.hg_history.specs.declared.fault.Fault.TheVariants.{NoMemory}
use Rattle.hg_history.specs.Change.{unheld}
use Rattle.hg_history.specs.Answer.{IsFineUpTo, AreHeldUpTo, AreKnownUpTo, IsFirstNew, HasHigher, IsGrowthBeforeFault}
use Rattle.hg_history.specs.Answer.{IsRefusal}
use Rattle.hg_history.specs.Steps.{AddAllAnswer, IsAdded, IsBoundFault}
use Rattle.hg_history.proofs.AddLemmas.{Holds-same}
use Rattle.hg_history.proofs.UnheldLemmas.{unheld-none}
use Rattle.hg_history.proofs.FirstFaultLemmas.{held_or_not, same_contents_or_not}

module _ (held part : List Contents) where
  -- behind changesets that are held, no more is held
  known_back : (i : ℕ) → AreKnownUpTo held part i → (n : Node) → Holds (held ++ take i part) n → Holds held n
  known_back i known =
      Holds-same (held ++ take i part) held (λ d at. elim (Contains-append_cases held (take i part) d at) [
        | inl x ↦ x
        | inr x ↦
            let p = place_from_Contains (take i part) d x in
            let q = get-take part i p.0 d p.1 in
            known p.0 d q.0 q.1
      ])

  known_front : AreKnownUpTo held part (length part) → (c : Contents) → Contains (take (length part) part) c
      → Contains held c
  known_front known c at =
      let p = place_from_Contains (take (length part) part) c at in
      let q = get-take part (length part) p.0 c p.1 in
      known p.0 c q.0 q.1

  new-here : (i : ℕ) (c : Contents) → slice_get part i ≡ Some c → AreKnownUpTo held part i
      → IsNew (held ++ take i part) c → IsFirstNew held part
  new-here i c at known new = record {
    place = i;
    changeset = c;
    at = at;
    before = known;
    new = (
      λ p is. known_back i known p (new.0 p is),
      λ h. new.1 (Holds-same held (held ++ take i part) (λ d at_d. Contains-append_left held (take i part) d at_d)
          (node_of c) h),
    );
  }

  known-more : (i : ℕ) (c : Contents) → slice_get part i ≡ Some c → AreKnownUpTo held part i → Contains held c
      → AreKnownUpTo held part (suc i)
  known-more i c at before here j d l at_d = elim (cases_eq j i) [
    | inr ne ↦ let less : j < i = omega arith in before j d less at_d
    | inl e ↦ subst (Contains held) (same_Some c d (sym at ∙ ap (slice_get part) (sym e) ∙ at_d)) here
  ]

  -- where all is fine, all is held, or the first that isn't is new
  known_or_new : (i : ℕ) → i ≤ length part → IsFineUpTo held part i → AreKnownUpTo held part i ⊎ IsFirstNew held part
  known_or_new zero le fine = inl (λ j c l. absurd (omega arith))
  known_or_new (suc i) le fine = elim (known_or_new i (omega arith) (λ j c l. fine j c (omega arith))) [
    | inr new ↦ inr new
    | inl known ↦
        let within : i < length part = omega arith in
        let c = slice_get_some part i within in
        let here = fine i c.0 (omega arith) c.1 in
        elim (held_or_not held (node_of c.0)) [
          | inr out ↦ inr (new-here i c.0 c.1 known (here.0, λ h. out (known_back i known (node_of c.0) h)))
          | inl h ↦
              let d = Holds-changeset held (node_of c.0) h in
              elim (same_contents_or_not d.0 c.0) [
                | inl e ↦ inl (known-more i c.0 c.1 known (subst (Contains held) e d.1))
                | inr differ ↦ absurd (here.1 (d.0, Contains-append_left held (take i part) d.0 d.1, d.2, differ))
              ]
        ]
  ]

-- a fault among the changesets is the part's first
pub add_refusal : (held : List Contents) (had : List Phase) (part : List Contents) (bounds : List (Node × Phase))
    (f : Fault) (ds : List Contents) (ls : List Phase) → AddAllAnswer held had part (Err f) ds ls
    → IsRefusal held (record { changesets = part; bounds = bounds }) f
add_refusal held had part bounds (UnknownParent p) ds ls (i, c, at, a, h) = (i, c, at, a.fine, h)
add_refusal held had part bounds (Collision n) ds ls (i, c, at, a, h) = (i, c, at, a.fine, h.0, h.1, h.2)
add_refusal held had part bounds (UnknownBound n) ds ls (i, c, at, a, h) = absurd h
add_refusal held had part bounds NullBound ds ls (i, c, at, a, h) = absurd h
add_refusal held had part bounds NoMemory ds ls h = tt

-- where memory is wanting among the changesets, one of them is new
add_growth : (held : List Contents) (had : List Phase) (part : List Contents) (ds : List Contents) (ls : List Phase)
    → AddAllAnswer held had part (Err NoMemory) ds ls → IsFirstNew held part
add_growth held had part ds ls (i, c, at, a, h) =
    let within = slice_get_within part i c at in
    elim (known_or_new held part i (omega arith) a.fine)
    [ inl known ↦ new-here held part i c at known h | inr new ↦ new ]

-- in the words of states
module _ (held : List Contents) (had : List Phase) (part : List Contents) (bounds : List (Node × Phase))
    (len : length had ≡ length held) where
  at_state : IsFirstNew held part
      ⊎ (AreKnownUpTo held part (length part) × AreHeldUpTo held bounds (length bounds)
      × HasHigher (state_of held had) bounds)
      → IsGrowthBeforeFault (state_of held had) (record { changesets = part; bounds = bounds })
  unfolding IsGrowthBeforeFault
  at_state = subst
      (λ cs. IsFirstNew cs part
      ⊎ (AreKnownUpTo cs part (length part) × AreHeldUpTo cs bounds (length bounds)
      × HasHigher (state_of held had) bounds)) (sym (changesets-held_of held had len))

  pub growth-adding : (r : Result Unit Fault) (ds : List Contents) (ls : List Phase)
      → AddAllAnswer held had part r ds ls → r ≡ Err NoMemory
      → IsGrowthBeforeFault (state_of held had) (record { changesets = part; bounds = bounds })
  growth-adding r ds ls answer is =
      at_state (inl (add_growth held had part ds ls (subst (λ x. AddAllAnswer held had part x ds ls) is answer)))

  -- once all changesets were added and the bounds looked up
  module _ (cs : List Contents) (ks : List Phase) (a : IsAdded held had part (length part) cs ks) where
    -- where all of them were held, nothing has grown
    unchanged : AreKnownUpTo held part (length part) → (cs ≡ held) × (ks ≡ had)
    unchanged known =
        let none = unheld-none held (take (length part) part) (λ c at. known_front held part known c at) in (
          a.appended ∙ ap (λ xs. held ++ xs) none ∙ append-nil held,
          a.secret ∙ ap (λ xs. had ++ map (λ _. Secret) xs) none ∙ append-nil had,
        )

    pub growth-after : AreHeldUpTo cs bounds (length bounds) → HasHigher (state_of cs ks) bounds
        → IsGrowthBeforeFault (state_of held had) (record { changesets = part; bounds = bounds })
    growth-after there higher = elim (known_or_new held part (length part) (omega arith) a.fine) [
      | inr new ↦ at_state (inl new)
      | inl known ↦
          let same = unchanged known in
          at_state (inr (
            known,
            λ j b l at. subst (λ ds. Holds ds b.0) same.0 (there j b l at),
            subst (λ xs. HasHigher (state_of held xs) bounds) same.1
                (subst (λ ds. HasHigher (state_of ds ks) bounds) same.0 higher),
          ))
    ]

    -- where the graph has grown, a changeset was new
    pub growth-longer : length held < length cs
        → IsGrowthBeforeFault (state_of held had) (record { changesets = part; bounds = bounds })
    growth-longer more = elim (known_or_new held part (length part) (omega arith) a.fine) [
      | inr new ↦ at_state (inl new)
      | inl known ↦ let same = ap length (unchanged known).0 in absurd (omega (arith, more, same))
    ]

    -- where something was logged, some bound's node went down
    growth-moved : AreHeldUpTo cs bounds (length bounds) → (start log end : List LoweredPlace) (mid : List Phase)
        → start ≡ []
        → HasHigher (state_of cs ks) bounds ⊎ ((mid ≡ ks) × (log ≡ start)) → HasHigher (state_of cs mid) bounds
        ⊎ (end ≡ log) → ¬ (end ≡ [])
        → IsGrowthBeforeFault (state_of held had) (record { changesets = part; bounds = bounds })
    growth-moved there start log end mid fresh public draft logged = growth-after there (elim public [
      | inl higher ↦ higher
      | inr same ↦ elim draft [
        | inl higher ↦ subst (λ xs. HasHigher (state_of cs xs) bounds) same.0 higher
        | inr still ↦ absurd (logged (still ∙ same.1 ∙ fresh))
      ]
    ])

    pub growth-logged : AreHeldUpTo cs bounds (length bounds)
        → (start log end : List LoweredPlace) (mid : List Phase) (before : ℕ) → start ≡ []
        → HasHigher (state_of cs ks) bounds ⊎ ((mid ≡ ks) × (log ≡ start)) → HasHigher (state_of cs mid) bounds
        ⊎ (end ≡ log) → HasLogged end before
        → IsGrowthBeforeFault (state_of held had) (record { changesets = part; bounds = bounds })
    growth-logged there start log end mid before fresh public draft logged =
        growth-moved there start log end mid fresh public draft (λ e. let none = ap length e in
        omega (arith, logged.1.1, none))

    -- where something was logged or added
    pub growth-any : AreHeldUpTo cs bounds (length bounds)
        → (start log end : List LoweredPlace) (mid : List Phase) (before : ℕ) → before ≡ length held → start ≡ []
        → HasHigher (state_of cs ks) bounds ⊎ ((mid ≡ ks) × (log ≡ start)) → HasHigher (state_of cs mid) bounds
        ⊎ (end ≡ log) → ¬ ((end ≡ []) × (before ≡ length cs))
        → IsGrowthBeforeFault (state_of held had) (record { changesets = part; bounds = bounds })
    growth-any there start log end mid before first fresh public draft some = elim (cases_eq before (length cs)) [
      | inl e ↦ growth-moved there start log end mid fresh public draft (λ none. some (none, e))
      | inr ne ↦ growth-longer
          (omega (arith, ap length a.appended, length-append held (unheld held (take (length part) part)), first, ne))
    ]

    -- where the draft bounds want memory, some bound's node was above already
    pub growth-draft : AreHeldUpTo cs bounds (length bounds) → (start log : List LoweredPlace) (mid : List Phase)
        → HasHigher (state_of cs ks) bounds ⊎ ((mid ≡ ks) × (log ≡ start)) → HasHigher (state_of cs mid) bounds
        → IsGrowthBeforeFault (state_of held had) (record { changesets = part; bounds = bounds })
    growth-draft there start log mid public higher =
        growth-after there
        (elim public [ inl h ↦ h | inr same ↦ subst (λ xs. HasHigher (state_of cs xs) bounds) same.0 higher ])

-- a refusal is the same whatever would have been answered otherwise
pub refused_along : {X Y : Type 0} (f g : Fault) → ◌≡◌ {A = Result X Fault} (Err f) (Err g)
    → ◌≡◌ {A = Result Y Fault} (Err f) (Err g)
refused_along {X} {Y} f g e = ap to e
  where
    to : Result X Fault → Result Y Fault
    to (Ok x) = Err f
    to (Err h) = Err h

-- looking bounds up wants no memory
pub bound_wants_none : {X : Type 0} (cs : List Contents) (bounds : List (Node × Phase)) (f : Fault)
    → IsBoundFault cs bounds f → ◌≡◌ {A = Result X Fault} (Err f) (Err NoMemory) → ⊥
bound_wants_none {X} cs bounds f h e = subst of e h
  where
    of : Result X Fault → Type 0
    of (Ok x) = ⊥
    of (Err g) = IsBoundFault cs bounds g

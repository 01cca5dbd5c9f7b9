-- What leads back, in the words of what is kept.
use Rattle.std.proofs.Common.{◌≡◌, ◌∙◌, ◌≤◌, ℕ, List, [], ◌∷◌, length, map, take, refl, sym, ap, subst}
use Rattle.std.proofs.Common.{arith}
use Rattle.std.proofs.lemmas.List.{length-map, length-take}
use Rattle.hg_changeset.specs.Contents.{Contents}
use Rattle.hg_phases.specs.declared.phase.Phase.{Phase}
use Rattle.hg_phases.specs.declared.lowered.LoweredPlace.{LoweredPlace}
use Rattle.hg_phases.specs.declared.phase_roots.PhaseRoots.{PhaseRoots}
use Rattle.hg_phases.specs.State.{State, Held, IsValid, held_of, state_of}
use Rattle.hg_phases.specs.Log.{restored}
use Rattle.hg_phases.specs.Kept.{IsLogOf}
use Rattle.hg_phases.specs.RootPlaces.{AreRootPlaces, ArePhasesAndRoots}
use Rattle.hg_phases.proofs.PlaceLemmas.{changesets-held_of}
use Rattle.hg_history.specs.Steps.{CanTakeBack}
use Rattle.hg_history.specs.Undo.{UndoValue, LeadsBack}

-- the phases of a state are those of which it was made
pub phases-held_of : (cs : List Contents) (ks : List Phase) → length ks ≡ length cs
    → map (λ h. h.phase) (held_of cs ks) ≡ ks
phases-held_of [] [] e = refl
phases-held_of [] (k ∷ ks) e = absurd (omega arith)
phases-held_of (c ∷ cs) [] e = absurd (omega arith)
phases-held_of (c ∷ cs) (k ∷ ks) e = ap (λ ls. k ∷ ls) (phases-held_of cs ks (omega arith))

-- a state holds as many changesets as it was made of
pub length-held_of : (cs : List Contents) (ks : List Phase) → length ks ≡ length cs
    → length (held_of cs ks) ≡ length cs
length-held_of cs ks len =
    sym (length-map (held_of cs ks) (λ (h : Held). h.changeset)) ∙ ap length (changesets-held_of cs ks len)

module _ (cs : List Contents) (ks : List Phase) (len : length ks ≡ length cs) (undo : UndoValue) (s : State) where
  -- the state in the words of states is the state in those of what is kept
  same_before : state_of (take undo.before (map (λ h. h.changeset) (held_of cs ks)))
      (take undo.before (restored (map (λ h. h.phase) (held_of cs ks)) undo.log))
      ≡ state_of (take undo.before cs) (take undo.before (restored ks undo.log))
  same_before =
      let graph = changesets-held_of cs ks len in
      let phases = phases-held_of cs ks len in
      λ i. state_of (take undo.before (graph i)) (take undo.before (restored (phases i) undo.log))

  pub leads_back : IsValid s → undo.before ≤ length cs → IsLogOf cs ks undo.log
      → s ≡ state_of (take undo.before cs) (take undo.before (restored ks undo.log))
      → LeadsBack (state_of cs ks) undo s
  leads_back valid within logged is = record {
    valid = valid;
    within = omega (arith, within, length-held_of cs ks len);
    logged = subst (λ ls. IsLogOf cs ls undo.log) (sym (phases-held_of cs ks len)) logged;
    state = is ∙ sym same_before;
  }

  module _ (back : LeadsBack (state_of cs ks) undo s) where
    pub led_within : undo.before ≤ length cs
    led_within = omega (arith, back.within, length-held_of cs ks len)

    pub led_logged : IsLogOf cs ks undo.log
    led_logged = subst (λ ls. IsLogOf cs ls undo.log) (phases-held_of cs ks len) back.logged

    pub led_state : state_of (take undo.before cs) (take undo.before (restored ks undo.log)) ≡ s
    led_state = sym same_before ∙ sym back.state

-- a call can take back what it changed, where the changesets were so many before
module _ (cs ds : List Contents) (kept : PhaseRoots) (ls : List Phase) (log : List LoweredPlace) (before : ℕ)
    (is : before ≡ length cs) (back : CanTakeBack cs kept.phases ds ls log) where
  front_back : take before ds ≡ cs
  front_back = ap (λ n. take n ds) is ∙ back.front

  phases_back : take before (restored ls log) ≡ kept.phases
  phases_back = ap (λ n. take n (restored ls log)) is ∙ back.phases

  pub lead_back : IsValid (state_of cs kept.phases)
      → LeadsBack (state_of ds ls) (record { before = before; log = log }) (state_of cs kept.phases)
  lead_back valid = leads_back ds ls back.len _ _ valid
      (omega (arith, is, ap length back.front, length-take (length cs) ds)) back.logged
      (sym (λ i. state_of (front_back i) (phases_back i)))

  pub rooted_back : AreRootPlaces cs kept.phases kept.roots
      → AreRootPlaces (take before ds) (take before (restored ls log)) kept.roots
  rooted_back rooted = subst (λ es. AreRootPlaces es (take before (restored ls log)) kept.roots) (sym front_back)
      (subst (λ qs. AreRootPlaces cs qs kept.roots) (sym phases_back) rooted)

  pub state_back : (es : List Contents) (qs : List Phase) → es ≡ take before ds → qs ≡ take before (restored ls log)
      → state_of es qs ≡ state_of cs kept.phases
  state_back es qs same are i = state_of ((same ∙ front_back) i) ((are ∙ phases_back) i)

  pub kept_back : (es : List Contents) (now : PhaseRoots) → es ≡ take before ds
      → now.phases ≡ take before (restored ls log) → now.roots ≡ kept.roots → ArePhasesAndRoots cs kept
      → IsValid (state_of cs kept.phases) → ArePhasesAndRoots es now × IsValid (state_of es now.phases)
  kept_back es now graph phases roots keeps valid =
      let same = graph ∙ front_back in
      let are = phases ∙ phases_back in (
        record {
          len = ap length are ∙ keeps.len ∙ sym (ap length same);
          roots = subst (λ gs. AreRootPlaces gs now.phases now.roots) (sym same)
              (subst (λ qs. AreRootPlaces cs qs now.roots) (sym are)
              (subst (AreRootPlaces cs kept.phases) (sym roots) keeps.roots));
        },
        subst IsValid (sym (state_back es now.phases graph phases)) valid,
      )

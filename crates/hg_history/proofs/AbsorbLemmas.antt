-- The steps of `absorb` together.
use Rattle.std.proofs.Common.{◌≡◌, ℕ, List, [], ◌∷◌, ◌++◌, length, take, drop, Contains, Result, ◌≤◌, ◌⊎◌, inl}
use Rattle.std.proofs.Common.{inr, refl, sym, ap, subst, ◌∙◌, arith}
use Rattle.std.proofs.Math.Seq.{drop-append_seam}
use Rattle.std.proofs.lemmas.List.{take_all, map-append, length-append, length-map}
use Rattle.std.proofs.lemmas.Option.{slice_get_within}
use Rattle.hg_changeset.specs.declared.node.Node.{Node}
use Rattle.hg_changeset.specs.Contents.{Contents}
use Rattle.hg_changeset.specs.Changeset.{node_of}
use Rattle.hg_graph.specs.Graph.{Holds, nodes}
use Rattle.hg_graph.proofs.GraphLemmas.{place_from_Contains}
use Rattle.hg_phases.specs.declared.phase.Phase.{Phase}
use Rattle.hg_phases.specs.declared.phase.Phase.TheVariants.{Public, Draft, Secret}
use Rattle.hg_phases.specs.declared.lowered.LoweredPlace.{LoweredPlace}
use Rattle.hg_phases.specs.State.{State, IsValid, state_of, changesets}
use Rattle.hg_phases.specs.Least.{PartValue, IsAdmitted, IsLeast}
use Rattle.hg_phases.specs.Log.{IsLog, restored}
use Rattle.hg_phases.proofs.PlaceLemmas.{changesets-held_of}
use Rattle.hg_phases.proofs.LogLemmas.{fresh_log, IsLog-above}
use Rattle.hg_history.specs.declared.fault.Fault.{Fault}
use Rattle.hg_history.specs.declared.fault.Fault.TheVariants.{UnknownParent, Collision, UnknownBound, NullBound}
use Rattle.hg_history.specs.declared.fault.Fault.TheVariants.{NoMemory}
use Rattle.hg_history.specs.Change.{unheld}
use Rattle.hg_history.specs.Answer.{IsFineUpTo, AreHeldUpTo, IsRefusal, IsFirstUnheld}
use Rattle.hg_history.specs.Steps.{AddAllAnswer, CanTakeBack, IsAdded, IsBoundFault, IsLoweredTo}
use Rattle.hg_history.proofs.AddLemmas.{Holds-same, some_added, front_kept, phases_kept, least-added}
use Rattle.hg_history.proofs.FirstFaultLemmas.{fine-admitted}
use Rattle.hg_history.proofs.BoundLemmas.{least-secrets}

-- what was added and lowered can be taken back
pub back_lowered : (held : List Contents) (had : List Phase) (part : List Contents) (i : ℕ) (cs : List Contents)
    (ks new : List Phase) (phase : Phase) (log : List LoweredPlace) → length had ≡ length held
    → IsAdded held had part i cs ks → length new ≡ length ks → IsLog phase ks new log → restored new log ≡ ks
    → CanTakeBack held had cs new log
back_lowered held had part i cs ks new phase log len a new_len logged undoes = record {
  len = new_len ∙ a.len;
  valid = subst (λ start. IsValid (state_of cs start)) (sym undoes) a.valid;
  logged = (phase, subst (λ start. IsLog phase start new log) (sym undoes) logged);
  front = front_kept held had part i cs ks a;
  phases = ap (take (length held)) undoes ∙ phases_kept held had part i cs ks a len;
}

-- what was added can be taken back, before anything went down
pub back_added : (held : List Contents) (had : List Phase) (part : List Contents) (i : ℕ) (cs : List Contents)
    (ks : List Phase) (log : List LoweredPlace) → length had ≡ length held
    → IsAdded held had part i cs ks → log ≡ [] → CanTakeBack held had cs ks log
back_added held had part i cs ks log len a fresh =
    back_lowered held had part i cs ks ks Public log len a refl (fresh_log Public ks log fresh) (ap (restored ks) fresh)

-- what was added, and then lowered to public and to draft, can be taken back
pub back_twice : (held : List Contents) (had : List Phase) (part : List Contents) (i : ℕ) (cs : List Contents)
    (ks mid new : List Phase) (log first second : List LoweredPlace) → length had ≡ length held
    → IsAdded held had part i cs ks → log ≡ [] → length mid ≡ length ks → length new ≡ length mid
    → ((start : List Phase) → IsLog Public start ks log → IsLog Public start mid first)
    → ((start : List Phase) → IsLog Draft start mid first → IsLog Draft start new second)
    → restored mid first ≡ restored ks log → restored new second ≡ restored mid first
    → CanTakeBack held had cs new second
back_twice held had part i cs ks mid new log first second len a fresh mid_len new_len public draft undone undoes =
    back_lowered held had part i cs ks new Draft second len a (new_len ∙ mid_len)
    (draft ks (IsLog-above Public Draft ks mid first (omega arith) (public ks (fresh_log Public ks log fresh))))
    (undoes ∙ undone ∙ ap (restored ks) fresh)

-- a call that adds takes nothing away
pub added_within : (held : List Contents) (had : List Phase) (part : List Contents) (added : Result Unit Fault)
    (cs : List Contents) (ks : List Phase) → AddAllAnswer held had part added cs ks → length held ≤ length cs
added_within held had part added cs ks answer =
    let a = some_added held had part added cs ks answer in
    omega (arith, ap length a.1.appended, length-append held (unheld held (take a.0 part)))

module _ (held : List Contents) (had : List Phase) (part : List Contents) (bounds : List (Node × Phase))
    (cs : List Contents) (ks : List Phase) (a : IsAdded held had part (length part) cs ks) where
  whole : take (length part) part ≡ part
  whole = take_all (length part) part (omega arith)

  to : (n : Node) → Holds cs n → Holds (held ++ part) n
  to n = Holds-same cs (held ++ part) (λ c at. subst (λ xs. Contains (held ++ xs) c) whole ((a.same c).0 at)) n

  from : (n : Node) → Holds (held ++ part) n → Holds cs n
  from n = Holds-same (held ++ part) cs (λ c at. (a.same c).1 (subst (λ xs. Contains (held ++ xs) c) (sym whole) at)) n

  unheld_first : (n : Node) → IsFirstUnheld cs bounds n → IsFirstUnheld (held ++ part) bounds n
  unheld_first n u =
      record {
        place = u.place;
        bound = u.bound;
        at = u.at;
        before = λ j b l at. to b.0 (u.before j b l at);
        node =
            u.node;
        unheld = λ h. u.unheld (from n h);
      }

  pub bound_first : (f : Fault) → IsBoundFault cs bounds f
      → IsRefusal held (record { changesets = part; bounds = bounds }) f
  bound_first (UnknownParent p) h = absurd h
  bound_first (Collision n) h = absurd h
  bound_first (UnknownBound n) h = (a.fine, unheld_first n h.0, h.1)
  bound_first NullBound h = (a.fine, unheld_first _ h)
  bound_first NoMemory h = absurd h

  module _ (len : length had ≡ length held) (there : AreHeldUpTo cs bounds (length bounds)) where
    abbrev s : State
    s = state_of held had

    abbrev k : PartValue
    k = record { changesets = part; bounds = bounds }

    same_then : changesets s ≡ held
    same_then = changesets-held_of held had len

    bound_held : (b : Node × Phase) → Contains bounds b → Holds cs b.0
    bound_held b at = let p = place_from_Contains bounds b at in there p.0 b (slice_get_within bounds p.0 b p.1) p.1

    pub admitted : IsAdmitted (state_of held had) (record { changesets = part; bounds = bounds })
    admitted = fine-admitted s k (subst (λ ds. IsFineUpTo ds part (length part)) (sym same_then) a.fine)
        (subst (λ ds. AreHeldUpTo (ds ++ part) bounds (length bounds)) (sym same_then)
        (λ j b l at. to b.0 (there j b l at)))

    pub least-absorbed : (mid new : List Phase) → IsLoweredTo cs bounds Public ks mid
        → IsLoweredTo cs bounds Draft mid new → length new ≡ length cs
        → IsLeast (state_of held had) (record { changesets = part; bounds = bounds } ∷ []) (state_of cs new)
    least-absorbed mid new public draft new_len =
        let one = public (state_of held had) part [] (least-added held had part cs ks len a) in
        let two = draft (state_of held had) part one.0 one.1 in
        least-secrets (state_of held had) part two.0 bounds (state_of cs new)
        (λ b at. elim (two.2 b at)
        [ inl x ↦ elim (one.2 b x) [ inl y ↦ absurd (omega (arith, y.1)) | inr y ↦ y ] | inr x ↦ x ])
        (λ b at. by b.1 (λ e. two.3 b (one.4 b at e)) (λ e. two.4 b at e))
        (λ b at. subst (λ ds. Contains (nodes ds) b.0) (sym (changesets-held_of cs new new_len)) (bound_held b at))
        two.1
      where
        by : {X : Type 0} (k : Phase) → (k ≡ Public → X) → (k ≡ Draft → X) → X ⊎ (k ≡ Secret)
        by Public p d = inl (p refl)
        by Draft p d = inl (d refl)
        by Secret p d = inr refl

    -- what is new stands last, in the part's order
    pub in_order : (new : List Phase) → length new ≡ length cs
        → changesets (state_of cs new) ≡ changesets (state_of held had) ++ unheld (changesets (state_of held had)) part
    in_order new new_len =
        changesets-held_of cs new new_len ∙ a.appended ∙ ap (λ xs. held ++ unheld held xs) whole
        ∙ (λ t. same_then_back t ++ unheld (same_then_back t) part)
      where
        same_then_back : held ≡ changesets (state_of held had)
        same_then_back = sym (changesets-held_of held had len)

    -- the nodes behind those that were held are the new ones
    pub told_at_state : drop (length held) (nodes cs) ≡ nodes (unheld (changesets (state_of held had)) part)
    told_at_state =
        ap (λ xs. drop (length held) (nodes xs)) a.appended
        ∙ ap (drop (length held)) (map-append node_of held (unheld held (take (length part) part)))
        ∙ ap (λ n. drop n (nodes held ++ nodes (unheld held (take (length part) part)))) (sym (length-map held node_of))
        ∙ drop-append_seam (nodes held) (nodes (unheld held (take (length part) part)))
        ∙ ap (λ xs. nodes (unheld held xs)) whole
        ∙ ap (λ xs. nodes (unheld xs part)) (sym same_then)

-- in the words of states
pub refusal_at_state : (held : List Contents) (had : List Phase) (k : PartValue) (f : Fault) → length had ≡ length held
    → IsRefusal held k f → IsRefusal (changesets (state_of held had)) k f
refusal_at_state held had k f len h = subst (λ ds. IsRefusal ds k f) (sym (changesets-held_of held had len)) h

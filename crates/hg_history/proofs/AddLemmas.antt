-- Adding the changesets of a part, one after the other.
use Rattle.std.proofs.Common.{◌≡◌, ℕ, zero, suc, ◌<◌, ◌≤◌, ◌+◌, ◌-◌, List, [], ◌∷◌, ◌++◌, append_assoc, length, map}
use Rattle.std.proofs.Common.{take, slice_get, Some, Contains, Ok, Err, ◌⊎◌, ◌↔◌, inl, inr, refl, sym, ap, subst, ◌∙◌}
use Rattle.std.proofs.Common.{arith, Result}
use Rattle.std.proofs.Math.Seq.{take-append_seam}
use Rattle.std.proofs.lemmas.Bool.{cases_eq}
use Rattle.std.proofs.lemmas.List.{append-nil, take_more, take_all, map-append, length-append}
use Rattle.std.proofs.lemmas.List.Elements.{Contains-append_left, Contains-append_right, Contains-append_cases}
use Rattle.std.proofs.lemmas.List.Elements.{Contains-push, Contains-push_cases}
use Rattle.std.proofs.lemmas.Option.{none-some, same_Some, slice_get_within, get_or_from_slice_get}
use Rattle.hg_changeset.specs.declared.node.Node.{Node}
use Rattle.hg_changeset.specs.Contents.{Contents}
use Rattle.hg_changeset.specs.Changeset.{node_of}
use Rattle.hg_changeset.proofs.ListLemmas.{slice_get-append, slice_get-append_seam, Contains-one}
use Rattle.hg_graph.specs.Graph.{IsGraph, Holds, HoldsParents, nodes}
use Rattle.hg_graph.specs.Answers.{AddAnswer, Collides}
use Rattle.hg_graph.specs.Places.{IsAt}
use Rattle.hg_graph.specs.declared.error.GraphError.{GraphError}
use Rattle.hg_graph.specs.declared.graph.Added.{Added}
use Rattle.hg_graph.specs.declared.graph.Added.TheVariants.{New, Known}
use Rattle.hg_graph.proofs.GraphLemmas.{Contains-from_place, place_from_Contains, Holds-from, Holds-changeset}
use Rattle.hg_graph.proofs.GraphLemmas.{IsGraph-push}
use Rattle.hg_graph.proofs.MarkLemmas.{same_place, IsAt-from}
use Rattle.hg_phases.specs.declared.phase.Phase.{Phase}
use Rattle.hg_phases.specs.declared.phase.Phase.TheVariants.{Secret}
use Rattle.hg_phases.specs.State.{Held, IsValid, rank, state_of, changesets}
use Rattle.hg_phases.specs.Least.{PartValue, IsLeast, IsBoundOfOne}
use Rattle.hg_phases.proofs.PlaceLemmas.{held-at, parts-at, changesets-held_of, graph_of_state}
use Rattle.hg_phases.proofs.AdmitLemmas.{admitted-valid}
use Rattle.hg_phases.specs.Kept.{before_last}
use Rattle.hg_phases.proofs.LeastLemmas.{rank-top, same_changeset, Holds-taken}
use Rattle.hg_history.specs.declared.fault.Fault.{Fault}
use Rattle.hg_history.specs.declared.fault.Fault.TheVariants.{UnknownParent, Collision, UnknownBound, NullBound}
use Rattle.hg_history.specs.declared.fault.Fault.TheVariants.{NoMemory}
use Rattle.hg_history.specs.Change.{unheld}
use Rattle.hg_history.specs.Answer.{IsFineUpTo}
use Rattle.hg_history.specs.Steps.{AddAllAnswer, IsAddFault, OneAdded, IsAdded}
use Rattle.hg_history.proofs.UnheldLemmas.{unheld-new, unheld-known}

pub Holds-same : (cs ds : List Contents) → ((c : Contents) → Contains cs c → Contains ds c) → (n : Node) → Holds cs n
    → Holds ds n
Holds-same cs ds to n h = let c = Holds-changeset cs n h in
    subst (Contains (nodes ds)) c.2 (Holds-from ds c.0 (to c.0 c.1))

-- the graph before its last changeset
pub before-pushed : (cs : List Contents) (c : Contents) → before_last (cs ++ c ∷ []) ≡ cs
before-pushed cs c = ap (λ n. take n (cs ++ c ∷ [])) (omega (arith, length-append cs (c ∷ [])))
    ∙ take-append_seam cs (c ∷ [])

-- a changeset that was just added stands last
pub added_last : (cs : List Contents) (c : Contents) (answer : Result Added GraphError) (ds : List Contents) (n : Node)
    → n ≡ node_of c → AddAnswer cs c answer ds → answer ≡ Ok New → IsAt ds n (length ds - 1)
added_last cs c answer ds n id told is =
    let pushed = subst (λ r. AddAnswer cs c r ds) is told in
    let last : length cs ≡ length ds - 1 = omega (arith, ap length pushed.2, length-append cs (c ∷ [])) in
    let at = IsAt-from (cs ++ c ∷ []) (length cs) c n (slice_get-append_seam cs c []) (sym id) in
    subst (λ k. IsAt ds n k) last (subst (λ xs. IsAt xs n (length cs)) (sym pushed.2) at)

pub IsAdded-start : (held : List Contents) (had : List Phase) (part : List Contents) → length had ≡ length held
    → IsValid (state_of held had) → IsAdded held had part 0 held had
IsAdded-start held had part len valid = record {
  valid = valid;
  len = len;
  appended = sym (append-nil held);
  secret = sym (append-nil had);
  same = λ c. (λ at. Contains-append_left held [] c at, λ at. subst (λ ds. Contains ds c) (append-nil held) at);
  fine = λ j c l. absurd (omega arith);
}

-- some of the part's changesets were added
pub some_added : (held : List Contents) (had : List Phase) (part : List Contents) (r : Result Unit Fault)
    (cs : List Contents) (ks : List Phase) → AddAllAnswer held had part r cs ks
    → (i : ℕ) × IsAdded held had part i cs ks
some_added held had part (Ok u) cs ks a = (length part, a)
some_added held had part (Err f) cs ks h = (h.0, h.3)

-- where the same changesets are held, the fault is the same
IsAddFault-same : (cs ds : List Contents) (c : Contents) (f : Fault) → ((d : Contents) → Contains cs d ↔ Contains ds d)
    → IsAddFault cs c f → IsAddFault ds c f
IsAddFault-same cs ds c f same = by f
  where
    to : (n : Node) → Holds cs n → Holds ds n
    to = Holds-same cs ds (λ d. (same d).0)

    from : (n : Node) → Holds ds n → Holds cs n
    from = Holds-same ds cs (λ d. (same d).1)

    by : (f : Fault) → IsAddFault cs c f → IsAddFault ds c f
    by (UnknownParent p) h = (h.0, λ x. h.1 (from p x), λ ne there. to c.first (h.2 ne there))
    by (Collision n) h = (λ p is. to p (h.0 p is), (h.1.0, (same h.1.0).0 h.1.1, h.1.2, h.1.3), h.2)
    by (UnknownBound n) h = h
    by NullBound h = h
    by NoMemory h = (λ p is. to p (h.0 p is), λ x. h.1 (from (node_of c) x))

module _ (held : List Contents) (had : List Phase) (part : List Contents) (i : ℕ) (cs : List Contents) (ks : List Phase)
    (a : IsAdded held had part i cs ks) where
  to : (d : Contents) → Contains cs d → Contains (held ++ take i part) d
  to d = (a.same d).0

  from : (d : Contents) → Contains (held ++ take i part) d → Contains cs d
  from d = (a.same d).1

  abbrev new : List Contents
  new = unheld held (take i part)

  -- what was held is still at the front
  pub front_kept : take (length held) cs ≡ held
  front_kept = ap (take (length held)) a.appended ∙ take-append_seam held new

  pub phases_kept : length had ≡ length held → take (length held) ks ≡ had
  phases_kept len = ap (λ n. take n ks) (sym len) ∙ ap (take (length had)) a.secret
      ∙ take-append_seam had (map (λ _. Secret) new)

  pub graph_added : IsGraph cs
  graph_added = graph_of_state cs ks a.len a.valid

  module _ (c : Contents) (at : slice_get part i ≡ Some c) where
    -- a fault leaves what was added, and is the one that the part has there
    pub stays_added : (f : Fault) (ds : List Contents) (ls : List Phase) → OneAdded cs ks c (Err f) ds ls
        → AddAllAnswer held had part (Err f) ds ls
    stays_added f ds ls h = (
      i,
      c,
      at,
      subst (λ xs. IsAdded held had part i xs ls) (sym h.1.0) (subst (IsAdded held had part i cs) (sym h.1.1) a),
      IsAddFault-same cs (held ++ take i part) c f a.same h.0,
    )

    parents_to : HoldsParents cs c → HoldsParents (held ++ take i part) c
    parents_to h p is = Holds-same cs (held ++ take i part) to p (h p is)

    more : take (i + 1) part ≡ take i part ++ c ∷ []
    more = take_more part i c (slice_get_within part i c at)
        ∙ ap (λ x. take i part ++ x ∷ []) (get_or_from_slice_get part i c c at)

    -- the changeset is new, or was held
    new_more : ¬ (Holds cs (node_of c)) → unheld held (take (i + 1) part) ≡ new ++ c ∷ []
    new_more out =
        ap (unheld held) more ∙ unheld-new held (take i part) c (subst (λ xs. ¬ (Holds xs (node_of c))) a.appended out)

    none_more : Holds cs (node_of c) → unheld held (take (i + 1) part) ≡ new
    none_more there =
        ap (unheld held) more ∙ unheld-known held (take i part) c (subst (λ xs. Holds xs (node_of c)) a.appended there)

    fine_more : HoldsParents cs c → ¬ (Collides cs c) → IsFineUpTo held part (i + 1)
    fine_more parents apart j d l at_d = elim (cases_eq j i) [
      | inr ne ↦ let before : j < i = omega arith in a.fine j d before at_d
      | inl e ↦
          let d_is : d ≡ c = same_Some d c (sym at_d ∙ ap (slice_get part) e ∙ at) in
          let here : HoldsParents (held ++ take i part) c × ¬ (Collides (held ++ take i part) c) =
          (parents_to parents, λ x. apart (x.0, from x.0 x.1, x.2, x.3)) in
          subst (λ y. HoldsParents (held ++ take y part) d × ¬ (Collides (held ++ take y part) d)) (sym e)
          (subst (λ x. HoldsParents (held ++ take i part) x × ¬ (Collides (held ++ take i part) x)) (sym d_is) here)
    ]

    back : (d : Contents) → Contains (held ++ (take i part ++ c ∷ [])) d → Contains cs d ⊎ (c ≡ d)
    back d at_d = elim (Contains-append_cases held (take i part ++ c ∷ []) d at_d) [
      | inl x ↦ inl (from d (Contains-append_left held (take i part) d x))
      | inr x ↦ elim (Contains-push_cases (take i part) c d x)
          [ inl y ↦ inl (from d (Contains-append_right held (take i part) d y)) | inr e ↦ inr e ]
    ]

    forth : (d : Contents) → Contains cs d → Contains (held ++ (take i part ++ c ∷ [])) d
    forth d at_d = elim (Contains-append_cases held (take i part) d (to d at_d)) [
      | inl x ↦ Contains-append_left held (take i part ++ c ∷ []) d x
      | inr x ↦ Contains-append_right held (take i part ++ c ∷ []) d (Contains-append_left (take i part) (c ∷ []) d x)
    ]

    itself : Contains (held ++ (take i part ++ c ∷ [])) c
    itself = Contains-append_right held (take i part ++ c ∷ []) c (Contains-push (take i part) c)

    known_parents : Contains cs c → HoldsParents cs c
    known_parents in_cs p is = let place = place_from_Contains cs c in_cs in
        Holds-taken cs place.0 p (graph_added.parents_first place.0 c place.1 p is)

    -- one more changeset of the part
    pub IsAdded-step : (r : Added) (ds : List Contents) (ls : List Phase) → OneAdded cs ks c (Ok r) ds ls
        → IsAdded held had part (i + 1) ds ls
    IsAdded-step New ds ls h =
        subst (λ xs. IsAdded held had part (i + 1) xs ls) (sym h.2)
        (subst (IsAdded held had part (i + 1) (cs ++ c ∷ [])) (sym h.3) (record {
          valid = admitted-valid (cs ++ c ∷ []) ks (IsGraph-push cs c graph_added h.0 h.1.0 h.1.1)
              (omega (arith, length-append cs (c ∷ []), a.len))
              (subst (λ xs. IsValid (state_of xs ks)) (sym (before-pushed cs c)) a.valid);
          len = omega (arith, length-append cs (c ∷ []), length-append ks (Secret ∷ []), a.len);
          appended = ap (λ xs. xs ++ c ∷ []) a.appended ∙ append_assoc held new (c ∷ [])
              ∙ ap (λ xs. held ++ xs) (sym (new_more h.1.1));
          secret = ap (λ xs. xs ++ Secret ∷ []) a.secret ∙ append_assoc had (map (λ _. Secret) new) (Secret ∷ [])
              ∙ ap (λ xs. had ++ xs)
              (sym (map-append (λ _. Secret) new (c ∷ [])) ∙ ap (map (λ _. Secret)) (sym (new_more h.1.1)));
          same = λ d. (
            λ at_d. subst (λ xs. Contains (held ++ xs) d) (sym more) (elim (Contains-push_cases cs c d at_d) [
              | inl y ↦ forth d y
              | inr e ↦ subst (Contains (held ++ (take i part ++ c ∷ []))) e itself
            ]),
            λ at_d. elim (back d (subst (λ xs. Contains (held ++ xs) d) more at_d)) [
              | inl y ↦ Contains-append_left cs (c ∷ []) d y
              | inr e ↦ subst (Contains (cs ++ c ∷ [])) e (Contains-push cs c)
            ],
          );
          fine = fine_more h.1.0 (λ k. h.1.1 (subst (Contains (nodes cs)) k.2 (Holds-from cs k.0 k.1)));
        }))
    IsAdded-step Known ds ls h =
        subst (λ xs. IsAdded held had part (i + 1) xs ls) (sym h.1.0)
        (subst (IsAdded held had part (i + 1) cs) (sym h.1.1) (record {
          valid = a.valid;
          len = a.len;
          appended = a.appended ∙ ap (λ xs. held ++ xs) (sym (none_more (Holds-from cs c h.0)));
          secret = a.secret ∙ ap (λ xs. had ++ map (λ _. Secret) xs) (sym (none_more (Holds-from cs c h.0)));
          same = λ d. (
            λ at_d. subst (λ xs. Contains (held ++ xs) d) (sym more) (forth d at_d),
            λ at_d. elim (back d (subst (λ xs. Contains (held ++ xs) d) more at_d)) [
              | inl y ↦ y
              | inr e ↦ subst (Contains cs) e h.0
            ],
          );
          fine = fine_more (known_parents h.0) (λ k. k.3 (same_changeset cs graph_added c k.0 h.0 k.1 (sym k.2)));
        }))

-- a phase in the front, or one of those behind
phase_cases : (had : List Phase) (cs : List Contents) (p : ℕ) (k : Phase)
    → slice_get (had ++ map (λ _. Secret) cs) p ≡ Some k → (slice_get had p ≡ Some k) ⊎ (k ≡ Secret)
phase_cases [] [] p k h = absurd (none-some k h)
phase_cases [] (c ∷ cs) zero k h = inr (sym (same_Some Secret k h))
phase_cases [] (c ∷ cs) (suc p) k h = phase_cases [] cs p k h
phase_cases (x ∷ had) cs zero k h = inl h
phase_cases (x ∷ had) cs (suc p) k h = phase_cases had cs p k h

front : {X : Type 0} (xs ys : List X) (p : ℕ) (x : X) → p < length xs → slice_get (xs ++ ys) p ≡ Some x
    → slice_get xs p ≡ Some x
front [] ys p x l h = absurd (omega arith)
front (y ∷ xs) ys zero x l h = h
front (y ∷ xs) ys (suc p) x l h = front xs ys p x (omega arith) h

-- all changesets of the part were added
module _ (held : List Contents) (had : List Phase) (part : List Contents) (cs : List Contents) (ks : List Phase)
    (len : length had ≡ length held) (a : IsAdded held had part (length part) cs ks) where
  whole : take (length part) part ≡ part
  whole = take_all (length part) part (omega arith)

  same_then : changesets (state_of held had) ≡ held
  same_then = changesets-held_of held had len

  same_now : changesets (state_of cs ks) ≡ cs
  same_now = changesets-held_of cs ks a.len

  abbrev k : PartValue
  k = record { changesets = part; bounds = [] }

  no_bound : (b : Node × Phase) → IsBoundOfOne (k ∷ []) b → ⊥
  no_bound b p = let e = Contains-one k p.0 p.1 in let m = subst (λ x. Contains x.bounds b) (sym e) p.2 in
      omega (arith, m.1)

  graph : IsGraph cs
  graph = graph_of_state cs ks a.len a.valid

  pub least-added : IsLeast (state_of held had) (record { changesets = part; bounds = [] } ∷ []) (state_of cs ks)
  least-added = record {
    graph = a.valid.graph;
    union = λ c. (
      λ at. elim (Contains-append_cases held part c
          (subst (λ xs. Contains (held ++ xs) c) whole ((a.same c).0 (subst (λ xs. Contains xs c) same_now at)))) [
            | inl x ↦ inl (subst (λ xs. Contains xs c) (sym same_then) x)
            | inr x ↦ inr (k, (0, omega arith, refl), x)
          ],
      λ h. subst (λ xs. Contains xs c) (sym same_now)
          ((a.same c).1 (subst (λ xs. Contains (held ++ xs) c) (sym whole) (elim h [
            | inl x ↦ Contains-append_left held part c (subst (λ xs. Contains xs c) same_then x)
            | inr p ↦ let e = Contains-one k p.0 p.1 in
                Contains-append_right held part c (subst (λ x. Contains x.changesets c) (sym e) p.2)
          ]))),
    );
    bounded = λ b p. absurd (no_bound b p);
    phases = λ g at.
        let p = place_from_Contains (state_of cs ks).held g at in
        let parts = parts-at cs ks p.0 g p.1 in
        let at_g = IsAt-from cs p.0 g.changeset (node_of g.changeset) parts.0 refl in (
          elim (phase_cases had (unheld held (take (length part) part)) p.0 g.phase
              (subst (λ xs. slice_get xs p.0 ≡ Some g.phase) a.secret parts.1)) [
                | inr top ↦ inl top
                | inl was ↦
                    let h : Held = record { changeset = g.changeset; phase = g.phase } in
                    let within : p.0 < length held = omega (arith, slice_get_within had p.0 g.phase was, len) in
                    let at_c = front held (unheld held (take (length part) part)) p.0 g.changeset within
                    (subst (λ xs. slice_get xs p.0 ≡ Some g.changeset) a.appended parts.0) in
                    inr (inl (
                      h,
                      Contains-from_place (state_of held had).held p.0 h
                          (held-at held had p.0 g.changeset g.phase at_c was),
                      refl,
                      refl,
                    ))
              ],
          λ j candidate. elim candidate [
            | inl top ↦ subst (λ x. rank g.phase ≤ rank x) (sym top) (rank-top g.phase)
            | inr o ↦ elim o [
              | inl old ↦
                  let q = place_from_Contains (state_of held had).held old.0 old.1 in
                  let old_parts = parts-at held had q.0 old.0 q.1 in
                  let at_cs = subst (λ xs. slice_get xs q.0 ≡ Some old.0.changeset) (sym a.appended)
                  (slice_get-append held (unheld held (take (length part) part)) q.0 old.0.changeset old_parts.0) in
                  let at_ks = subst (λ xs. slice_get xs q.0 ≡ Some old.0.phase) (sym a.secret)
                  (slice_get-append had (map (λ _. Secret) (unheld held (take (length part) part))) q.0 old.0.phase
                  old_parts.1) in
                  let same : q.0 ≡ p.0 =
                  same_place (nodes cs) (node_of g.changeset) p.0 q.0 graph.distinct at_g
                  (IsAt-from cs q.0 old.0.changeset (node_of g.changeset) at_cs (ap node_of old.2)) in
                  let phase_is : g.phase ≡ j =
                  same_Some g.phase old.0.phase (sym parts.1 ∙ ap (slice_get ks) (sym same) ∙ at_ks) ∙ old.3 in
                  let e = ap rank phase_is in
                  omega (arith, e)
              | inr b ↦ absurd (no_bound b.0 b.1)
            ]
          ],
        );
  }

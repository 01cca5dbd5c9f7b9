-- Indexes after the last marker was forgotten.
use Rattle.std.proofs.Common.{◌≡◌, ◌≢◌, ◌<◌, ◌+◌, ◌++◌, ◌∷◌, [], ◌∙◌, ◌⊎◌, inl, inr, ⊎_elim, arith, sym, ap, subst, ℕ}
use Rattle.std.proofs.Common.{List, refl, length, length-append, get_or, Contains, take}
use Rattle.std.proofs.lemmas.List.{get_or_append_left, get_or_push, take_more, take_all, length-take}
use Rattle.std.proofs.lemmas.List.Elements.{Contains-push, Contains-push_cases, Contains-append_left}
use Rattle.std.proofs.lemmas.List.Kept.{AllPairs-from_increasing}
use Rattle.std.proofs.lemmas.Option.{slice_get_within, same_Some}
use Rattle.std.proofs.lemmas.Bool.{cases_eq}
use Rattle.std.specs.List.Sorted.{IsStrictlyIncreasing}
use Rattle.hg_changeset.specs.declared.node.Node.{Node}
use Rattle.hg_marker.specs.Fields.{Fields}
use Rattle.hg_marker.specs.Parents.{recorded_parents}
use Rattle.hg_obsstore.specs.declared.index.Index.{Index}
use Rattle.hg_obsstore.specs.declared.index.Role.TheVariants.{Predecessor, Successor, Parent}
use Rattle.hg_obsstore.specs.Places.{ListsAll}
use Rattle.hg_obsstore.specs.Markers.{IsAt, predecessors, successors}
use Rattle.hg_obsstore.specs.Index.{places_of, TakesPlaces}
use Rattle.hg_obsstore.specs.Indexes.{IsIndexBy, AreIndexed, TakeMarker}
use Rattle.hg_obsstore.proofs.StoreLemmas.{stays, was, last}

pub end_view : (xs : List ℕ) → (xs ≡ []) ⊎ ((front : List ℕ) × (l : ℕ) × (xs ≡ front ++ l ∷ []))
end_view [] = inl refl
end_view (x ∷ xs) =
    ⊎_elim (λ (e : xs ≡ []). inr ([], x, ap (λ (ys : List ℕ). x ∷ ys) e))
    (λ (h : (front : List ℕ) × (l : ℕ) × (xs ≡ front ++ l ∷ [])). inr (x ∷ h.0, h.1, ap (λ (ys : List ℕ). x ∷ ys) h.2))
    (end_view xs)

increasing_front : (xs : List ℕ) (l : ℕ) → IsStrictlyIncreasing (xs ++ l ∷ []) → IsStrictlyIncreasing xs
increasing_front xs l up j h =
    let lt : j < length xs = omega (arith, h) in
    let long : length (xs ++ l ∷ []) ≡ length xs + 1 = length-append xs (l ∷ []) in
    rw (← get_or_append_left xs (l ∷ []) 0 (j + 1) h, ← get_or_append_left xs (l ∷ []) 0 j lt)
    (up j (omega (arith, h, long)))

below_last : (xs : List ℕ) (l i : ℕ) → IsStrictlyIncreasing (xs ++ l ∷ []) → Contains xs i → i < l
below_last xs l i up h =
    let long : length (xs ++ l ∷ []) ≡ length xs + 1 = length-append xs (l ∷ []) in
    let pair = AllPairs-from_increasing (xs ++ l ∷ []) up h.0 (length xs) i h.1 (omega (arith, long)) in
    let a : get_or (xs ++ l ∷ []) h.0 i ≡ i = get_or_append_left xs (l ∷ []) i h.0 h.1 ∙ h.2 in
    let b : get_or (xs ++ l ∷ []) (length xs) i ≡ l = get_or_push xs l i (length xs) refl in
    rw b at (rw a at pair)

pub record Split (Q : ℕ → Type 0) (ps : List ℕ) (k : ℕ) : Type 0 where
  pub front : List ℕ
  pub all : ListsAll (λ i. (i < k) × Q i) front
  pub whole : (ps ≡ front) ⊎ (Q k × (ps ≡ front ++ k ∷ []))

module _ (Q : ℕ → Type 0) (ps : List ℕ) (k : ℕ) (all : ListsAll Q ps) (within : (i : ℕ) → Q i → i < k + 1) where
  without_k : (Contains ps k → ⊥) → Split Q ps k
  without_k absent = record {
    front = ps;
    all = record {
      ascending = all.ascending;
      exact = λ i. (
        (λ h. let q = (all.exact i).0 h in
            ⊎_elim (λ (e : i ≡ k). absurd (absent (subst (Contains ps) e h))) (λ (other : i ≢ k). let le = within i q in
            let lt : i < k = omega (arith, le, other) in (lt, q)) (cases_eq i k)),
        (λ h. (all.exact i).1 h.1),
      );
    };
    whole = inl refl;
  }

  with_k : (front : List ℕ) → ps ≡ front ++ k ∷ [] → Split Q ps k
  with_k front e =
      let up : IsStrictlyIncreasing (front ++ k ∷ []) = subst IsStrictlyIncreasing e all.ascending in
      record {
        front = front;
        all = record {
          ascending = increasing_front front k up;
          exact = λ i. (
            (λ h. (
              below_last front k i up h,
              (all.exact i).0 (subst (λ xs. Contains xs i) (sym e) (Contains-append_left front (k ∷ []) i h)),
            )),
            (λ h. ⊎_elim (λ (c : Contains front i). c) (λ (same : k ≡ i). let lt = h.0 in
                absurd (omega (arith, lt, same)))
                (Contains-push_cases front k i (subst (λ xs. Contains xs i) e ((all.exact i).1 h.1)))),
          );
        };
        whole = inr ((all.exact k).0 (subst (λ xs. Contains xs k) (sym e) (Contains-push front k)), e);
      }

  pub split : Split Q ps k
  split = ⊎_elim
      (λ (e : ps ≡ []). without_k (λ h. let n : Contains [] k = subst (λ xs. Contains xs k) e h in
      absurd (omega (arith, n.1))))
      (λ (h : (front : List ℕ) × (l : ℕ) × (ps ≡ front ++ l ∷ [])). ⊎_elim
      (λ (same : h.1 ≡ k). with_k h.0 (h.2 ∙ ap (λ l. h.0 ++ l ∷ []) same))
      (λ (other : h.1 ≢ k). without_k (λ c. ⊎_elim
      (λ (inside : Contains h.0 k).
      let lt = below_last h.0 h.1 k (subst IsStrictlyIncreasing h.2 all.ascending) inside in
      let le = within h.1 ((all.exact h.1).0 (subst (λ xs. Contains xs h.1) (sym h.2) (Contains-push h.0 h.1))) in
      absurd (omega (arith, lt, le)))
      (λ (e : h.1 ≡ k). absurd (other e)) (Contains-push_cases h.0 h.1 k (subst (λ xs. Contains xs k) h.2 c))))
      (cases_eq h.1 k))
      (end_view ps)

-- an index without the last marker
module _ (nodes_of : Fields → List Node) (ms : List Fields) (m : Fields) (old new : Node → List ℕ)
    (all : IsIndexBy nodes_of (ms ++ m ∷ []) old) (takes : TakesPlaces (nodes_of m) (length ms) old new) where
  abbrev At : Node → ℕ → Type 0
  At n = IsAt (λ x. Contains (nodes_of x) n) (ms ++ m ∷ [])

  each : (n : Node) → Split (At n) (old n) (length ms)
  each n = split (At n) (old n) (length ms) (all n)
      (λ i q. let lt = slice_get_within (ms ++ m ∷ []) i q.0 q.1 in omega (arith, lt, length-append ms (m ∷ [])))

  same : (n : Node) → new n ≡ (each n).front
  same = takes.restores (λ n. (each n).front) (λ n i h. (((each n).all.exact i).0 h).0)
      (λ n. ⊎_elim (λ (e : old n ≡ (each n).front). inl e)
      (λ (h : At n (length ms) × (old n ≡ (each n).front ++ length ms ∷ [])). inr
      (subst (λ x. Contains (nodes_of x) n) (same_Some _ _ (sym h.0.1 ∙ last ms m)) h.0.2, h.1)) (each n).whole)

  pub indexed_forget : IsIndexBy nodes_of ms new
  indexed_forget n = subst (ListsAll (IsAt (λ x. Contains (nodes_of x) n) ms)) (sym (same n)) (record {
    ascending = (each n).all.ascending;
    exact = λ i. (
      (λ h. let at = ((each n).all.exact i).0 h in (at.1.0, was ms m i at.1.0 at.1.1 at.0, at.1.2)),
      (λ h. ((each n).all.exact i).1 (slice_get_within ms i h.0 h.1, (h.0, stays ms m i h.0 h.1, h.2))),
    );
  })

  -- what each node had before
  pub parts_forget : (n : Node) → (old n ≡ new n) ⊎ (old n ≡ new n ++ length ms ∷ [])
  parts_forget n = ⊎_elim (λ (e : old n ≡ (each n).front). inl (e ∙ sym (same n)))
      (λ (h : At n (length ms) × (old n ≡ (each n).front ++ length ms ∷ [])). inr
      (h.1 ∙ ap (λ ps. ps ++ length ms ∷ []) (sym (same n)))) (each n).whole

pub cut_at : (xs : List Fields) (x : Fields) (place : ℕ) → place + 1 ≡ length xs → x ≡ get_or xs place x
    → (xs ≡ take place xs ++ x ∷ []) × (length (take place xs) ≡ place)
cut_at xs x place at read =
    let lt : place < length xs = omega (arith, at) in (
      sym (take_all (place + 1) xs (omega (arith, at))) ∙ take_more xs place x lt
          ∙ ap (λ y. take place xs ++ y ∷ []) (sym read),
      omega (arith, length-take place xs, at),
    )

pub all_forget : (xs : List Fields) (x : Fields) (place : ℕ) (old new : Index) → place + 1 ≡ length xs
    → x ≡ get_or xs place x → AreIndexed xs old → TakeMarker x place old new → AreIndexed (take place xs) new
all_forget xs x place old new at read all takes =
    let cut = cut_at xs x place at read in
    let here : AreIndexed (take place xs ++ x ∷ []) old = subst (λ ys. AreIndexed ys old) cut.0 all in
    let gone : TakeMarker x (length (take place xs)) old new = subst (λ n. TakeMarker x n old new) (sym cut.1) takes in
    record {
      predecessor =
          indexed_forget predecessors (take place xs) x (places_of Predecessor old) (places_of Predecessor new)
          here.predecessor gone.predecessor;
      successor = indexed_forget successors (take place xs) x (places_of Successor old) (places_of Successor new)
          here.successor gone.successor;
      child = indexed_forget recorded_parents (take place xs) x (places_of Parent old) (places_of Parent new) here.child
          gone.child;
    }

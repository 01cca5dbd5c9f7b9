-- What answers leave as it was, and what they decide.
use Rattle.std.proofs.Common.{◌≡◌, ◌⊎◌, ℕ, zero, suc, inl, inr, Bool, true, false, List, [], ◌∷◌, ◌++◌, length}
use Rattle.std.proofs.Common.{slice_get, Some, refl, sym, ap, subst, ◌∙◌, arith}
use Rattle.std.proofs.lemmas.Option.{slice_get_within, none-some, same_Some}
use Rattle.hg_graph.specs.declared.graph.ParentPlaces.{ParentPlaces}
use Rattle.hg_discovery.specs.declared.finding.Finding.{Finding}
use Rattle.hg_discovery.specs.declared.finding.Finding.TheVariants.{Undecided, Common, Missing}
use Rattle.hg_discovery.specs.declared.finding.PlacedNode.{PlacedNode}
use Rattle.hg_discovery.specs.Under.{IsUnder, IsInOrder, itself}
use Rattle.hg_discovery.specs.Search.{Is, IsClosed, ArePlacedNodes}
use Rattle.hg_discovery.specs.Answers.{TakesAnswer, TakesAnswers}
use Rattle.hg_discovery.proofs.UnderLemmas.{not_both_uc, not_both_um, not_both_cm, three}
use Rattle.hg_discovery.proofs.ClosedLemmas.{decided_closed}

module _ (ps : List ParentPlaces) where
  pub told_len : (k : ℕ) (said : Bool) (old new : List Finding) → TakesAnswer ps k said old new
      → length new ≡ length old
  told_len k said old new (inl d) = d.1.len
  told_len k said old new (inr e) = ap length e.1

  pub told_closed : (k : ℕ) (said : Bool) (old new : List Finding) → length old ≡ length ps → IsInOrder ps
      → IsClosed ps old → TakesAnswer ps k said old new → IsClosed ps new
  told_closed k said old new len order closed (inl d) = decided_closed ps k said old new len order closed d.1
  told_closed k said old new len order closed (inr e) = subst (IsClosed ps) (sym e.1) closed

  -- what is undecided was so before
  pub told_before : (k : ℕ) (said : Bool) (old new : List Finding) → TakesAnswer ps k said old new → (j : ℕ)
      → Is new Undecided j → Is old Undecided j
  told_before k said old new (inr e) j h = subst (λ ds. Is ds Undecided j) e.1 h
  told_before k said old new (inl d) j h =
      elim (three old j (omega (arith, d.1.len, slice_get_within new j Undecided h))) [
        | inl u ↦ u
        | inr e ↦ elim e [
          | inl c ↦ absurd (not_both_uc new j h ((d.1.common j).1 (inl c)))
          | inr m ↦ absurd (not_both_um new j h ((d.1.missing j).1 (inl m)))
        ]
      ]

  -- what was asked about is decided
  pub told_decides : (k : ℕ) (said : Bool) (old new : List Finding) → TakesAnswer ps k said old new
      → Is new Undecided k → ⊥
  told_decides k true old new (inl d) h = not_both_uc new k h ((d.1.common k).1 (inr (refl, d.0, itself)))
  told_decides k false old new (inl d) h = not_both_um new k h ((d.1.missing k).1 (inr (refl, d.0, itself)))
  told_decides k said old new (inr e) h = e.0 (subst (λ ds. Is ds Undecided k) e.1 h)

  -- what is so of the common ones, and of all below a yes, stays so
  pub told_common : (P : ℕ → Type 0) → ((k j : ℕ) → IsUnder ps k j → P j → P k)
      → (k : ℕ) (said : Bool) (old new : List Finding) → TakesAnswer ps k said old new → (said ≡ true → P k)
      → ((j : ℕ) → Is old Common j → P j) → (j : ℕ) → Is new Common j → P j
  told_common P down k said old new (inr e) at was j h = was j (subst (λ ds. Is ds Common j) e.1 h)
  told_common P down k said old new (inl d) at was j h = elim
      ((d.1.common j).0 h) [ inl o ↦ was j o | inr u ↦ down j k u.2 (at u.0) ]

  pub told_missing : (Q : ℕ → Type 0) → ((k j : ℕ) → IsUnder ps k j → Q k → Q j)
      → (k : ℕ) (said : Bool) (old new : List Finding) → TakesAnswer ps k said old new → (said ≡ false → Q k)
      → ((j : ℕ) → Is old Missing j → Q j) → (j : ℕ) → Is new Missing j → Q j
  told_missing Q up k said old new (inr e) at was j h = was j (subst (λ ds. Is ds Missing j) e.1 h)
  told_missing Q up k said old new (inl d) at was j h = elim ((d.1.missing j).0 h)
      [ inl o ↦ was j o | inr u ↦ up k j u.2 (at u.0) ]

-- ---- one answer more

pub TakesAnswers-more : (ps : List ParentPlaces) (xs : List PlacedNode) (answers : List Bool) (x : PlacedNode)
    (said : Bool)
    (old mid new : List Finding) → TakesAnswers ps xs answers old mid → TakesAnswer ps x.place said mid new
    → TakesAnswers ps (xs ++ x ∷ []) (answers ++ said ∷ []) old new
TakesAnswers-more ps [] [] x said old mid new so next =
    (new, subst (λ ds. TakesAnswer ps x.place said ds new) so next, refl)
TakesAnswers-more ps (y ∷ xs) (b ∷ answers) x said old mid new so next =
    (so.0, so.1, TakesAnswers-more ps xs answers x said so.0 mid new so.2 next)
TakesAnswers-more ps [] (b ∷ answers) x said old mid new so next = absurd so
TakesAnswers-more ps (y ∷ xs) [] x said old mid new so next = absurd so

pub told_length : (ps : List ParentPlaces) (xs : List PlacedNode) (answers : List Bool) (old new : List Finding)
    → TakesAnswers ps xs answers old new → length new ≡ length old
told_length ps [] [] old new e = ap length e
told_length ps (x ∷ xs) (b ∷ answers) old new t = told_length ps xs answers t.0 new t.2
    ∙ told_len ps x.place b old t.0 t.1
told_length ps [] (b ∷ answers) old new t = absurd t
told_length ps (x ∷ xs) [] old new t = absurd t

-- what is missing stays so
told_kept : (ps : List ParentPlaces) (k : ℕ) (said : Bool) (old new : List Finding) → TakesAnswer ps k said old new
    → (j : ℕ) → Is old Missing j → Is new Missing j
told_kept ps k said old new (inl d) j h = (d.1.missing j).1 (inl h)
told_kept ps k said old new (inr e) j h = subst (λ ds. Is ds Missing j) (sym e.1) h

pub all_missing_kept : (ps : List ParentPlaces) (xs : List PlacedNode) (answers : List Bool) (old new : List Finding)
    → TakesAnswers ps xs answers old new → (j : ℕ) → Is old Missing j → Is new Missing j
all_missing_kept ps [] [] old new e j h = subst (λ ds. Is ds Missing j) (sym e) h
all_missing_kept ps (x ∷ xs) (b ∷ answers) old new t j h = all_missing_kept ps xs answers t.0 new t.2 j
    (told_kept ps x.place b old t.0 t.1 j h)
all_missing_kept ps [] (b ∷ answers) old new t j h = absurd t
all_missing_kept ps (x ∷ xs) [] old new t j h = absurd t

-- what answers leave is closed
pub all_closed : (ps : List ParentPlaces) (xs : List PlacedNode) (answers : List Bool) (old new : List Finding)
    → length old ≡ length ps → IsInOrder ps → IsClosed ps old → TakesAnswers ps xs answers old new → IsClosed ps new
all_closed ps [] [] old new len order closed e = subst (IsClosed ps) (sym e) closed
all_closed ps (x ∷ xs) (b ∷ answers) old new len order closed t =
    all_closed ps xs answers t.0 new (told_len ps x.place b old t.0 t.1 ∙ len) order
    (told_closed ps x.place b old t.0 len order closed t.1) t.2
all_closed ps [] (b ∷ answers) old new len order closed t = absurd t
all_closed ps (x ∷ xs) [] old new len order closed t = absurd t

-- the placed nodes stay
pub placed_nodes_after : (ps : List ParentPlaces) (asked : List PlacedNode) (answers : List Bool)
    (old new : List Finding)
    (xs : List PlacedNode) → TakesAnswers ps asked answers old new → ArePlacedNodes old xs → ArePlacedNodes new xs
placed_nodes_after ps asked answers old new xs told placed_nodes = record {
  distinct = placed_nodes.distinct;
  apart = placed_nodes.apart;
  within = λ x h. let l = placed_nodes.within x h in omega (arith, l, len);
  found = λ k h. placed_nodes.found k
      (elim h [
        | inl u ↦ before k Undecided u (λ m. not_both_um new k u m)
        | inr c ↦
            before k Common c (λ m. not_both_cm new k c m)
      ]);
}
  where
    len : length new ≡ length old
    len = told_length ps asked answers old new told

    before : (k : ℕ) (d : Finding) → Is new d k → (Is new Missing k → ⊥) → Is old Undecided k ⊎ Is old Common k
    before k d h never = elim (three old k (omega (arith, len, slice_get_within new k d h))) [
      | inl u ↦ inl u
      | inr e ↦ elim e [ inl c ↦ inr c | inr m ↦ absurd (never (all_missing_kept ps asked answers old new told k m)) ]
    ]

-- all who were asked about are decided
all_before : (ps : List ParentPlaces) (xs : List PlacedNode) (answers : List Bool) (old new : List Finding)
    → TakesAnswers ps xs answers old new → (j : ℕ) → Is new Undecided j → Is old Undecided j
all_before ps [] [] old new e j h = subst (λ ds. Is ds Undecided j) e h
all_before ps (x ∷ xs) (b ∷ answers) old new t j h = told_before ps x.place b old t.0 t.1 j
    (all_before ps xs answers t.0 new t.2 j h)
all_before ps [] (b ∷ answers) old new t j h = absurd t
all_before ps (x ∷ xs) [] old new t j h = absurd t

pub undecided_before : (ps : List ParentPlaces) (xs : List PlacedNode) (answers : List Bool) (old new : List Finding)
    → TakesAnswers ps xs answers old new → (j : ℕ) → Is new Undecided j → Is old Undecided j
undecided_before = all_before

pub all_decided : (ps : List ParentPlaces) (xs : List PlacedNode) (answers : List Bool) (old new : List Finding)
    → TakesAnswers ps xs answers old new → (i : ℕ) (x : PlacedNode) → slice_get xs i ≡ Some x
    → Is new Undecided x.place → ⊥
all_decided ps [] [] old new e i x at h = none-some x at
all_decided ps (y ∷ xs) (b ∷ answers) old new t zero x at h =
    told_decides ps y.place b old t.0 t.1 (subst (λ (z : PlacedNode). Is t.0 Undecided z.place) (sym (same_Some y x at))
    (all_before ps xs answers t.0 new t.2 x.place h))
all_decided ps (y ∷ xs) (b ∷ answers) old new t (suc i) x at h = all_decided ps xs answers t.0 new t.2 i x at h
all_decided ps [] (b ∷ answers) old new t i x at h = absurd t
all_decided ps (x ∷ xs) [] old new t i y at h = absurd t

-- ---- all answers of a round

pub all_common : (ps : List ParentPlaces) (P : ℕ → Type 0) → ((k j : ℕ) → IsUnder ps k j → P j → P k)
    → (xs : List PlacedNode) (answers : List Bool) (old new : List Finding) → TakesAnswers ps xs answers old new
    → ((i : ℕ) (x : PlacedNode) → slice_get xs i ≡ Some x → slice_get answers i ≡ Some true → P x.place)
    → ((j : ℕ) → Is old Common j → P j) → (j : ℕ) → Is new Common j → P j
all_common ps P down [] [] old new e at was j h = was j (subst (λ ds. Is ds Common j) e h)
all_common ps P down (x ∷ xs) (b ∷ answers) old new t at was j h =
    all_common ps P down xs answers t.0 new t.2 (λ i. at (suc i))
    (told_common ps P down x.place b old t.0 t.1 (λ e. at zero x refl (ap (λ a. Some a) e)) was) j h
all_common ps P down [] (b ∷ answers) old new t at was j h = absurd t
all_common ps P down (x ∷ xs) [] old new t at was j h = absurd t

pub all_missing : (ps : List ParentPlaces) (Q : ℕ → Type 0) → ((k j : ℕ) → IsUnder ps k j → Q k → Q j)
    → (xs : List PlacedNode) (answers : List Bool) (old new : List Finding) → TakesAnswers ps xs answers old new
    → ((i : ℕ) (x : PlacedNode) → slice_get xs i ≡ Some x → slice_get answers i ≡ Some false → Q x.place)
    → ((j : ℕ) → Is old Missing j → Q j) → (j : ℕ) → Is new Missing j → Q j
all_missing ps Q up [] [] old new e at was j h = was j (subst (λ ds. Is ds Missing j) e h)
all_missing ps Q up (x ∷ xs) (b ∷ answers) old new t at was j h =
    all_missing ps Q up xs answers t.0 new t.2 (λ i. at (suc i))
    (told_missing ps Q up x.place b old t.0 t.1 (λ e. at zero x refl (ap (λ a. Some a) e)) was) j h
all_missing ps Q up [] (b ∷ answers) old new t at was j h = absurd t
all_missing ps Q up (x ∷ xs) [] old new t at was j h = absurd t

-- How many rounds a discovery takes.
use Rattle.std.proofs.Common.{◌≡◌, ◌≢◌, ◌↔◌, ◌⊎◌, ℕ, zero, suc, ◌<◌, ◌≤◌, ◌+◌, ◌-◌, ◌*◌, inl, inr, Bool, List, [], ◌∷◌}
use Rattle.std.proofs.Common.{◌++◌, length, get_or, set, slice_get, Some, Contains, IsTrue, refl, sym, ap, subst, ◌∙◌}
use Rattle.std.proofs.Common.{arith}
use Rattle.std.specs.Bool.{◌==◌}
use Rattle.std.proofs.lemmas.Bool.{cases_order}
use Rattle.std.proofs.lemmas.List.{length-set}
use Rattle.std.proofs.lemmas.Option.{none-some, same_Some, slice_get_within, get_or_from_slice_get}
use Rattle.hg_changeset.proofs.NodeLemmas.{same_not_less}
use Rattle.hg_graph.proofs.GraphLemmas.{get-take, Contains-from_place, place_from_Contains}
use Rattle.hg_graph.proofs.MarkLemmas.{get-set_other}
use Rattle.hg_discovery.specs.declared.finding.Finding.{Finding}
use Rattle.hg_discovery.specs.declared.finding.Finding.TheVariants.{Undecided, Common, Missing}
use Rattle.hg_discovery.specs.declared.finding.PlacedNode.{PlacedNode}
use Rattle.hg_discovery.specs.Search.{Search, Is, IsSearch, IsAscending}
use Rattle.hg_discovery.specs.Answers.{IsRound}
use Rattle.hg_discovery.specs.Rounds.{AreRounds, undecided}
use Rattle.hg_discovery.proofs.ToldLemmas.{told_length, undecided_before, all_decided}
use Rattle.hg_discovery.proofs.DrawLemmas.{sample_member, short_sample, done_is}
use Rattle.hg_discovery.specs.Limits.{sample_size}

-- ---- counting

pub none_undecided : (ds : List Finding) → ((k : ℕ) → Is ds Undecided k → ⊥) → undecided ds ≡ 0
none_undecided [] none = refl
none_undecided (Undecided ∷ ds) none = absurd (none zero refl)
none_undecided (Common ∷ ds) none = none_undecided ds (λ k. none (suc k))
none_undecided (Missing ∷ ds) none = none_undecided ds (λ k. none (suc k))

pub some_undecided : (ds : List Finding) → undecided ds ≡ 0 → (k : ℕ) → Is ds Undecided k → ⊥
some_undecided [] e k h = none-some Undecided h
some_undecided (Undecided ∷ ds) e k h = omega (arith, e)
some_undecided (Common ∷ ds) e zero h = let c : Common ≡ Undecided = same_Some Common Undecided h in cc
some_undecided (Common ∷ ds) e (suc k) h = some_undecided ds e k h
some_undecided (Missing ∷ ds) e zero h = let c : Missing ≡ Undecided = same_Some Missing Undecided h in cc
some_undecided (Missing ∷ ds) e (suc k) h = some_undecided ds e k h

fewer : (old new : List Finding) → length new ≡ length old → ((k : ℕ) → Is new Undecided k → Is old Undecided k)
    → undecided new ≤ undecided old
fewer [] [] len within = omega arith
fewer [] (d ∷ new) len within = absurd (omega (arith, len))
fewer (d ∷ old) [] len within = absurd (omega (arith, len))
fewer (Undecided ∷ old) (Undecided ∷ new) len within = let le =
    fewer old new (omega (arith, len)) (λ k. within (suc k)) in omega (arith, le)
fewer (Undecided ∷ old) (Common ∷ new) len within = let le = fewer old new (omega (arith, len))
    (λ k. within (suc k)) in omega (arith, le)
fewer (Undecided ∷ old) (Missing ∷ new) len within = let le =
    fewer old new (omega (arith, len)) (λ k. within (suc k)) in omega (arith, le)
fewer (Common ∷ old) (Undecided ∷ new) len within = let c : Common ≡ Undecided =
    same_Some Common Undecided (within zero refl) in cc
fewer (Common ∷ old) (Common ∷ new) len within = fewer old new (omega (arith, len)) (λ k. within (suc k))
fewer (Common ∷ old) (Missing ∷ new) len within = fewer old new (omega (arith, len)) (λ k. within (suc k))
fewer (Missing ∷ old) (Undecided ∷ new) len within = let c : Missing ≡ Undecided =
    same_Some Missing Undecided (within zero refl) in cc
fewer (Missing ∷ old) (Common ∷ new) len within = fewer old new (omega (arith, len)) (λ k. within (suc k))
fewer (Missing ∷ old) (Missing ∷ new) len within = fewer old new (omega (arith, len)) (λ k. within (suc k))

not_counted : (d : Finding) (ds : List Finding) → d ≢ Undecided → undecided (d ∷ ds) ≡ undecided ds
not_counted Undecided ds ne = absurd (ne refl)
not_counted Common ds ne = refl
not_counted Missing ds ne = refl

pub one_less : (ds : List Finding) (k : ℕ) (d : Finding) → d ≢ Undecided → Is ds Undecided k
    → undecided ds ≡ suc (undecided (set ds k d))
one_less [] k d ne h = absurd (none-some Undecided h)
one_less (Undecided ∷ ds) zero d ne h = ap suc (sym (not_counted d ds ne))
one_less (Common ∷ ds) zero d ne h = let c : Common ≡ Undecided = same_Some Common Undecided h in cc
one_less (Missing ∷ ds) zero d ne h = let c : Missing ≡ Undecided = same_Some Missing Undecided h in cc
one_less (Undecided ∷ ds) (suc k) d ne h = ap suc (one_less ds k d ne h)
one_less (Common ∷ ds) (suc k) d ne h = one_less ds k d ne h
one_less (Missing ∷ ds) (suc k) d ne h = one_less ds k d ne h

-- no two stand at one place
abbrev HaveOwnPlaces : List PlacedNode → Type 0
HaveOwnPlaces xs = (i j : ℕ) (x y : PlacedNode) → slice_get xs i ≡ Some x → slice_get xs j ≡ Some y → x.place ≡ y.place
    → i ≡ j

-- those who were asked about were undecided, and aren't any more
decided_count : (xs : List PlacedNode) (old new : List Finding) → length new ≡ length old → HaveOwnPlaces xs
    → ((i : ℕ) (x : PlacedNode) → slice_get xs i ≡ Some x → Is old Undecided x.place)
    → ((i : ℕ) (x : PlacedNode) → slice_get xs i ≡ Some x → Is new Undecided x.place → ⊥)
    → ((k : ℕ) → Is new Undecided k → Is old Undecided k) → undecided new + length xs ≤ undecided old
decided_count [] old new len apart was not_now within = let le = fewer old new len within in omega (arith, le)
decided_count (x ∷ xs) old new len apart was not_now within =
    let at : Is old Undecided x.place = was zero x refl in
    let less = one_less old x.place Common (λ e. cc) at in
    let mid = set old x.place Common in
    let rest = decided_count xs mid new (len ∙ sym (length-set old x.place Common))
    (λ i j y z at_y at_z e. let same : suc i ≡ suc j = apart (suc i) (suc j) y z at_y at_z e in omega (arith, same))
    (λ i y at_y.
    let ne : y.place ≢ x.place = λ (e : y.place ≡ x.place). let bad : suc i ≡ zero =
    apart (suc i) zero y x at_y refl e in omega (arith, bad) in
    get-set_other old x.place y.place Common ne ∙ was (suc i) y at_y)
    (λ i. not_now (suc i))
    (λ k h.
    let ne : k ≢ x.place = λ (e : k ≡ x.place). not_now zero x refl (subst (Is new Undecided) e h) in
    get-set_other old x.place k Common ne ∙ within k h) in
    omega (arith, less, rest)

-- ---- a sample has no doubles

ascending_apart : (xs : List PlacedNode) → IsAscending xs → (i j : ℕ) (x : PlacedNode) → slice_get xs i ≡ Some x
    → slice_get xs j ≡ Some x → i < j → ⊥
ascending_apart xs up i j x at_i at_j lt =
    let less = up i j x lt (slice_get_within xs j x at_j) in
    let first = get_or_from_slice_get xs i x x at_i in
    let second = get_or_from_slice_get xs j x x at_j in
    same_not_less (get_or xs i x).node (get_or xs j x).node (ap (λ (y : PlacedNode). y.node) (first ∙ sym second)) less

ascending_once : (xs : List PlacedNode) → IsAscending xs → (i j : ℕ) (x : PlacedNode) → slice_get xs i ≡ Some x
    → slice_get xs j ≡ Some x → i ≡ j
ascending_once xs up i j x at_i at_j = elim (cases_order i j) [
  | inl e ↦ e
  | inr o ↦ elim o [
    | inl l ↦ absurd (ascending_apart xs up i j x at_i at_j l)
    | inr l ↦
        absurd (ascending_apart xs up j i x at_j at_i l)
  ]
]

append_cases : (xs ys : List PlacedNode) (i : ℕ) (x : PlacedNode) → slice_get (xs ++ ys) i ≡ Some x
    → (slice_get xs i ≡ Some x) ⊎ ((j : ℕ) × (i ≡ length xs + j) × (slice_get ys j ≡ Some x))
append_cases [] ys i x h = inr (i, omega arith, h)
append_cases (z ∷ xs) ys zero x h = inl h
append_cases (z ∷ xs) ys (suc i) x h = elim (append_cases xs ys i x h)
    [ inl a ↦ inl a | inr b ↦ inr (b.0, omega (arith, b.1), b.2) ]

append_once : (xs ys : List PlacedNode) → IsAscending xs → IsAscending ys
    → ((x : PlacedNode) → Contains xs x → Contains ys x → ⊥)
    → (i j : ℕ) (x : PlacedNode) → slice_get (xs ++ ys) i ≡ Some x → slice_get (xs ++ ys) j ≡ Some x → i ≡ j
append_once xs ys up_x up_y never i j x at_i at_j = elim (append_cases xs ys i x at_i) [
  | inl a ↦ elim (append_cases xs ys j x at_j) [
    | inl b ↦ ascending_once xs up_x i j x a b
    | inr b ↦ absurd (never x (Contains-from_place xs i x a) (Contains-from_place ys b.0 x b.2))
  ]
  | inr a ↦ elim (append_cases xs ys j x at_j) [
    | inl b ↦ absurd (never x (Contains-from_place xs j x b) (Contains-from_place ys a.0 x a.2))
    | inr b ↦ let same : a.0 ≡ b.0 = ascending_once ys up_y a.0 b.0 x a.2 b.2 in omega (arith, a.1, b.1, same)
  ]
]

asked_apart : (s : Search) → IsSearch s → HaveOwnPlaces s.asked
asked_apart s known i j x y at_x at_y e =
    let sample = known.sample in
    let all = sample.heads ++ sample.others in
    let placed_node_x = (sample_member s s.asked sample x (Contains-from_place s.asked i x at_x)).0 in
    let placed_node_y = (sample_member s s.asked sample y (Contains-from_place s.asked j y at_y)).0 in
    let same : x ≡ y = known.placed_nodes.apart x y placed_node_x placed_node_y e in
    let in_x = (get-take all sample_size i x (subst (λ zs. slice_get zs i ≡ Some x) sample.first at_x)).1 in
    let in_y = (get-take all sample_size j y (subst (λ zs. slice_get zs j ≡ Some y) sample.first at_y)).1 in
    append_once sample.heads sample.others sample.heads_are.0 sample.others_are.0
    (λ z h o. ((sample.others_are.1 z).0 o).1 ((sample.heads_are.1 z).0 h)) i j x in_x
    (subst (λ z. slice_get all j ≡ Some z) (sym same) in_y)

-- ---- a round

-- sample_size are decided, or all
pub round_count : (s t : Search) (answers : List Bool) → IsSearch s → IsRound s answers t
    → undecided t.decided ≤ undecided s.decided - sample_size
round_count s t answers known round =
    let len = told_length s.parents s.asked answers s.decided t.decided round.told in
    let within = undecided_before s.parents s.asked answers s.decided t.decided round.told in
    let decided = all_decided s.parents s.asked answers s.decided t.decided round.told in
    elim (cases_order (length s.asked) sample_size) [
      | inl e ↦ let c = count len within decided in omega (arith, c, e)
      | inr o ↦ elim o [
        | inl short ↦
            let zero_is : undecided t.decided ≡ 0 = none_undecided t.decided (λ k h.
            let x = known.placed_nodes.found k (inl (within k h)) in
            let at : Is s.decided Undecided x.0.place = subst (Is s.decided Undecided) (sym x.2) (within k h) in
            short_sample s s.asked known.sample short x.0 (x.1, at) (λ inside.
            let p = place_from_Contains s.asked x.0 inside in
            decided p.0 x.0 p.1 (subst (Is t.decided Undecided) (sym x.2) h))) in
            omega (arith, zero_is)
        | inr long ↦ let c = count len within decided in omega (arith, c, long)
      ]
    ]
  where
    count : length t.decided ≡ length s.decided → ((k : ℕ) → Is t.decided Undecided k → Is s.decided Undecided k)
        → ((i : ℕ) (x : PlacedNode) → slice_get s.asked i ≡ Some x → Is t.decided Undecided x.place → ⊥)
        → undecided t.decided + length s.asked ≤ undecided s.decided
    count len within decided =
        decided_count s.asked s.decided t.decided len (asked_apart s known)
        (λ i x at. (sample_member s s.asked known.sample x (Contains-from_place s.asked i x at)).1) decided within

-- done is where nothing is counted
pub done_count : (s : Search) → IsSearch s → (b : Bool) → b ≡ (length s.asked == 0)
    → IsTrue b ↔ (undecided s.decided ≡ 0)
done_count s known b is = let all = done_is s known b is in
    ((λ t. none_undecided s.decided (all.0 t)), (λ zero_is. all.1 (some_undecided s.decided zero_is)))

pub rounds_count : (rounds : List (List Bool)) (s t : Search) → IsSearch s → AreRounds s rounds t
    → undecided t.decided ≤ undecided s.decided - sample_size * length rounds
rounds_count [] s t known e = let same : undecided t.decided ≡ undecided s.decided =
    ap (λ (u : Search). undecided u.decided) e in omega (arith, same)
rounds_count (answers ∷ rest) s t known run =
    let one = round_count s run.0 answers known run.1 in
    let more = rounds_count rest run.0 t run.1.search run.2 in
    omega (arith, one, more)

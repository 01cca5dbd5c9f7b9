-- Markers that are added in turn, and the set that they make.
use Rattle.std.proofs.Common.{suc, ◌≡◌, ◌<◌, ◌≤◌, ◌+◌, ◌-◌, length-append, ◌++◌, ◌∷◌, [], ◌∙◌, ◌||◌, ⊎_elim, arith, sym}
use Rattle.std.proofs.Common.{ap, subst, ℕ, List, Bool, true, false, cond, refl, length, get_or, Contains, All}
use Rattle.std.proofs.Common.{append_assoc, ◌↔◌}
use Rattle.std.specs.declared.alloc.AllocError.{AllocError}
use Rattle.std.specs.Prelude.{Result, Ok, Err, IfOk, Option}
use Rattle.std.specs.Iterator.{DrainsIf}
use Rattle.std.proofs.lemmas.Iterator.{YieldsList, items_from_drains}
use Rattle.std.specs.List.{range_with_len}
use Rattle.std.proofs.lemmas.Bool.{cases_Bool, false≢true}
use Rattle.std.proofs.lemmas.List.{append-nil, get_or_append_left, map-id}
use Rattle.std.proofs.lemmas.List.FromFn.{length-range_with_len, get_or-range_with_len}
use Rattle.std.proofs.lemmas.Map.Keys.{IsDistinct-push, apart_from_distinct}
use Rattle.std.proofs.lemmas.List.Folds.{list_any-append}
use Rattle.std.proofs.lemmas.List.Elements.{All-contains, Contains-get_or}
use Rattle.std.proofs.Math.Bool.{or_assoc}
use Rattle.hg_marker.specs.Fields.{Fields}
use Rattle.hg_marker.specs.Same.{same_fields, fields_decides, fields_equivalence}
use Rattle.hg_obsstore.specs.declared.store.Added.{Added}
use Rattle.hg_obsstore.specs.declared.store.Added.TheVariants.{New, Known}
use Rattle.hg_obsstore.specs.Places.{ListsAll}
use Rattle.hg_obsstore.specs.Markers.{AllDistinct}
use Rattle.hg_obsstore.specs.Growth.{AddAnswer, StartsWith, holds, new_among, united, with_marker}
use Rattle.hg_obsstore.specs.Sets.{IsUnion, IsWithin}
use Rattle.hg_obsstore.proofs.StoreLemmas.{held, held_back}

pub not_held : (ms : List Fields) (m : Fields) → ¬ Contains ms m → holds ms m ≡ false
not_held ms m absent = ⊎_elim (λ (t : holds ms m ≡ true). absurd (absent (held ms m t))) (λ (f : holds ms m ≡ false). f)
    (cases_Bool (holds ms m))

-- what a look-up didn't find isn't there
pub not_there : (ms xs : List Fields) (m : Fields) (found : Bool) → (found ≡ true ↔ Contains xs m)
    → xs ≡ ms → found ≡ false → ¬ Contains ms m
not_there ms xs m found told is missed there =
    false≢true (sym missed ∙ told.1 (subst (λ (ys : List Fields). Contains ys m) (sym is) there))

-- so it is apart from those that are held
pub apart_push : (ms : List Fields) (m : Fields) → AllDistinct ms → ¬ Contains ms m → AllDistinct (ms ++ m ∷ [])
apart_push ms m apart absent = IsDistinct-push fields_equivalence ms m apart (not_held ms m absent)

-- one marker
pub with_known : (ms : List Fields) (m : Fields) → Contains ms m → with_marker ms m ≡ ms
with_known ms m h = rw (held_back ms m h) refl

pub with_added : (ms : List Fields) (m : Fields) (added : Added) (after : List Fields) → AddAnswer ms m added after
    → after ≡ with_marker ms m
with_added ms m New after h = rw (not_held ms m h.0) h.1
with_added ms m Known after h = h.1 ∙ sym (with_known ms m h.0)

pub with_starts : (ms : List Fields) (m : Fields) → StartsWith ms (with_marker ms m)
with_starts ms m = elim (holds ms m) as (λ b. StartsWith ms (cond b ms (ms ++ m ∷ []))) [
  | true ↦ ([], sym (append-nil ms))
  | false ↦ (m ∷ [], refl)
]

pub starts_more : (old mid new : List Fields) → StartsWith old mid → StartsWith mid new → StartsWith old new
starts_more old mid new h k = (h.0 ++ k.0, k.1 ∙ ap (λ ms. ms ++ k.0) h.1 ∙ append_assoc old h.0 k.0)

pub united_step : (ms : List Fields) (m : Fields) (more : List Fields)
    → united (with_marker ms m) more ≡ united ms (m ∷ more)
united_step ms m more =
    elim (holds ms m) as
    (λ b. united (cond b ms (ms ++ m ∷ [])) more ≡ ms ++ cond b (new_among ms more)
    (m ∷ new_among (ms ++ m ∷ []) more)) [
      | true ↦ refl
      | false ↦ append_assoc ms (m ∷ []) (new_among (ms ++ m ∷ []) more)
    ]

-- where there is more than before something was new
pub longer_new : (old markers : List Fields) → length old < length (united old markers) → new_among old markers ≡ [] → ⊥
longer_new old markers more none =
    let both = length-append old (new_among old markers) in
    let empty : length (new_among old markers) ≡ 0 = ap length none in
    omega (arith, more, both, empty)

-- a next marker that isn't held is new
pub next_new : (old now markers rest : List Fields) (m : Fields) → StartsWith old now
    → united now (m ∷ rest) ≡ united old markers → ¬ Contains now m → new_among old markers ≡ [] → ⊥
next_new old now markers rest m starts same absent =
    let first : new_among now (m ∷ rest) ≡ m ∷ new_among (now ++ m ∷ []) rest = rw (not_held now m absent) refl in
    let more : length (new_among now (m ∷ rest)) ≡ suc (length (new_among (now ++ m ∷ []) rest)) = ap length first in
    let before : length now ≡ length old + length starts.0 = ap length starts.1 ∙ length-append old starts.0 in
    let all : length (united old markers) ≡ length now + length (new_among now (m ∷ rest)) = ap length (sym same)
    ∙ length-append now (new_among now (m ∷ rest)) in
    longer_new old markers (omega (arith, more, before, all))

either_held : (a b : Bool) → (b ≡ true → a ≡ true) → a ≡ (a || b)
either_held true b f = refl
either_held false true f = f refl
either_held false false f = refl

holds_with : (ms : List Fields) (m k : Fields) → holds (with_marker ms m) k ≡ (holds ms k || same_fields k m)
holds_with ms m k = ⊎_elim
    (λ (t : holds ms m ≡ true). rw t
    (either_held (holds ms k) (same_fields k m)
    (λ s. subst (λ x. holds ms x ≡ true) (sym ((fields_decides k m).0 s)) t)))
    (λ (f : holds ms m ≡ false). rw f
    (list_any-append (same_fields k) ms (m ∷ []) ∙ ap (λ b. holds ms k || b) (nothing_else (same_fields k m))))
    (cases_Bool (holds ms m))
  where
    nothing_else : (b : Bool) → (b || false) ≡ b
    nothing_else true = refl
    nothing_else false = refl

holds_united : (ms more : List Fields) (k : Fields) → holds (united ms more) k ≡ (holds ms k || holds more k)
holds_united ms [] k = list_any-append (same_fields k) ms []
holds_united ms (m ∷ more) k =
    ap (λ all. holds all k) (sym (united_step ms m more))
    ∙ holds_united (with_marker ms m) more k
    ∙ ap (λ b. b || holds more k) (holds_with ms m k)
    ∙ or_assoc (holds ms k) (same_fields k m) (holds more k)

pub union_of_united : (ms more all : List Fields) → all ≡ united ms more → IsUnion (holds ms) (holds more) (holds all)
union_of_united ms more all e = ap holds e ∙ (λ i k. holds_united ms more k i)

-- each of the first is among the second
pub below_is_within : (ms other : List Fields) → All (Contains other) ms → IsWithin (holds ms) (holds other)
below_is_within ms other all k h = held_back other k (All-contains (Contains other) ms k all (held ms k h))

pub within_is_below : (ms other : List Fields) → IsWithin (holds ms) (holds other) → All (Contains other) ms
within_is_below ms other within i d lt =
    held other _ (within (get_or ms i d) (held_back ms (get_or ms i d) (Contains-get_or ms i d lt)))

-- markers that are apart already
at_its_place : (ms : List Fields) (m : Fields) (more : List Fields) → get_or (ms ++ m ∷ more) (length ms) m ≡ m
at_its_place [] m more = refl
at_its_place (x ∷ ms) m more = at_its_place ms m more

absent_before : (ms : List Fields) (m : Fields) (more : List Fields) → AllDistinct (ms ++ m ∷ more) → holds ms m ≡ false
absent_before ms m more apart = not_held ms m (λ c.
    let long : length (ms ++ m ∷ more) ≡ length ms + length (m ∷ more) = length-append ms (m ∷ more) in
    let other = apart_from_distinct same_fields (ms ++ m ∷ more) c.0 (length ms) m apart c.1 (omega (arith, long)) in
    let one : get_or (ms ++ m ∷ more) c.0 m ≡ m = get_or_append_left ms (m ∷ more) m c.0 c.1 ∙ c.2 in
    false≢true (sym (rw (one, at_its_place ms m more) at other) ∙ (fields_decides m m).1 refl))

new_apart : (ms more : List Fields) → AllDistinct (ms ++ more) → new_among ms more ≡ more
new_apart ms [] apart = refl
new_apart ms (m ∷ more) apart =
    rw (absent_before ms m more apart)
    (ap (λ xs. m ∷ xs) (new_apart (ms ++ m ∷ []) more (subst AllDistinct (sym (append_assoc ms (m ∷ []) more)) apart)))

pub copied : (ms : List Fields) → AllDistinct ms → united [] ms ≡ ms
copied ms apart = new_apart [] ms apart

-- numbers one after the other
pub lists_between : (a b : ℕ) → ListsAll (λ i. (a ≤ i) × (i < b)) (range_with_len a (b - a))
lists_between a b =
    let long = length-range_with_len a (b - a) in
    record {
      ascending = λ j h. let lt : j + 1 < b - a = omega (arith, h, long) in
          let before : j < b - a = omega (arith, lt) in
          rw (get_or-range_with_len a (b - a) j 0 before, get_or-range_with_len a (b - a) (j + 1) 0 lt)
          (let up : a + j < a + (j + 1) = omega arith in up);
      exact = λ i. (
        (λ h. let lt : h.0 < b - a = omega (arith, h.1, long) in
            let at : a + h.0 ≡ i = sym (get_or-range_with_len a (b - a) h.0 i lt) ∙ h.2 in
            (omega (arith, at), omega (arith, at, lt))),
        (λ h. let lt : i - a < b - a = omega (arith, h.0, h.1) in (
          i - a,
          omega (arith, lt, long),
          get_or-range_with_len a (b - a) (i - a) i lt
              ∙ (let at : a + (i - a) ≡ i = omega (arith, h.0) in at),
        )),
      );
    }

pub are_between : {V : Type 0} (items : V → List ℕ) (a b : ℕ) (r : Result V AllocError)
    → IfOk r (λ v. items v ≡ range_with_len a (b - a)) → IfOk r (λ v. ListsAll (λ i. (a ≤ i) × (i < b)) (items v))
are_between items a b (Ok v) e = subst (ListsAll (λ i. (a ≤ i) × (i < b))) (sym e) (lists_between a b)
are_between items a b (Err error) e = tt

-- what is collected into a list of any kind
pub items_from_collect : {S V : Type 0} {steps : S → Option ℕ → S → Type 0} {s : S} {all : List ℕ}
    (items : V → List ℕ) (r : Result V AllocError)
    → IfOk r (λ v. (xs : List ℕ) × DrainsIf steps (Unit {0}) s xs × (items v ≡ xs)) → YieldsList steps (λ x. x) s all
    → IfOk r (λ v. items v ≡ all)
items_from_collect items (Ok v) ran yields = ran.2 ∙ sym (map-id ran.0) ∙ items_from_drains ran.0 ran.1 yields
items_from_collect items (Err error) ran yields = tt

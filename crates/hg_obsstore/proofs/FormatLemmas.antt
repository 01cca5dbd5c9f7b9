-- Reading a store marker by marker, against its grammar.
use Rattle.std.proofs.Common.{◌≡◌, ◌<◌, ◌≤◌, ℕ, zero, suc, ◌+◌, ◌-◌, ◌==◌, false, List, [], ◌∷◌, ◌++◌, length, drop}
use Rattle.std.proofs.Common.{take, get_or, Result, Ok, Err, refl, sym, ap, subst, ◌∙◌, append_assoc, length-append}
use Rattle.std.proofs.Common.{arith}
use Rattle.std.proofs.lemmas.List.{append-nil, flat_map_more, take_more}
use Rattle.std.proofs.lemmas.List.Concat.{flat_map-append, flat_map-cons}
use Rattle.std.proofs.lemmas.Bool.{false_from_ne_true}
use Rattle.std.proofs.Math.Seq.{take-append_seam}
use Rattle.std.specs.Cmp.{unsigned_Decides}
use Rattle.std.specs.List.{flat_map, AllByRecursion}
use Rattle.std.specs.Result.{MatchResult, IfOk, IsErrOf}
use Rattle.hex.specs.Hex.{IsBytes}
use Rattle.hg_marker.specs.declared.error.MarkerFault.{MarkerFault}
use Rattle.hg_marker.specs.declared.error.ReadError.{ReadError}
use Rattle.hg_marker.specs.declared.error.ReadError.TheVariants.{NoMemory, Fault}
use Rattle.hg_join.proofs.Entries.{all_next}
use Rattle.hg_marker.specs.Fields.{Fields}
use Rattle.hg_marker.specs.Grammar.{IsSpelling, spelling}
use Rattle.hg_marker.specs.Faults.{marker_at, IsFault, left}
use Rattle.hg_marker.specs.Reading.{Gives, Fails, IsRead}
use Rattle.hg_marker.proofs.Formats.{IsBytes-right, Takes}
use Rattle.hg_marker.proofs.MarkerLemmas.{marker_again, marker_takes}
use Rattle.hg_marker.proofs.FaultLemmas.{is_met, is_told}
use Rattle.hg_obsstore.specs.declared.fault.StoreFault.{StoreFault}
use Rattle.hg_obsstore.specs.declared.fault.StoreFault.TheVariants.{BadVersion, Bad}
use Rattle.hg_obsstore.specs.Spelling.{AreSpelled, IsStoreSpelling, store_spelling}
use Rattle.hg_obsstore.specs.Faults.{IsStoreFault, with_place, placed_marker, with_front, with_others, markers_at}
use Rattle.hg_obsstore.specs.Faults.{store_at}

-- ---- one marker

pub spelling_long : (m : Fields) (front : List ℕ) → IsSpelling m front → 0 < length front
spelling_long m front s = let P : List ℕ → Type 0 = λ bytes. 0 < length bytes in subst P (sym s.layout) (omega arith)

-- reading a marker takes bytes
pub shorter : (bytes : List ℕ) (m : Fields) (rest : List ℕ) → IsBytes bytes → marker_at bytes ≡ Ok (m, rest)
    → length rest < length bytes
shorter bytes m rest fits e =
    let t = marker_takes bytes m rest fits e in
    omega (arith, ap length t.parts, length-append t.front rest, spelling_long m t.front t.spells)

pub spelled_longer : (ms : List Fields) (bytes : List ℕ) → AreSpelled ms bytes → 0 < length ms → 0 < length bytes
spelled_longer [] bytes h more = absurd (omega (arith, more))
spelled_longer (m ∷ ms) bytes h more = omega (arith, ap length h.3, length-append h.0 h.1, spelling_long m h.0 h.2)

pub store_longer : (ms : List Fields) (bytes : List ℕ) → IsStoreSpelling ms bytes → 0 < length ms → 1 < length bytes
store_longer ms [] h more = absurd (omega (arith, more, ap length h))
store_longer ms (version ∷ bytes) h more = omega (arith, spelled_longer ms bytes h.1 more)

-- ---- markers in front of what is read

pub with_none : (r : Result (List Fields) StoreFault) → with_front [] r ≡ r
with_none (Ok ms) = refl
with_none (Err fault) = refl

with_both : (first second : List Fields) (r : Result (List Fields) StoreFault)
    → with_front first (with_front second r) ≡ with_front (first ++ second) r
with_both first second (Ok ms) = ap (λ (all : List Fields). Ok all) (sym (append_assoc first second ms))
with_both first second (Err fault) = refl

not_zero : (n : ℕ) → 0 < n → (n == 0) ≡ false
not_zero n h = false_from_ne_true (n == 0) (λ e. let zero_is = (unsigned_Decides n 0).0 e in omega (arith, zero_is, h))

one_more : (total limit : ℕ) (m : Fields) (front rest : List ℕ) → IsSpelling m front
    → markers_at total (suc limit) (front ++ rest) ≡ with_front (m ∷ []) (markers_at total limit rest)
unfolding markers_at
one_more total limit m front rest s =
    let long : 0 < length (front ++ rest) = omega (arith, spelling_long m front s, length-append front rest) in
    rw (not_zero (length (front ++ rest)) long, marker_again m front rest s) refl

-- past whole markers there is still a limit that is no bound for what is left
past_whole : (total : ℕ) (ms : List Fields) (front rest : List ℕ) (limit : ℕ) → AreSpelled ms front
    → length (front ++ rest) ≤ limit → (k : ℕ) × (length rest ≤ k)
    × (markers_at total limit (front ++ rest) ≡ with_front ms (markers_at total k rest))
past_whole total [] front rest limit none fits = (
  limit,
  omega (arith, fits, length-append front rest),
  ap (λ (f : List ℕ). markers_at total limit (f ++ rest)) none
      ∙ sym (with_none (markers_at total limit rest)),
)
past_whole total (m ∷ ms) front rest zero h fits =
    absurd (omega (
      arith,
      fits,
      length-append front rest,
      spelling_long m h.0 h.2,
      length-append h.0 h.1,
      ap length h.3,
    ))
past_whole total (m ∷ ms) front rest (suc limit) h fits =
    let parts : front ++ rest ≡ h.0 ++ (h.1 ++ rest) = ap (λ (f : List ℕ). f ++ rest) h.3 ∙ append_assoc h.0 h.1 rest in
    let long : length (front ++ rest) ≡ length h.0 + length (h.1 ++ rest) = ap length parts
    ∙ length-append h.0 (h.1 ++ rest) in
    let others = past_whole total ms h.1 rest limit h.4 (omega (arith, fits, long, spelling_long m h.0 h.2)) in (
      others.0,
      others.1,
      ap (markers_at total (suc limit)) parts ∙ one_more total limit m h.0 (h.1 ++ rest) h.2
          ∙ ap (with_front (m ∷ [])) others.2 ∙ with_both (m ∷ []) ms (markers_at total others.0 rest),
    )

at_end : (total limit : ℕ) → markers_at total limit [] ≡ Ok []
unfolding markers_at
at_end total zero = refl
at_end total (suc limit) = refl

whole_read : (total : ℕ) (ms : List Fields) (bytes : List ℕ) (limit : ℕ) → AreSpelled ms bytes
    → length bytes ≤ limit → markers_at total limit bytes ≡ Ok ms
whole_read total ms bytes limit h fits =
    let p = past_whole total ms bytes [] limit h (omega (arith, fits, length-append bytes [])) in
    ap (markers_at total limit) (sym (append-nil bytes)) ∙ p.2 ∙ ap (with_front ms) (at_end total p.0)
    ∙ ap (λ (all : List Fields). Ok all) (append-nil ms)

stopped : (total limit : ℕ) (rest : List ℕ) (cause : MarkerFault) → 0 < length rest
    → length rest ≤ limit → IsFault rest cause → markers_at total limit rest ≡ Err (Bad (total - length rest) cause)
unfolding markers_at
stopped total zero rest cause more fits h = absurd (omega (arith, more, fits))
stopped total (suc limit) rest cause more fits h = rw (not_zero (length rest) more, is_met rest cause h) refl

-- ---- what was read, or why not

record Stops (total : ℕ) (bytes : List ℕ) (fault : StoreFault) : Type 0 where
  markers : List Fields
  front : List ℕ
  rest : List ℕ
  cause : MarkerFault
  parts : bytes ≡ front ++ rest
  spelled : AreSpelled markers front
  is : fault ≡ Bad (total - length rest) cause
  more : 0 < length rest
  cause_is : IsFault rest cause

one_more_told : (total : ℕ) (bytes : List ℕ) (m : Fields) (rest : List ℕ) (r : Result (List Fields) StoreFault)
    → Takes IsSpelling bytes m rest → MatchResult r (λ ms. AreSpelled ms rest) (Stops total rest)
    → MatchResult (with_front (m ∷ []) r) (λ ms. AreSpelled ms bytes) (Stops total bytes)
one_more_told total bytes m rest (Ok ms) t h = (t.front, rest, t.spells, t.parts, h)
one_more_told total bytes m rest (Err fault) t h = record {
  markers = m ∷ h.markers;
  front = t.front ++ h.front;
  rest = h.rest;
  cause = h.cause;
  parts = t.parts ∙ ap (λ (b : List ℕ). t.front ++ b) h.parts ∙ sym (append_assoc t.front h.front h.rest);
  spelled = (t.front, h.front, t.spells, refl, h.spelled);
  is = h.is;
  more = h.more;
  cause_is = h.cause_is;
}

first_told : (total limit : ℕ) (bytes : List ℕ) (r : Result (Fields × List ℕ) MarkerFault)
    → marker_at bytes ≡ r → 0 < length bytes → IsBytes bytes → length bytes ≤ suc limit
    → ((rest : List ℕ) → IsBytes rest
    → length rest ≤ limit → MatchResult (markers_at total limit rest) (λ ms. AreSpelled ms rest) (Stops total rest))
    → MatchResult (with_others (with_place (total - length bytes) r) (markers_at total limit))
    (λ ms. AreSpelled ms bytes) (Stops total bytes)
first_told total limit bytes (Ok x) e more fits within others =
    let t = marker_takes bytes x.0 x.1 fits e in
    let long : length bytes ≡ length t.front + length x.1 = ap length t.parts ∙ length-append t.front x.1 in
    one_more_told total bytes x.0 x.1 (markers_at total limit x.1) t
    (others x.1 (IsBytes-right t.front x.1 (subst IsBytes t.parts fits))
    (omega (arith, within, long, spelling_long x.0 t.front t.spells)))
first_told total limit bytes (Err cause) e more fits within others = record {
  markers = [];
  front = [];
  rest = bytes;
  cause = cause;
  parts = refl;
  spelled = refl;
  is = refl;
  more = more;
  cause_is = is_told bytes cause e;
}

told : (total limit : ℕ) (bytes : List ℕ) → IsBytes bytes
    → length bytes ≤ limit → MatchResult (markers_at total limit bytes) (λ ms. AreSpelled ms bytes) (Stops total bytes)
unfolding markers_at
told total zero [] fits within = refl
told total zero (b ∷ bytes) fits within = absurd (omega (arith, within))
told total (suc limit) [] fits within = refl
told total (suc limit) (b ∷ bytes) fits within =
    let more : 0 < length (b ∷ bytes) = omega arith in
    rw (not_zero (length (b ∷ bytes)) more)
    (first_told total limit (b ∷ bytes) (marker_at (b ∷ bytes)) refl more fits within (told total limit))

-- ---- the loop that reads, with these markers so far

pub goes_on : (total limit : ℕ) (front : List Fields) (m : Fields) (rest after : List ℕ)
    (all : Result (List Fields) StoreFault) → length after < length rest
    → length rest ≤ limit → placed_marker total rest ≡ Ok (m, after)
    → with_front front (markers_at total limit rest) ≡ all → (k : ℕ) × (length after ≤ k)
    × (with_front (front ++ m ∷ []) (markers_at total k after) ≡ all)
unfolding markers_at
goes_on total zero front m rest after all shorter within h so_far = absurd (omega (arith, shorter, within))
goes_on total (suc limit) front m rest after all shorter within h so_far =
    let more : 0 < length rest = omega (arith, shorter) in
    let one : markers_at total (suc limit) rest ≡ with_front (m ∷ []) (markers_at total limit after) =
    rw (not_zero (length rest) more, h) refl in (
      limit,
      omega (arith, shorter, within),
      sym (with_both front (m ∷ []) (markers_at total limit after))
          ∙ ap (with_front front) (sym one) ∙ so_far,
    )

pub breaks_off : (total limit : ℕ) (front : List Fields) (rest : List ℕ) (f : StoreFault)
    (all : Result (List Fields) StoreFault) → 0 < length rest → length rest ≤ limit → placed_marker total rest ≡ Err f
    → with_front front (markers_at total limit rest) ≡ all → all ≡ Err f
unfolding markers_at
breaks_off total zero front rest f all more within h so_far = absurd (omega (arith, more, within))
breaks_off total (suc limit) front rest f all more within h so_far =
    let one : markers_at total (suc limit) rest ≡ Err f = rw (not_zero (length rest) more, h) refl in
    sym so_far ∙ ap (with_front front) one

pub ends : (total limit : ℕ) (front : List Fields) (rest : List ℕ) (all : Result (List Fields) StoreFault)
    → length rest ≡ 0 → with_front front (markers_at total limit rest) ≡ all → all ≡ Ok front
ends total limit front (b ∷ rest) all none so_far = absurd (omega (arith, none))
ends total limit front [] all none so_far = sym so_far ∙ ap (with_front front) (at_end total limit)
    ∙ ap (λ (ms : List Fields). Ok ms) (append-nil front)

-- ---- a store

pub store_told : (bytes : List ℕ) → IsBytes bytes
    → MatchResult (store_at bytes) (λ ms. IsStoreSpelling ms bytes) (IsStoreFault bytes)
unfolding store_at
store_told [] fits = refl
store_told (suc version ∷ bytes) fits = let above : 0 < suc version = omega arith in
    rw (not_zero (suc version) above) (above, refl)
store_told (zero ∷ bytes) fits = as_store (markers_at (suc (length bytes)) (length bytes) bytes)
    (told (suc (length bytes)) (length bytes) bytes (IsBytes-right (0 ∷ []) bytes fits) (omega arith))
  where
    as_store : (r : Result (List Fields) StoreFault)
        → MatchResult r (λ ms. AreSpelled ms bytes) (Stops (suc (length bytes)) bytes)
        → MatchResult r (λ ms. IsStoreSpelling ms (0 ∷ bytes)) (IsStoreFault (0 ∷ bytes))
    as_store (Ok ms) h = (refl, h)
    as_store (Err fault) h = subst (IsStoreFault (0 ∷ bytes)) (sym h.is) (
      refl,
      record {
        markers = h.markers;
        front = h.front;
        rest = h.rest;
        parts = h.parts;
        spelled = h.spelled;
        place_is = omega (arith, length-append h.front h.rest, ap length h.parts);
        more = h.more;
        fault = h.cause_is;
      },
    )

pub store_read : (ms : List Fields) (bytes : List ℕ) → IsStoreSpelling ms bytes → store_at bytes ≡ Ok ms
unfolding store_at
store_read ms [] h = ap (λ (all : List Fields). Ok all) (sym h)
store_read ms (suc version ∷ bytes) h = absurd (omega (arith, h.0))
store_read ms (zero ∷ bytes) h = whole_read (suc (length bytes)) ms bytes (length bytes) h.1 (omega arith)

pub store_refused : (bytes : List ℕ) (fault : StoreFault) → IsStoreFault bytes fault → store_at bytes ≡ Err fault
unfolding store_at
store_refused [] fault h = absurd h
store_refused (zero ∷ bytes) (BadVersion v) h = absurd (omega (arith, h.0))
store_refused (suc version ∷ bytes) (BadVersion v) h = rw (not_zero (suc version) h.0)
    (ap (λ (n : ℕ). Err (BadVersion n)) (sym h.1))
store_refused (suc version ∷ bytes) (Bad place cause) h = absurd (omega (arith, h.0))
store_refused (zero ∷ bytes) (Bad place cause) h =
    let total = suc (length bytes) in
    let p = past_whole total h.1.markers h.1.front h.1.rest (length bytes) h.1.spelled
    (omega (arith, ap length h.1.parts)) in
    let place_is : total - length h.1.rest ≡ place =
    omega (arith, h.1.place_is, ap length h.1.parts, length-append h.1.front h.1.rest) in
    ap (markers_at total (length bytes)) h.1.parts ∙ p.2 ∙ ap (with_front h.1.markers)
    (stopped total p.0 h.1.rest cause h.1.more p.1 h.1.fault) ∙ ap (λ (n : ℕ). Err (Bad n cause)) place_is

pub store_empty : (bytes : List ℕ) (ms : List Fields) → length bytes < 1 → ms ≡ [] → store_at bytes ≡ Ok ms
unfolding store_at
store_empty [] ms l none = ap (λ (all : List Fields). Ok all) (sym none)
store_empty (b ∷ bytes) ms l none = absurd (omega (arith, l))

-- bytes that were checked, behind the version
pub store_checked : (bytes : List ℕ) (ms : List Fields) → 0 < length bytes → IsRead (store_at bytes)
    → markers_at (length bytes) (length (drop 1 bytes)) (drop 1 bytes) ≡ Ok ms → store_at bytes ≡ Ok ms
unfolding store_at
store_checked [] ms l h read = absurd (omega (arith, l))
store_checked (zero ∷ bytes) ms l h read = read
store_checked (suc version ∷ bytes) ms l h read = let above : 0 < suc version = omega arith in
    absurd (rw (not_zero (suc version) above) at h)

-- one marker more
pub length_push : (ms : List Fields) (m : Fields)
    → length (store_spelling (ms ++ m ∷ [])) ≡ length (store_spelling ms) + length (spelling m)
length_push ms m =
    let one : flat_map spelling (m ∷ []) ≡ spelling m = flat_map-cons spelling m [] ∙ append-nil (spelling m) in
    omega (
      arith,
      ap length (flat_map-append spelling ms (m ∷ [])),
      length-append (flat_map spelling ms)
          (flat_map spelling (m ∷ [])),
      ap length one,
    )

pub written_on : (before : List ℕ) (ms : List Fields) (m : Fields)
    → (before ++ store_spelling ms) ++ spelling m ≡ before ++ store_spelling (ms ++ m ∷ [])
written_on before ms m = append_assoc before (store_spelling ms) (spelling m)
    ∙ ap (λ (bytes : List ℕ). before ++ 0 ∷ bytes) (flat_map_more spelling [] ms m)

-- the bytes of the first markers are a front of the bytes of all
pub written_front : (before now : List ℕ) (ms more all : List Fields) → now ≡ before ++ store_spelling ms
    → ms ++ more ≡ all → (n : ℕ) × (now ≡ before ++ take n (store_spelling all))
written_front before now ms more all written split =
    let rest = flat_map spelling more in
    let bytes : store_spelling all ≡ store_spelling ms ++ rest =
    ap store_spelling (sym split) ∙ ap (λ (xs : List ℕ). 0 ∷ xs) (flat_map-append spelling ms more) in
    let n = length (store_spelling ms) in
    (n, written ∙ ap (λ xs. before ++ xs) (sym (ap (take n) bytes ∙ take-append_seam (store_spelling ms) rest)))

pub length_more : (ms : List Fields) (i : ℕ) (m : Fields) → i < length ms → m ≡ get_or ms i m
    → length (store_spelling (take (i + 1) ms)) ≡ length (store_spelling (take i ms)) + length (spelling m)
length_more ms i m l is =
    let more : take (i + 1) ms ≡ take i ms ++ m ∷ [] = take_more ms i m l ∙ ap (λ x. take i ms ++ x ∷ []) (sym is) in
    ap (λ xs. length (store_spelling xs)) more ∙ length_push (take i ms) m

pub each_more : (P : Fields → Type 0) (ms : List Fields) (i : ℕ) (m : Fields) → i < length ms → m ≡ get_or ms i m
    → AllByRecursion P (take i ms) → P m → AllByRecursion P (take (i + 1) ms)
each_more P ms i m l is each one =
    let more : take (i + 1) ms ≡ take i ms ++ m ∷ [] = take_more ms i m l ∙ ap (λ x. take i ms ++ x ∷ []) (sym is) in
    subst (AllByRecursion P) (sym more) (all_next P (take i ms) m each one)

spelled_each : (ms : List Fields) → AllByRecursion (λ m. IsSpelling m (spelling m)) ms
    → AreSpelled ms (flat_map spelling ms)
spelled_each [] h = refl
spelled_each (m ∷ ms) h = (spelling m, flat_map spelling ms, h.0, refl, spelled_each ms h.1)

pub written_spells : (ms : List Fields) → AllByRecursion (λ m. IsSpelling m (spelling m)) ms
    → IsStoreSpelling ms (store_spelling ms)
written_spells ms h = (refl, spelled_each ms h)

-- ---- what a function returns that gives what is read

module _ {X Y F : Type 0} (view : X → Y) (P : Y → Type 0) (Q : F → Type 0) where
  pub found : (r : Result X (ReadError F)) (s : Result Y F) → Gives view r s → MatchResult s P Q
      → IfOk r (λ x. P (view x))
  found (Ok x) s e h = subst (λ (t : Result Y F). MatchResult t P Q) e h
  found (Err e) s g h = tt

  pub fault : (r : Result X (ReadError F)) (s : Result Y F) → Gives view r s → MatchResult s P Q → (f : F)
      → IsErrOf r (Fault f) → Q f
  fault (Ok x) s g h f is = absurd cc
  fault (Err NoMemory) s g h f is = absurd cc
  fault (Err (Fault other)) s e h f is = subst Q (same_fault is) (subst (λ (t : Result Y F). MatchResult t P Q) e h)
    where
      same_fault : ◌≡◌ {A = Result X (ReadError F)} (Err (Fault other)) (Err (Fault f)) → other ≡ f
      same_fault e = cc

-- where there is no fault something was read
pub is_read : {Y F : Type 0} (read : Result Y F) (y : Y) → read ≡ Ok y → IsRead read
is_read {Y} {F} read y e = subst (λ (r : Result Y F). IsRead r) (sym e) tt

-- what was left tells what was read
pub left_ok : {A F : Type 0} (r : Result (A × List ℕ) F) (after : List ℕ) → left r ≡ Ok after
    → (x : A) × (r ≡ Ok (x, after))
left_ok {A} {F} (Ok y) after e = (y.0, ap (λ (b : List ℕ). Ok (y.0, b)) (same e))
  where
    same : ◌≡◌ {A = Result (List ℕ) F} (Ok y.1) (Ok after) → y.1 ≡ after
    same e = cc
left_ok (Err f) after e = absurd cc

pub left_err : {A F : Type 0} (r : Result (A × List ℕ) F) (f : F) → left r ≡ Err f → r ≡ Err f
left_err (Ok y) f e = absurd cc
left_err {A} {F} (Err g) f e = ap (λ (k : F). Err k) (same e)
  where
    same : ◌≡◌ {A = Result (List ℕ) F} (Err g) (Err f) → g ≡ f
    same e = cc

pub fails_alike : {A B F : Type 0} (e : ReadError F) (x : A) (y : B) → Fails e (Ok x) → Fails e (Ok y)
fails_alike NoMemory x y h = tt
fails_alike (Fault f) x y h = absurd cc

pub ok_is : {A F : Type 0} (x y : A) → ◌≡◌ {A = Result A F} (Ok x) (Ok y) → x ≡ y
ok_is x y e = cc

-- What goes into a digest, and the places under digests after a change.
use Rattle.std.proofs.Common.{◌≡◌, ◌≢◌, ◌<◌, ◌≤◌, ◌+◌, ◌++◌, ◌∷◌, [], ◌∙◌, ⊎_elim, arith, sym, ap, subst, ℕ, List, refl}
use Rattle.std.proofs.Common.{Some, true, false, length, length-append, append_assoc, take, drop, get_or, Contains}
use Rattle.std.proofs.Common.{slice_get, ◌==◌, cond, ◌⊎◌, Option, None, zero, suc}
use Rattle.std.specs.List.{AllByRecursion, IsDistinct}
use Rattle.std.specs.BTreeMap.{get, get_by, is_at}
use Rattle.std.specs.Cmp.{unsigned_Decides}
use Rattle.std.proofs.lemmas.Bool.{cases_Bool, cases_eq, cases_lt, false_from_ne_true, false≢true}
use Rattle.std.proofs.lemmas.Option.{slice_get_within, get_or_from_slice_get, same_Some}
use Rattle.std.proofs.lemmas.List.Folds.{list_any_at}
use Rattle.std.proofs.lemmas.Grind.{flat_map-append}
use Rattle.std.proofs.lemmas.List.{append-nil, drop-append-le, length-drop, take-append-drop}
use Rattle.std.proofs.lemmas.List.Elements.{Contains-push, Contains-push_cases, Contains-append_left}
use Rattle.std.proofs.lemmas.List.Elements.{Contains-append_cases}
use Rattle.hg_changeset.specs.declared.node.Node.{Node}
use Rattle.hg_changeset.specs.Node.{node_cmp}
use Rattle.hg_changeset.proofs.NodeLemmas.{node_cases}
use Rattle.hg_obsstore.specs.declared.places.Places.{Places}
use Rattle.hg_obsstore.specs.declared.digests.Digests.{Digests}
use Rattle.hg_obsstore.specs.Index.{stands_last, with_last, without_last, places_of, AddsPlace, SamePlaces}
use Rattle.hg_obsstore.specs.Indexes.{AreIndexed, TakeMarker}
use Rattle.hg_obsstore.specs.Markers.{AllDistinct, predecessors}
use Rattle.hg_obsstore.specs.declared.index.Index.{Index}
use Rattle.hg_obsstore.specs.declared.index.Role.TheVariants.{Predecessor}
use Rattle.hg_marker.specs.Fields.{Fields}
use Rattle.hg_marker.specs.Same.{same_fields, fields_decides}
use Rattle.hg_obsstore.specs.Digests.{KeepsOtherDigests, scanned, found_places, nodes_bytes, under, AreDigested}
use Rattle.hg_obsstore.specs.Digests.{IsUnderDigest, digest_of}
use Rattle.hg_obsstore.specs.Digests.{is_it, stands_at, stands_among}
use Rattle.hg_node_set.proofs.KeyLemmas.{not_at}
use Rattle.hg_obsstore.proofs.ForgetLemmas.{end_view, cut_at, parts_forget}
use Rattle.hg_obsstore.proofs.IndexLemmas.{take_one_more, among_or_not}
use Rattle.hg_obsstore.proofs.StoreLemmas.{stays, was, last}
use Rattle.hg_obsstore.proofs.PlaceLemmas.{last_is, last_pushed, without_last_pushed}

-- one node more
pub node_fed : (m : List ℕ) (ns : List Node) (k : ℕ) (n : Node) → k < length ns → n ≡ get_or ns k n
    → ((m ++ nodes_bytes (take k ns)) ++ 1 ∷ []) ++ n.0 ≡ m ++ nodes_bytes (take (k + 1) ns)
node_fed m ns k n within read =
    append_assoc (m ++ nodes_bytes (take k ns)) (1 ∷ []) n.0
    ∙ append_assoc m (nodes_bytes (take k ns)) (1 ∷ n.0)
    ∙ ap (λ bytes. m ++ bytes)
    (ap (λ bytes. nodes_bytes (take k ns) ++ bytes) (sym (append-nil (1 ∷ n.0)))
    ∙ sym (flat_map-append (λ (n : Node). 1 ∷ n.0) (take k ns) (n ∷ []))
    ∙ ap nodes_bytes (sym (take_one_more ns k n within read)))

-- one text more
text_fed : (k v rest : List ℕ) → ((k ++ 58 ∷ []) ++ v) ++ rest ≡ (k ++ 58 ∷ v) ++ rest
text_fed [] v rest = refl
text_fed (x ∷ k) v rest = ap (λ (bytes : List ℕ). x ∷ bytes) (text_fed k v rest)

pub entry_fed : (n k v rest : List ℕ)
    → ((((n ++ 0 ∷ []) ++ k) ++ 58 ∷ []) ++ v) ++ rest ≡ n ++ ((0 ∷ (k ++ 58 ∷ v)) ++ rest)
entry_fed [] k v rest = ap (λ (bytes : List ℕ). 0 ∷ bytes) (text_fed k v rest)
entry_fed (x ∷ n) k v rest = ap (λ (bytes : List ℕ). x ∷ bytes) (entry_fed n k v rest)

-- a place more, and one that is taken away
pub with_last_keeps : (xs : List ℕ) (k i : ℕ) → Contains xs i → Contains (with_last xs k) i
unfolding with_last
with_last_keeps xs k i h = elim (stands_last xs k) as (λ b. Contains (cond b xs (xs ++ k ∷ [])) i) [
  | true ↦ h
  | false ↦ Contains-append_left xs (k ∷ []) i h
]

pub with_last_has : (xs : List ℕ) (k : ℕ) → Contains (with_last xs k) k
unfolding with_last
with_last_has xs k = ⊎_elim
    (λ (t : stands_last xs k ≡ true). rw t (last_is xs k _ refl t))
    (λ (f : stands_last xs k ≡ false). rw f (Contains-push xs k)) (cases_Bool (stands_last xs k))

not_last : (xs : List ℕ) (l k : ℕ) → l ≢ k → without_last (xs ++ l ∷ []) k ≡ xs ++ l ∷ []
unfolding without_last
not_last xs l k other =
    let no : (l == k) ≡ false = false_from_ne_true (l == k) (λ h. other ((unsigned_Decides l k).0 h)) in
    rw (last_pushed xs l) (rw no refl)

pub without_last_keeps : (xs : List ℕ) (k i : ℕ) → i ≢ k → Contains xs i → Contains (without_last xs k) i
without_last_keeps xs k i other h = ⊎_elim
    (λ (e : xs ≡ []). let n : Contains [] i = subst (λ ys. Contains ys i) e h in absurd (omega (arith, n.1)))
    (λ (s : (front : List ℕ) × (l : ℕ) × (xs ≡ front ++ l ∷ [])). subst (λ ys. Contains (without_last ys k) i) (sym s.2)
    (let there : Contains (s.0 ++ s.1 ∷ []) i = subst (λ ys. Contains ys i) s.2 h in ⊎_elim
    (λ (same : s.1 ≡ k). subst (λ l. Contains (without_last (s.0 ++ l ∷ []) k) i) (sym same)
    (subst (λ ys. Contains ys i) (sym (without_last_pushed s.0 k))
    (⊎_elim (λ (in_front : Contains s.0 i). in_front) (λ (e : s.1 ≡ i). absurd (other (sym e ∙ same)))
    (Contains-push_cases s.0 s.1 i there))))
    (λ (apart : s.1 ≢ k). subst (λ ys. Contains ys i) (sym (not_last s.0 s.1 k apart)) there) (cases_eq s.1 k)))
    (end_view xs)

-- what stands under each digest after w was put under one
module _ (old new : Digests) (digest : Node) (w : Option Places) (at : get_by (node_cmp digest) new.by_digest ≡ w)
    (off : (q : Node) → is_at (node_cmp digest) q ≡ false
    → get node_cmp new.by_digest q ≡ get node_cmp old.by_digest q) (place : ℕ) where
  pub under_it : (i : ℕ) → Contains (found_places w) i → Contains (under new digest) i
  under_it i h = subst (λ o. Contains (found_places o) i) (sym at) h

  pub keeps : ((i : ℕ) → i ≢ place → Contains (under old digest) i → Contains (found_places w) i)
      → KeepsOtherDigests place old new
  keeps f n i other there = ⊎_elim
      (λ (e : n ≡ digest). subst (λ q. Contains (under new q) i) (sym e)
      (under_it i (f i other (subst (λ q. Contains (under old q) i) e there))))
      (λ (apart : n ≢ digest). subst (λ o. Contains (found_places o) i) (sym (off n (not_at digest n apart))) there)
      (node_cases n digest)

-- what stands beyond the scanned ones, with a place more
pub beyond_more : (xs : List ℕ) (k i : ℕ) → Contains (drop scanned xs) i → Contains (drop scanned (xs ++ k ∷ [])) i
beyond_more xs k i h = ⊎_elim
    (λ (short : length xs < scanned). let long = length-drop scanned xs in absurd (omega (arith, h.1, long, short)))
    (λ (many : scanned ≤ length xs). subst (λ ys. Contains ys i) (sym (drop-append-le scanned xs (k ∷ []) many))
    (Contains-append_left (drop scanned xs) (k ∷ []) i h)) (cases_lt (length xs) scanned)

pub beyond_before : (xs : List ℕ) (k i : ℕ) → i ≢ k → Contains (drop scanned (xs ++ k ∷ [])) i
    → Contains (drop scanned xs) i
beyond_before xs k i other h = ⊎_elim
    (λ (short : length xs < scanned). let long = length-drop scanned (xs ++ k ∷ []) in
    absurd (omega (arith, h.1, long, short, length-append xs (k ∷ []))))
    (λ (many : scanned ≤ length xs).
    ⊎_elim (λ (c : Contains (drop scanned xs) i). c) (λ (e : k ≡ i). absurd (other (sym e)))
    (Contains-push_cases (drop scanned xs) k i
    (subst (λ ys. Contains ys i) (drop-append-le scanned xs (k ∷ []) many) h)))
    (cases_lt (length xs) scanned)

pub beyond_last : (xs : List ℕ) (k : ℕ) → Contains (drop scanned (xs ++ k ∷ [])) k → scanned ≤ length xs
beyond_last xs k h = let long = length-drop scanned (xs ++ k ∷ []) in
    omega (arith, h.1, long, length-append xs (k ∷ []))

-- markers that stand at places
stands_sound : (ms : List Fields) (m : Fields) (p : ℕ) → stands_at ms m p ≡ true → Contains ms m
stands_sound ms m p = by (slice_get ms p) refl
  where
    by : (o : Option Fields) → slice_get ms p ≡ o → is_it m o ≡ true → Contains ms m
    by None at h = absurd (false≢true h)
    by (Some x) at h = (
      p,
      slice_get_within ms p x at,
      get_or_from_slice_get ms p x m at
          ∙ sym ((fields_decides m x).0 h),
    )

pub among_sound : (ms : List Fields) (m : Fields) (ps : List ℕ) → stands_among ms m ps ≡ true → Contains ms m
among_sound ms m [] h = absurd (false≢true h)
among_sound ms m (p ∷ ps) h = ⊎_elim
    (λ (t : stands_at ms m p ≡ true). stands_sound ms m p t)
    (λ (f : stands_at ms m p ≡ false). among_sound ms m ps (rw f at h)) (cases_Bool (stands_at ms m p))

pub among_complete : (ms : List Fields) (m : Fields) (ps : List ℕ) (i : ℕ) → slice_get ms i ≡ Some m → Contains ps i
    → stands_among ms m ps ≡ true
among_complete ms m ps i at h =
    list_any_at (stands_at ms m) ps h.0 i h.1
    (ap (stands_at ms m) h.2 ∙ ap (is_it m) at ∙ (fields_decides m m).1 refl)

pub first_or_beyond : (ps : List ℕ) (i : ℕ) → Contains ps i
    → Contains (take scanned ps) i ⊎ Contains (drop scanned ps) i
first_or_beyond ps i h =
    Contains-append_cases (take scanned ps) (drop scanned ps) i
    (subst (λ qs. Contains qs i) (sym (take-append-drop scanned ps)) h)

-- a store's markers and what stands under their digests after a marker more, a refused one, and one that is forgotten
pub digested_push : (ms : List Fields) (m : Fields) (old new : Index) (before after : Digests)
    → AreDigested ms old before
    → AddsPlace (predecessors m) (length ms) (places_of Predecessor old) (places_of Predecessor new)
    → IsUnderDigest new after m (length ms) → KeepsOtherDigests (length ms) before after
    → AreDigested (ms ++ m ∷ []) new after
digested_push ms m old new before after all adds itself keeps x i at d = ⊎_elim
    (λ (e : i ≡ length ms).
    let same : x ≡ m = same_Some _ _ (sym at ∙ ap (slice_get (ms ++ m ∷ [])) e ∙ last ms m) in
    subst (λ j. Contains (under after (digest_of x)) j) (sym e)
    (subst (λ y. IsUnderDigest new after y (length ms)) (sym same) itself
    (subst (λ j. Contains (drop scanned (places_of Predecessor new x.predecessor)) j) e d)))
    (λ (other : i ≢ length ms).
    let within = slice_get_within (ms ++ m ∷ []) i x at in
    let lt : i < length ms = omega (arith, within, length-append ms (m ∷ []), other) in
    keeps (digest_of x) i other (all x i (was ms m i x at lt) (⊎_elim
    (λ (yes : Contains (predecessors m) x.predecessor). beyond_before _ (length ms) i other
    (subst (λ ps. Contains (drop scanned ps) i) (adds.here x.predecessor yes) d))
    (λ (no : ¬ Contains (predecessors m) x.predecessor). subst (λ ps. Contains (drop scanned ps) i)
    (adds.others x.predecessor no) d)
    (among_or_not (predecessors m) x.predecessor))))
    (cases_eq i (length ms))

pub digested_same : (ms : List Fields) (old new : Index) (before after : Digests) → AreDigested ms old before
    → SamePlaces old new → KeepsOtherDigests (length ms) before after → AreDigested ms new after
digested_same ms old new before after all same keeps x i at d =
    let lt = slice_get_within ms i x at in
    keeps (digest_of x) i (λ (e : i ≡ length ms). omega (arith, lt, e))
    (all x i at
    (subst (λ (places : Node → List ℕ). Contains (drop scanned (places x.predecessor)) i) (same Predecessor) d))

digested_cut : (ms : List Fields) (m : Fields) (old new : Index) (before after : Digests)
    → AreDigested (ms ++ m ∷ []) old before
    → ((n : Node) → (places_of Predecessor old n ≡ places_of Predecessor new n)
    ⊎ (places_of Predecessor old n ≡ places_of Predecessor new n ++ length ms ∷ []))
    → KeepsOtherDigests (length ms) before after → AreDigested ms new after
digested_cut ms m old new before after all parts keeps x i at d =
    let lt = slice_get_within ms i x at in
    keeps (digest_of x) i (λ (e : i ≡ length ms). omega (arith, lt, e)) (all x i (stays ms m i x at) (⊎_elim
    (λ (e : places_of Predecessor old x.predecessor ≡ places_of Predecessor new x.predecessor).
    subst (λ ps. Contains (drop scanned ps) i) (sym e) d)
    (λ (e : places_of Predecessor old x.predecessor ≡ places_of Predecessor new x.predecessor ++ length ms ∷ []).
    subst (λ ps. Contains (drop scanned ps) i) (sym e) (beyond_more _ (length ms) i d)) (parts x.predecessor)))

pub digested_forget : (xs : List Fields) (x : Fields) (place : ℕ) (old new : Index) (before after : Digests)
    → place + 1 ≡ length xs → x ≡ get_or xs place x → AreIndexed xs old → TakeMarker x place old new
    → AreDigested xs old before → KeepsOtherDigests place before after → AreDigested (take place xs) new after
digested_forget xs x place old new before after at read all takes digested keeps =
    let cut = cut_at xs x place at read in
    digested_cut (take place xs) x old new before after (subst (λ ys. AreDigested ys old before) cut.0 digested)
    (parts_forget predecessors (take place xs) x (places_of Predecessor old) (places_of Predecessor new)
    (subst (λ ys. AreIndexed ys old) cut.0 all).predecessor
    (subst (λ n. TakeMarker x n old new) (sym cut.1) takes).predecessor)
    (subst (λ n. KeepsOtherDigests n before after) (sym cut.1) keeps)

-- markers that are apart stay so
all_of_first : (P : Fields → Type 0) (k : ℕ) (xs : List Fields) → AllByRecursion P xs → AllByRecursion P (take k xs)
all_of_first P zero xs h = tt
all_of_first P (suc k) [] h = tt
all_of_first P (suc k) (x ∷ xs) h = (h.0, all_of_first P k xs h.1)

pub apart_none : AllDistinct []
unfolding IsDistinct
apart_none = tt

pub apart_first : (k : ℕ) (xs : List Fields) → AllDistinct xs → AllDistinct (take k xs)
unfolding IsDistinct
apart_first zero xs h = tt
apart_first (suc k) [] h = tt
apart_first (suc k) (x ∷ xs) h = (all_of_first (λ y. same_fields x y ≡ false) k xs h.0, apart_first k xs h.1)

-- Which fault there is, by places in the bytes.
use Rattle.std.proofs.Common.{◌≡◌, ℕ, zero, suc, ◌+◌, ◌*◌, ◌<◌, Bool, true, false, cond, not, ltb, List, [], ◌∷◌}
use Rattle.std.proofs.Common.{length, get_or, take, drop, Result, Ok, Err, refl, sym, ap, subst, ◌∙◌, arith, inl, inr}
use Rattle.std.specs.Prelude.{nat_le}
use Rattle.std.specs.List.{list_any, list_all}
use Rattle.std.specs.Int.{w32, from_be_bytes}
use Rattle.std.specs.Result.{IsErrOf}
use Rattle.std.proofs.lemmas.Bool.{cases_lt, lt-ltb, le-ltb, le-leb, false≢true, or_cases, or_right}
use Rattle.std.proofs.lemmas.List.{drop-drop, length-drop}
use Rattle.hg_changeset.specs.declared.node.Node.{Node}
use Rattle.hg_changeset.specs.Node.{null_node, node_eq}
use Rattle.hg_changeset.proofs.NodeLemmas.{same_node, node_itself}
use Rattle.hg_marker.specs.declared.error.MarkerFault.{MarkerFault}
use Rattle.hg_marker.specs.declared.error.MarkerFault.TheVariants.{Truncated, NullSuccessor, BadMetadata}
use Rattle.hg_marker.specs.Fields.{Fields}
use Rattle.hg_marker.specs.Metadata.{metadata_at, has_colon, pieces, texts}
use Rattle.hg_marker.specs.Limits.{metadata_limit}
use Rattle.hg_marker.specs.Reading.{Reader, Gives, IsRead, and_then, ◌>>=◌, says, wants, yields, field, number, byte}
use Rattle.hg_marker.specs.Reading.{node, nodes, ids_in}
use Rattle.hg_marker.specs.Faults.{marker_at, count_at, len_at, announced, successor_at, metadata_text_at, IsWhole}
use Rattle.hg_marker.specs.Faults.{HasNullSuccessor, HasSuccessors, IsFault, IfFault, with_length, marker_and_length}
use Rattle.hg_marker.specs.declared.error.ReadError.{ReadError}
use Rattle.hg_marker.specs.declared.error.ReadError.TheVariants.{NoMemory, Fault}

-- ---- readers that want a number of bytes

-- the reader wants this many bytes, and with them it goes on so
pub record IsWide {F A : Type 0} (r : Reader F A) (d : F) (width : List ℕ → ℕ)
    (then : List ℕ → Result (A × List ℕ) F) : Type 0 where
  pub is : (bytes : List ℕ) → r bytes ≡ cond (ltb (length bytes) (width bytes)) (Err d) (then bytes)

-- the reader takes a fixed number of bytes, which say this
pub record IsFixed {F A : Type 0} (r : Reader F A) (d : F) (k : ℕ) (value : List ℕ → A) : Type 0 where
  pub is : (bytes : List ℕ) → r bytes ≡ cond (ltb (length bytes) k) (Err d) (Ok (value bytes, drop k bytes))

then_more : {F A B : Type 0} (b : Bool) (d : F) (x : A × List ℕ) (f : A → Reader F B)
    → and_then (cond b (Err d) (Ok x)) f ≡ cond b (Err d) (f x.0 x.1)
then_more true d x f = refl
then_more false d x f = refl

-- a bytes, and then b
both_wanted : {Y F : Type 0} (d : F) (a b : ℕ) (bytes : List ℕ) (x : Result Y F)
    → cond (ltb (length bytes) a) (Err d) (cond (ltb (length (drop a bytes)) b) (Err d) x)
    ≡ cond (ltb (length bytes) (a + b)) (Err d) x
both_wanted d a b bytes x = elim (cases_lt (length bytes) a) [
  | inl lt ↦ rw (lt-ltb (length bytes) a lt, lt-ltb (length bytes) (a + b) (omega (arith, lt))) refl
  | inr le ↦ elim (cases_lt (length bytes) (a + b)) [
    | inl lt ↦ rw (
      le-ltb (length bytes) a le,
      lt-ltb (length bytes) (a + b) lt,
      lt-ltb (length (drop a bytes)) b (omega (arith, lt, le, length-drop a bytes)),
    ) refl
    | inr more ↦ rw (
      le-ltb (length bytes) a le,
      le-ltb (length bytes) (a + b) more,
      le-ltb (length (drop a bytes)) b (omega (arith, more, le, length-drop a bytes)),
    ) refl
  ]
]

fixed_sequence : {F A B : Type 0} {r : Reader F A} {d : F} {k : ℕ} {value : List ℕ → A} {f : A → Reader F B}
    {width : A → List ℕ → ℕ} {then : A → List ℕ → Result (B × List ℕ) F}
    → IsFixed r d k value → ((x : A) → IsWide (f x) d (width x) (then x))
    → IsWide (r >>= f) d (λ bytes. k + width (value bytes) (drop k bytes))
    (λ bytes. then (value bytes) (drop k bytes))
fixed_sequence {d = d} {k = k} {value = value} {f = f} {width = width} {then = then} h more = record {
  is = λ bytes.
      ap (λ r. and_then r f) (h.is bytes)
      ∙ then_more (ltb (length bytes) k) d (value bytes, drop k bytes) f
      ∙ ap (λ r. cond (ltb (length bytes) k) (Err d) r) ((more (value bytes)).is (drop k bytes))
      ∙ both_wanted d k (width (value bytes) (drop k bytes)) bytes (then (value bytes) (drop k bytes));
}

-- what wants no byte
no_width : {F A : Type 0} (r : Reader F A) (d : F) → IsWide r d (λ _. 0) r
no_width r d = record { is = λ bytes. rw (le-ltb (length bytes) 0 (omega arith)) refl }

field_fixed : {F : Type 0} (d : F) (n : ℕ) → IsFixed (field d n) d n (take n)
field_fixed d n = record { is = λ bytes. refl }

number_fixed : {F : Type 0} (d : F) → IsFixed (number d) d 4 (λ bytes. from_be_bytes w32 (take 4 bytes))
number_fixed d = record { is = λ bytes. refl }

node_fixed : {F : Type 0} (d : F) → IsFixed (node d) d 20 (λ bytes. record { 0 = take 20 bytes })
node_fixed d = record { is = λ bytes. refl }

byte_is : {F : Type 0} (d : F) (bytes : List ℕ)
    → byte d bytes ≡ cond (ltb (length bytes) 1) (Err d) (Ok (get_or bytes 0 0, drop 1 bytes))
byte_is d [] = refl
byte_is d (b ∷ bytes) = rw (le-ltb (length (b ∷ bytes)) 1 (omega arith)) refl

byte_fixed : {F : Type 0} (d : F) → IsFixed (byte d) d 1 (λ bytes. get_or bytes 0 0)
byte_fixed d = record { is = byte_is d }

pub nodes_is : {F : Type 0} (d : F) (n : ℕ) (bytes : List ℕ)
    → nodes d n bytes ≡ cond (ltb (length bytes) (20 * n)) (Err d) (Ok (ids_in n bytes, drop (20 * n) bytes))
unfolding nodes
nodes_is d zero bytes = rw (le-ltb (length bytes) 0 (omega arith)) refl
nodes_is {F = F} d (suc n) bytes =
    let more : 20 * suc n ≡ 20 + 20 * n = omega arith in
    let first : Node = record { 0 = take 20 bytes } in
    let others = λ (ns : List Node). says {F = F} (first ∷ ns) in
    let one : and_then (nodes d n (drop 20 bytes)) others ≡ cond (ltb (length (drop 20 bytes)) (20 * n)) (Err d)
    (Ok (first ∷ ids_in n (drop 20 bytes), drop (20 * n) (drop 20 bytes))) =
    ap (λ r. and_then r others) (nodes_is d n (drop 20 bytes))
    ∙ then_more (ltb (length (drop 20 bytes)) (20 * n)) d (ids_in n (drop 20 bytes), drop (20 * n) (drop 20 bytes))
    others in
    then_more (ltb (length bytes) 20) d (first, drop 20 bytes) (λ x. nodes d n >>= λ ns. says (x ∷ ns))
    ∙ ap (λ r. cond (ltb (length bytes) 20) (Err d) r) one
    ∙ both_wanted d 20 (20 * n) bytes (Ok (first ∷ ids_in n (drop 20 bytes), drop (20 * n) (drop 20 bytes)))
    ∙ rw (more, drop-drop (20 * n) 20 bytes) refl

nodes_fixed : {F : Type 0} (d : F) (n : ℕ) → IsFixed (nodes d n) d (20 * n) (ids_in n)
nodes_fixed d n = record { is = nodes_is d n }

-- ---- a marker

-- the tests, once all bytes are there
abbrev tests : ℕ → ℕ → Node → List Node → List ℕ → Reader MarkerFault Fields
tests len flags predecessor successors text =
    wants (not (list_any (node_eq null_node) successors)) NullSuccessor >>= λ _. wants (nat_le len metadata_limit)
    BadMetadata >>= λ _. yields (metadata_at text) >>= λ metadata.
    says (record { predecessor = predecessor; successors = successors; flags = flags; metadata = metadata })

marker_wide : IsWide marker_at Truncated
    (λ bytes. 1 + (4 + (1 + (20 + (20 * count_at bytes + (len_at bytes + 0))))))
    (λ bytes.
    let front = drop 20 (drop 1 (drop 4 (drop 1 bytes))) in
    tests (len_at bytes) (get_or (drop 4 (drop 1 bytes)) 0 0) (record { 0 = take 20 (drop 1 (drop 4 (drop 1 bytes))) })
    (ids_in (count_at bytes) front) (take (len_at bytes) (drop (20 * count_at bytes) front))
    (drop (len_at bytes) (drop (20 * count_at bytes) front)))
unfolding marker_at
marker_wide =
    fixed_sequence (byte_fixed Truncated)
    (λ count. fixed_sequence (number_fixed Truncated)
    (λ len. fixed_sequence (byte_fixed Truncated) (λ flags. fixed_sequence (node_fixed Truncated) (λ predecessor.
    fixed_sequence (nodes_fixed Truncated count)
    (λ successors. fixed_sequence (field_fixed Truncated len)
    (λ text. no_width (tests len flags predecessor successors text) Truncated))))))

-- the successors that are there
abbrev there : List ℕ → List Node
there bytes = ids_in (count_at bytes) (drop 26 bytes)

-- what is read by places
record ByPlace (bytes : List ℕ) : Type 0 where
  pub flags : ℕ
  pub predecessor : Node
  pub rest : List ℕ
  pub is : marker_at bytes ≡ cond (ltb (length bytes) (announced bytes)) (Err Truncated)
      (tests (len_at bytes) flags predecessor (there bytes) (metadata_text_at bytes) rest)

by_place : (bytes : List ℕ) → ByPlace bytes
by_place bytes =
    let front : drop 20 (drop 1 (drop 4 (drop 1 bytes))) ≡ drop 26 bytes =
    ap (λ (b : List ℕ). drop 20 (drop 1 b)) (drop-drop 4 1 bytes) ∙ ap (drop 20) (drop-drop 1 5 bytes)
    ∙ drop-drop 20 6 bytes in
    let text : drop (20 * count_at bytes) (drop 26 bytes) ≡ drop (26 + 20 * count_at bytes) bytes =
    drop-drop (20 * count_at bytes) 26 bytes in
    let width : 1 + (4 + (1 + (20 + (20 * count_at bytes + (len_at bytes + 0))))) ≡ announced bytes = omega arith in
    let flags = get_or (drop 4 (drop 1 bytes)) 0 0 in
    let predecessor : Node = record { 0 = take 20 (drop 1 (drop 4 (drop 1 bytes))) } in
    let rest = drop (len_at bytes) (drop (26 + 20 * count_at bytes) bytes) in
    record {
      flags = flags;
      predecessor = predecessor;
      rest = rest;
      is = marker_wide.is bytes
          ∙ ap (λ (w : ℕ). cond (ltb (length bytes) w) (Err Truncated)
          (tests (len_at bytes) flags predecessor
          (ids_in (count_at bytes) (drop 20 (drop 1 (drop 4 (drop 1 bytes)))))
          (take (len_at bytes) (drop (20 * count_at bytes) (drop 20 (drop 1 (drop 4 (drop 1 bytes))))))
          (drop (len_at bytes) (drop (20 * count_at bytes) (drop 20 (drop 1 (drop 4 (drop 1 bytes)))))))) width
          ∙ ap (λ (b : List ℕ). cond (ltb (length bytes) (announced bytes)) (Err Truncated)
          (tests (len_at bytes) flags predecessor (ids_in (count_at bytes) b)
          (take (len_at bytes) (drop (20 * count_at bytes) b))
          (drop (len_at bytes) (drop (20 * count_at bytes) b)))) front
          ∙ ap (λ (b : List ℕ). cond (ltb (length bytes) (announced bytes)) (Err Truncated)
          (tests (len_at bytes) flags predecessor (there bytes) (take (len_at bytes) b) (drop (len_at bytes) b)))
          text;
    }

-- ---- null ids

-- the id of this number
abbrev id_at : List ℕ → ℕ → Node
id_at bytes k = record { 0 = take 20 (drop (20 * k) bytes) }

next_id : (bytes : List ℕ) (k : ℕ) → id_at (drop 20 bytes) k ≡ id_at bytes (suc k)
next_id bytes k =
    let more : 20 + 20 * k ≡ 20 * suc k = omega arith in
    let at : drop (20 * k) (drop 20 bytes) ≡ drop (20 * suc k) bytes =
    drop-drop (20 * k) 20 bytes ∙ ap (λ (n : ℕ). drop n bytes) more in
    λ i. record { 0 = take 20 (at i) }

null_among : (n : ℕ) (bytes : List ℕ) → list_any (node_eq null_node) (ids_in n bytes) ≡ true
    → (k : ℕ) × (k < n) × (id_at bytes k ≡ null_node)
null_among zero bytes h = absurd cc
null_among (suc n) bytes h =
    elim (or_cases (node_eq null_node (id_at bytes 0)) (list_any (node_eq null_node) (ids_in n (drop 20 bytes))) h) [
      | inl first ↦ (0, omega arith, sym (same_node null_node (id_at bytes 0) first))
      | inr other ↦ let found = null_among n (drop 20 bytes) other in
          (suc found.0, omega (arith, found.1), sym (next_id bytes found.0) ∙ found.2)
    ]

null_found : (n : ℕ) (bytes : List ℕ) (k : ℕ) → k < n → id_at bytes k ≡ null_node
    → list_any (node_eq null_node) (ids_in n bytes) ≡ true
null_found zero bytes k lt e = absurd (omega (arith, lt))
null_found (suc n) bytes zero lt e = rw (node_itself null_node (id_at bytes 0) (sym e)) refl
null_found (suc n) bytes (suc k) lt e =
    or_right (node_eq null_node (id_at bytes 0)) _ (null_found n (drop 20 bytes) k (omega arith) (next_id bytes k ∙ e))

-- the successors are the ids behind the first 26 bytes
successor_is : (bytes : List ℕ) (k : ℕ) → id_at (drop 26 bytes) k ≡ successor_at bytes k
successor_is bytes k = let at = drop-drop (20 * k) 26 bytes in λ i. record { 0 = take 20 (at i) }

null_told : (bytes : List ℕ) → list_any (node_eq null_node) (there bytes) ≡ true → HasNullSuccessor bytes
null_told bytes h = let found = null_among (count_at bytes) (drop 26 bytes) h in
    (found.0, found.1, sym (successor_is bytes found.0) ∙ found.2)

null_is : (bytes : List ℕ) → HasNullSuccessor bytes → list_any (node_eq null_node) (there bytes) ≡ true
null_is bytes h = null_found (count_at bytes) (drop 26 bytes) h.0 h.1 (successor_is bytes h.0 ∙ h.2)

present_told : (bytes : List ℕ) → list_any (node_eq null_node) (there bytes) ≡ false → HasSuccessors bytes
present_told bytes h = λ k lt e. false≢true (sym h ∙ null_is bytes (k, lt, e))

present_is : (bytes : List ℕ) → HasSuccessors bytes → list_any (node_eq null_node) (there bytes) ≡ false
present_is bytes h =
    elim (list_any (node_eq null_node) (there bytes)) as (λ b. list_any (node_eq null_node) (there bytes) ≡ b
    → b ≡ false) [
      | true ↦ λ e. let found = null_told bytes e in absurd (h found.0 found.1 found.2)
      | false ↦ λ e. refl
    ] refl

-- ---- the tests

tests_null : (len flags : ℕ) (p : Node) (ns : List Node) (text rest : List ℕ) → list_any (node_eq null_node) ns ≡ true
    → tests len flags p ns text rest ≡ Err NullSuccessor
tests_null len flags p ns text rest null = rw null refl

tests_long : (len flags : ℕ) (p : Node) (ns : List Node) (text rest : List ℕ) → list_any (node_eq null_node) ns ≡ false
    → nat_le len metadata_limit ≡ false → tests len flags p ns text rest ≡ Err BadMetadata
tests_long len flags p ns text rest present long = rw (present, long) refl

tests_bad : (len flags : ℕ) (p : Node) (ns : List Node) (text rest : List ℕ) → list_any (node_eq null_node) ns ≡ false
    → list_all has_colon (pieces text) ≡ false → tests len flags p ns text rest ≡ Err BadMetadata
unfolding metadata_at
tests_bad len flags p ns text rest present bad =
    elim (nat_le len metadata_limit) as (λ b. nat_le len metadata_limit ≡ b
    → tests len flags p ns text rest ≡ Err BadMetadata) [
      | true ↦ λ short. rw (present, short, bad) refl
      | false ↦ λ long. tests_long len flags p ns text rest present long
    ] refl

tests_ok : (len flags : ℕ) (p : Node) (ns : List Node) (text rest : List ℕ) → list_any (node_eq null_node) ns ≡ false
    → nat_le len metadata_limit ≡ true → list_all has_colon (pieces text) ≡ true
    → tests len flags p ns text rest
    ≡ Ok (record { predecessor = p; successors = ns; flags = flags; metadata = texts (pieces text) }, rest)
unfolding metadata_at
tests_ok len flags p ns text rest present short colons = rw (present, short, colons) refl

-- ---- which fault it is

whole_is : (bytes : List ℕ) → IsWhole bytes
    → marker_at bytes ≡ tests (len_at bytes) (by_place bytes).flags (by_place bytes).predecessor (there bytes)
    (metadata_text_at bytes) (by_place bytes).rest
whole_is bytes whole =
    (by_place bytes).is
    ∙ ap (λ (b : Bool). cond b (Err Truncated)
    (tests (len_at bytes) (by_place bytes).flags (by_place bytes).predecessor (there bytes) (metadata_text_at bytes)
    (by_place bytes).rest)) (le-ltb (length bytes) (announced bytes) whole)

truncated_is : (bytes : List ℕ) → length bytes < announced bytes → marker_at bytes ≡ Err Truncated
truncated_is bytes short =
    (by_place bytes).is
    ∙ ap (λ (b : Bool). cond b (Err Truncated)
    (tests (len_at bytes) (by_place bytes).flags (by_place bytes).predecessor (there bytes) (metadata_text_at bytes)
    (by_place bytes).rest)) (lt-ltb (length bytes) (announced bytes) short)

-- the fault that there is is met
pub is_met : (bytes : List ℕ) (f : MarkerFault) → IsFault bytes f → marker_at bytes ≡ Err f
is_met bytes Truncated h = elim h [
  | inl six ↦ truncated_is bytes (omega (arith, six))
  | inr short ↦ truncated_is bytes short
]
is_met bytes NullSuccessor h = whole_is bytes h.0 ∙ tests_null _ _ _ (there bytes) _ _ (null_is bytes h.1)
is_met bytes BadMetadata h =
    let present = present_is bytes h.1 in
    whole_is bytes h.0 ∙ elim h.2 [
      | inl long ↦ tests_long (len_at bytes) _ _ (there bytes) _ _ present (lt_not_le long)
      | inr bad ↦ tests_bad _ _ _ (there bytes) (metadata_text_at bytes) _ present bad
    ]
  where
    lt_not_le : {a b : ℕ} → b < a → nat_le a b ≡ false
    lt_not_le {a} {b} lt = grind arith

abbrev err : MarkerFault → Result (Fields × List ℕ) MarkerFault
err f = Err f

same_fault : (f g : MarkerFault) → err f ≡ err g → f ≡ g
same_fault f g e = cc

-- the fault that is met is the one that there is
pub is_told : (bytes : List ℕ) (f : MarkerFault) → marker_at bytes ≡ Err f → IsFault bytes f
is_told bytes f e = elim (cases_lt (length bytes) (announced bytes)) [
  | inl short ↦ as_told Truncated (inr short)
  | inr whole ↦
      elim (list_any (node_eq null_node) (there bytes)) as (λ b. list_any (node_eq null_node) (there bytes) ≡ b
      → IsFault bytes f) [
        | true ↦ λ null. as_told NullSuccessor (whole, null_told bytes null)
        | false ↦ λ present. elim (cases_lt metadata_limit (len_at bytes)) [
          | inl long ↦ as_told BadMetadata (whole, present_told bytes present, inl long)
          | inr within ↦ elim (list_all has_colon (pieces (metadata_text_at bytes))) as
              (λ b. list_all has_colon (pieces (metadata_text_at bytes)) ≡ b → IsFault bytes f) [
                | true ↦ λ colons. absurd
                    (not_both (sym e ∙ whole_is bytes whole
                    ∙ tests_ok (len_at bytes) (by_place bytes).flags (by_place bytes).predecessor (there bytes)
                    (metadata_text_at bytes) (by_place bytes).rest present (le-leb _ _ within) colons))
                | false ↦ λ bad. as_told BadMetadata (whole, present_told bytes present, inr bad)
              ] refl
        ]
      ] refl
]
  where
    as_told : (g : MarkerFault) → IsFault bytes g → IsFault bytes f
    as_told g h = subst (IsFault bytes) (same_fault g f (sym (is_met bytes g h) ∙ e)) h

    not_both : {x : Fields × List ℕ} → err f ≡ Ok x → ⊥
    not_both h = cc

-- ---- what is answered

with_length_err : (bytes : List ℕ) (r : Result (Fields × List ℕ) MarkerFault) (f : MarkerFault)
    → with_length bytes r ≡ Err f → r ≡ Err f
with_length_err bytes (Ok x) f e = absurd cc
with_length_err bytes (Err g) f e = cc

pub fault_told : (bytes : List ℕ) (r : Result (Fields × ℕ) (ReadError MarkerFault))
    → Gives (λ x. x) r (marker_and_length bytes) → IfFault r (IsFault bytes)
fault_told bytes (Ok x) given = tt
fault_told bytes (Err NoMemory) given = tt
fault_told bytes (Err (Fault f)) given = is_told bytes f (with_length_err bytes (marker_at bytes) f given)

pub fault_given : (bytes : List ℕ) (f : MarkerFault) → IsFault bytes f → marker_and_length bytes ≡ Err f
fault_given bytes f h = ap (with_length bytes) (is_met bytes f h)

-- where there is a fault it is told, since memory can be wanting only for what is read
pub told_first : {X Y F : Type 0} (view : X → Y) (r : Result X (ReadError F)) (read : Result Y F) (f : F)
    → Gives view r read → read ≡ Err f → IsErrOf r (Fault f)
told_first {Y = Y} {F = F} view (Ok x) read f given h = absurd (no_ok (sym given ∙ h))
  where
    no_ok : ◌≡◌ {A = Result Y F} (Ok (view x)) (Err f) → ⊥
    no_ok e = cc
told_first {Y = Y} {F = F} view (Err NoMemory) read f given h = absurd (subst (λ (r : Result Y F). IsRead r) h given)
told_first {Y = Y} {F = F} view (Err (Fault g)) read f given h =
    ap (λ (k : F). Err (Fault k)) (same_one (sym given ∙ h))
  where
    same_one : ◌≡◌ {A = Result Y F} (Err g) (Err f) → g ≡ f
    same_one e = cc

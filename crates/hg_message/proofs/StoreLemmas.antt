-- The store of a message, which is read as a store is, with its places counted in the message.
use Rattle.std.proofs.Common.{◌≡◌, ℕ, ◌+◌, ◌<◌, ◌≤◌, List, [], ◌∷◌, ◌++◌, length, Result, Ok, Err, refl, sym, ap, subst}
use Rattle.std.proofs.Common.{◌∙◌, arith, length-append}
use Rattle.std.specs.Result.{MatchResult}
use Rattle.std.specs.List.{flat_map}
use Rattle.std.proofs.lemmas.List.{append-nil, take_at}
use Rattle.hex.specs.Hex.{IsBytes}
use Rattle.hg_marker.specs.Fields.{Fields}
use Rattle.hg_marker.specs.Metadata.{written}
use Rattle.hg_marker.specs.Reading.{IsRead}
use Rattle.hg_marker.specs.Grammar.{IsSpelling, spelling, layout, ids}
use Rattle.hg_marker.proofs.Formats.{IsBytes-take, Takes, IsFormat, Sequence, sequence, field_format, IsField}
use Rattle.hg_marker.proofs.Formats.{yields_format, Found, says_format, SaysOnly}
use Rattle.hg_marker.proofs.ReadLemmas.{written_no_longer}
use Rattle.hg_obsstore.specs.declared.fault.StoreFault.{StoreFault}
use Rattle.hg_obsstore.specs.declared.fault.StoreFault.TheVariants as faults
use Rattle.hg_obsstore.specs.Faults.{store_at, IsStoreFault}
use Rattle.hg_obsstore.specs.Spelling.{AreSpelled, IsStoreSpelling, store_spelling}
use Rattle.hg_obsstore.proofs.FormatLemmas.{store_read, store_told}
use Rattle.hg_message.specs.declared.error.MessageFault.TheVariants.{Truncated}
use Rattle.hg_message.specs.Limits.{count_limit}
use Rattle.hg_message.specs.Message.{told_in, store_in}
use Rattle.hg_message.proofs.FormatLemmas.{eq_then}

-- where a store lies changes nothing but its fault
same_found : {A : Type 0} (start : ℕ) (r : Result A StoreFault) (x : A) → told_in start r ≡ Ok x → r ≡ Ok x
same_found start (Ok y) x e = same y x e
  where
    same : {A : Type 0} (y x : A) → told_in start (Ok y) ≡ Ok x → ◌≡◌ {A = Result A StoreFault} (Ok y) (Ok x)
    same y x e = cc
same_found start (Err (faults.BadVersion v)) x e = absurd cc
same_found start (Err (faults.Bad p c)) x e = absurd cc

-- a store of so many bytes
pub record IsStoreField (n : ℕ) (markers : List Fields) (bytes : List ℕ) : Type 0 where
  pub len : length bytes ≡ n
  pub spells : IsStoreSpelling markers bytes

abbrev Parts : ℕ → ℕ → List Fields → List ℕ → Type 0
Parts len start = Sequence (IsField len) (λ bytes. Sequence (Found (told_in start (store_at bytes)))
    (λ markers. SaysOnly markers))

parts_format : (len start : ℕ) → IsFormat (store_in len start) (Parts len start)
parts_format len start = sequence (field_format (Truncated start) len)
    (λ bytes. sequence (yields_format (told_in start (store_at bytes))) (λ markers. says_format markers))

-- what is read as a store is spelled so
store_found : (bytes : List ℕ) (markers : List Fields) → IsBytes bytes → store_at bytes ≡ Ok markers
    → IsStoreSpelling markers bytes
store_found bytes markers fits e =
    subst (λ (r : Result (List Fields) StoreFault). MatchResult r (λ ms. IsStoreSpelling ms bytes)
    (IsStoreFault bytes)) e (store_told bytes fits)

IsBytes-front : (front rest : List ℕ) → IsBytes (front ++ rest) → IsBytes front
IsBytes-front front rest fits = subst IsBytes (take_at front rest (length front) refl)
    (IsBytes-take (length front) (front ++ rest) fits)

store_takes : (len start : ℕ) (bytes : List ℕ) (markers : List Fields) (rest : List ℕ) → IsBytes bytes
    → store_in len start bytes ≡ Ok (markers, rest) → Takes (IsStoreField len) bytes markers rest
store_takes len start bytes markers rest fits e =
    let t = (parts_format len start).takes bytes markers rest fits e in
    let s = t.spells in
    let u = s.rest_spells in
    let held : t.front ≡ s.first = eq_then s.parts s.first_spells.same
    (eq_then u.parts u.first_spells.1 u.rest_spells.1) ∙ append-nil s.first in
    let read : store_at t.front ≡ Ok markers = ap store_at held
    ∙ same_found start (store_at s.first) u.first u.first_spells.0
    ∙ ap (λ (ms : List Fields). Ok ms) (sym u.rest_spells.0) in
    record {
      front = t.front;
      spells = record {
        len = ap length held ∙ s.first_spells.len;
        spells = store_found t.front markers (IsBytes-front t.front rest (subst IsBytes t.parts fits)) read;
      };
      parts = t.parts;
    }

store_parts : (len start : ℕ) (markers : List Fields) (bytes : List ℕ) → IsStoreField len markers bytes
    → Parts len start markers bytes
store_parts len start markers bytes s = record {
  first = bytes;
  front = bytes;
  back = [];
  first_spells = record { len = s.len; same = refl };
  parts = sym (append-nil bytes);
  rest_spells = record {
    first = markers;
    front = [];
    back = [];
    first_spells = (ap (told_in start) (store_read markers bytes s.spells), refl);
    parts = refl;
    rest_spells =
        (refl, refl);
  };
}

pub store_format : (len start : ℕ) → IsFormat (store_in len start) (IsStoreField len)
store_format len start = record {
  takes = store_takes len start;
  again = λ markers front rest s. (parts_format len start).again markers front rest
      (store_parts len start markers front s);
}

-- ---- what is written is no longer than what was read

layout_long : (m : Fields) (text : List ℕ) → length (layout m text) ≡ 6 + length m.predecessor.0 + length
    (ids m.successors) + length text
layout_long m text = omega (
  arith,
  length-append (m.predecessor.0 ++ ids m.successors) text,
  length-append m.predecessor.0 (ids m.successors),
)

marker_no_longer : (m : Fields) (bytes : List ℕ) → IsSpelling m bytes → length (spelling m) ≤ length bytes
marker_no_longer m bytes s = omega (
  arith,
  written_no_longer m.metadata s.text s.metadata,
  ap length s.layout,
  layout_long m s.text,
  layout_long m (written m.metadata),
)

each_no_longer : (ms : List Fields) (bytes : List ℕ) → AreSpelled ms bytes
    → length (flat_map spelling ms) ≤ length bytes
each_no_longer [] bytes h = omega arith
each_no_longer (m ∷ ms) bytes h =
    omega (
      arith,
      ap length h.3,
      length-append h.0 h.1,
      marker_no_longer m h.0 h.2,
      each_no_longer ms h.1 h.4,
      length-append (spelling m) (flat_map spelling ms),
    )

pub store_no_longer : (ms : List Fields) (bytes : List ℕ) → IsStoreSpelling ms bytes → length bytes ≤ count_limit
    → length (store_spelling ms) ≤ count_limit
store_no_longer ms [] h fits = rw h (omega arith)
store_no_longer ms (version ∷ bytes) h fits = omega (arith, each_no_longer ms bytes h.1, fits)

-- ---- a store with a marker

-- which takes 26 bytes at least
spelled_long : (ms : List Fields) (bytes : List ℕ) → IsStoreSpelling ms bytes → 1 < length bytes → 26 < length bytes
spelled_long ms [] h lt = absurd (omega (arith, lt))
spelled_long [] (version ∷ bytes) h lt = absurd (omega (arith, lt, ap length h.1))
spelled_long (m ∷ ms) (version ∷ bytes) h lt = omega (
  arith,
  ap length h.1.3,
  length-append h.1.0 h.1.1,
  ap length h.1.2.layout,
  layout_long m h.1.2.text,
  h.1.2.fits.predecessor.0,
)

pub read_long : (bytes : List ℕ) → IsBytes bytes → IsRead (store_at bytes) → 1 < length bytes → 26 < length bytes
read_long bytes fits read lt = by (store_at bytes) (store_told bytes fits) read
  where
    by : (r : Result (List Fields) StoreFault) → MatchResult r (λ ms. IsStoreSpelling ms bytes) (IsStoreFault bytes)
        → IsRead r → 26 < length bytes
    by (Ok ms) h read = spelled_long ms bytes h lt
    by (Err fault) h read = absurd read

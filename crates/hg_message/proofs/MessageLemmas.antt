-- A message is read from its spellings and from nothing else.
use Rattle.std.proofs.Common.{◌≡◌, ℕ, Bool, true, false, eqb, cond, List, [], ◌∷◌, ◌++◌, length, Result, Ok, Err, refl}
use Rattle.std.proofs.Common.{sym, ap, subst, ◌∙◌, append_assoc, inl, inr, arith}
use Rattle.std.specs.Result.{IfOk}
use Rattle.std.proofs.lemmas.Bool.{eqb-true}
use Rattle.std.proofs.lemmas.List.{append-nil, append_cancel_right, nil_from_length}
use Rattle.hex.specs.Hex.{IsBytes}
use Rattle.hg_marker.specs.declared.error.ReadError.{ReadError}
use Rattle.hg_marker.specs.Reading.{number, byte, Gives}
use Rattle.hg_marker.proofs.Formats.{IsFormat, Sequence, sequence, byte_format, IsByte, number_format, IsNumber, ok_is}
use Rattle.hg_marker.proofs.Formats.{wants_format, Wanted, says_format, SaysOnly}
use Rattle.hg_message.specs.declared.error.MessageFault.{MessageFault}
use Rattle.hg_message.specs.declared.error.MessageFault.TheVariants.{BadMagic, BadVersion, Trailing}
use Rattle.hg_message.specs.declared.scope.Scope.{Scope}
use Rattle.hg_message.specs.Scope.{scope_number, is_version}
use Rattle.hg_message.specs.Value.{MessageValue}
use Rattle.hg_message.specs.Record.{record_at}
use Rattle.hg_message.specs.Bound.{bound_at}
use Rattle.hg_message.specs.Message.{magic_number, store_in, parts_at, ended, message_at}
use Rattle.hg_message.specs.Spelling.{IsHead, IsRecord, IsBound, IsMessageSpelling, number as spelled}
use Rattle.hg_message.proofs.FormatLemmas.{eq_then, retold, whole_format, here_format, AreCounted, counted_format}
use Rattle.hg_message.proofs.RecordLemmas.{record_format}
use Rattle.hg_message.proofs.BoundLemmas.{bound_format}
use Rattle.hg_message.proofs.ScopeLemmas.{IsScopeBy, scope_of_format, is_head}
use Rattle.hg_message.proofs.StoreLemmas.{IsStoreField, store_format}

-- what stands behind the scope
abbrev Body : Scope → MessageValue → List ℕ → Type 0
Body scope = Sequence IsNumber (λ count. Sequence (AreCounted IsRecord count)
    (λ changesets. Sequence IsNumber (λ entries. Sequence (AreCounted IsBound entries) (λ bounds.
    Sequence IsNumber (λ len. Sequence (IsStoreField len) (λ markers. SaysOnly
    (record { scope = scope; changesets = changesets; bounds = bounds; markers = markers })))))))

-- what stands behind the magic
abbrev Headed : MessageValue → List ℕ → Type 0
Headed = Sequence IsByte (λ version. Sequence (Wanted (is_version version))
    (λ _. Sequence (IsScopeBy (eqb version 1)) (λ scope. Body scope)))

abbrev Parts : MessageValue → List ℕ → Type 0
Parts = Sequence IsNumber (λ magic. Sequence (Wanted (eqb magic magic_number)) (λ _. Headed))

to_spelling : (m : MessageValue) (bytes : List ℕ) → Parts m bytes → IsMessageSpelling m bytes
to_spelling m bytes a =
    let b = a.rest_spells in
    let c = b.rest_spells in
    let d = c.rest_spells in
    let s = d.rest_spells in
    let e = s.rest_spells in
    let f = e.rest_spells in
    let g = f.rest_spells in
    let h = g.rest_spells in
    let k = h.rest_spells in
    let l = k.rest_spells in
    let made : MessageValue = record {
      scope = s.first;
      changesets = f.first;
      bounds = h.first;
      markers = l.first;
    } in
    let magic_is : spelled a.first ≡ spelled magic_number = ap spelled (eqb-true _ _ b.first_spells.0) in
    let head_is : IsHead s.first (c.front ++ s.front) =
    is_head c.first s.first c.front s.front c.first_spells.same d.first_spells.0 s.first_spells in
    let tail : k.back ≡ l.front = eq_then l.parts refl l.rest_spells.1 ∙ append-nil l.front in
    let whole = eq_then a.parts (a.first_spells.same ∙ magic_is)
    (eq_then b.parts b.first_spells.1 (eq_then c.parts refl (eq_then d.parts d.first_spells.1 (eq_then s.parts refl
    (eq_then e.parts (e.first_spells.same ∙ ap spelled (sym f.first_spells.len))
    (eq_then f.parts refl (eq_then g.parts (g.first_spells.same ∙ ap spelled (sym h.first_spells.len))
    (eq_then h.parts refl
    (eq_then k.parts (k.first_spells.same ∙ ap spelled (sym l.first_spells.len)) tail))))))))
    ∙ sym (append_assoc c.front s.front _)) in
    let spells : IsMessageSpelling made bytes = record {
      head = c.front ++ s.front;
      records = f.front;
      entries = h.front;
      store = l.front;
      counts = (
        omega (arith, f.first_spells.len, e.first_spells.below),
        omega (arith, h.first_spells.len, g.first_spells.below),
        omega (arith, l.first_spells.len, k.first_spells.below),
      );
      scope = head_is;
      changesets = f.first_spells.each;
      bounds = h.first_spells.each;
      markers = l.first_spells.spells;
      layout = whole;
    } in
    subst (λ (n : MessageValue). IsMessageSpelling n bytes) (sym l.rest_spells.0) spells

abbrev body : ℕ → List ℕ → ℕ → List ℕ → List ℕ → List ℕ
body count records entries bounds store =
    spelled count ++ (records ++ (spelled entries ++ (bounds ++ (spelled (length store) ++ store))))

body_from : (m : MessageValue) (bytes : List ℕ) (s : IsMessageSpelling m bytes)
    → Body m.scope m (body (length m.changesets) s.records (length m.bounds) s.entries s.store)
body_from m bytes s =
    let k = spelled (length s.store) ++ s.store in
    let h = s.entries ++ k in
    let g = spelled (length m.bounds) ++ h in
    record {
      first = length m.changesets;
      front = spelled (length m.changesets);
      back = s.records ++ g;
      first_spells = record { below = omega (arith, s.counts.0); same = refl };
      parts = refl;
      rest_spells = record {
        first = m.changesets;
        front = s.records;
        back = g;
        first_spells = record { len = refl; each = s.changesets };
        parts = refl;
        rest_spells = record {
          first = length m.bounds;
          front = spelled (length m.bounds);
          back = h;
          first_spells = record { below = omega (arith, s.counts.1); same = refl };
          parts = refl;
          rest_spells = record {
            first = m.bounds;
            front = s.entries;
            back = k;
            first_spells = record { len = refl; each = s.bounds };
            parts = refl;
            rest_spells = record {
              first = length s.store;
              front = spelled (length s.store);
              back = s.store;
              first_spells = record { below = omega (arith, s.counts.2); same = refl };
              parts = refl;
              rest_spells = record {
                first = m.markers;
                front = s.store;
                back = [];
                first_spells = record { len = refl; spells = s.markers };
                parts = sym (append-nil s.store);
                rest_spells = (refl, refl);
              };
            };
          };
        };
      };
    }

headed_from : (m : MessageValue) (head rest : List ℕ) → IsHead m.scope head → Body m.scope m rest
    → Headed m (head ++ rest)
headed_from m head rest (inl h) spells = record {
  first = 1;
  front = 1 ∷ [];
  back = rest;
  first_spells = record { below = omega arith; same = refl };
  parts = ap (λ (t : List ℕ). t ++ rest) h.1;
  rest_spells = record {
    first = tt;
    front = [];
    back = rest;
    first_spells = (refl, refl);
    parts = refl;
    rest_spells = record {
      first = m.scope;
      front = [];
      back = rest;
      first_spells = (h.0, refl);
      parts = refl;
      rest_spells = spells;
    };
  };
}
headed_from m head rest (inr h) spells = record {
  first = 2;
  front = 2 ∷ [];
  back = scope_number m.scope ∷ rest;
  first_spells = record { below = omega arith; same = refl };
  parts = ap (λ (t : List ℕ). t ++ rest) h;
  rest_spells = record {
    first = tt;
    front = [];
    back = scope_number m.scope ∷ rest;
    first_spells = (refl, refl);
    parts = refl;
    rest_spells = record {
      first = m.scope;
      front = scope_number m.scope ∷ [];
      back = rest;
      first_spells = refl;
      parts = refl;
      rest_spells = spells;
    };
  };
}

from_spelling : (m : MessageValue) (bytes : List ℕ) → IsMessageSpelling m bytes → Parts m bytes
from_spelling m bytes s =
    let rest = body (length m.changesets) s.records (length m.bounds) s.entries s.store in
    record {
      first = magic_number;
      front = spelled magic_number;
      back = s.head ++ rest;
      first_spells = record { below = omega arith; same = refl };
      parts = s.layout;
      rest_spells = record {
        first = tt;
        front = [];
        back = s.head ++ rest;
        first_spells = (refl, refl);
        parts = refl;
        rest_spells = headed_from m s.head rest s.scope (body_from m bytes s);
      };
    }

message_format : (total : ℕ) → IsFormat (parts_at total) IsMessageSpelling
unfolding parts_at
message_format total =
    retold (sequence (whole_format total number number_format)
    (λ magic. sequence (wants_format (eqb magic magic_number) BadMagic)
    (λ _. sequence (whole_format total byte byte_format)
    (λ version. sequence (wants_format (is_version version) BadVersion) (λ _.
    sequence (scope_of_format total version) (λ scope.
    sequence (whole_format total number number_format) (λ count. sequence
    (counted_format (record_at total) (record_format total) 0 count)
    (λ changesets. sequence (whole_format total number number_format)
    (λ entries. sequence (counted_format (λ _. bound_at total) (λ _. bound_format total) 0 entries)
    (λ bounds.
    sequence (whole_format total number number_format) (λ len. sequence
    (here_format total (store_in len) (store_format len))
    (λ markers. says_format
    (record { scope = scope; changesets = changesets; bounds = bounds; markers = markers })))))))))))))
    to_spelling from_spelling

abbrev read_as : MessageValue → Result MessageValue MessageFault
read_as m = Ok m

ended_ok : (b : Bool) (x y : MessageValue) → cond b (read_as x) (Err Trailing) ≡ read_as y → (b ≡ true) × (x ≡ y)
ended_ok true x y e = (refl, cc)
ended_ok false x y e = absurd cc

all_read : (bytes : List ℕ) (m : MessageValue) → IsBytes bytes → (read : Result (MessageValue × List ℕ) MessageFault)
    → parts_at (length bytes) bytes ≡ read → ended read ≡ Ok m → IsMessageSpelling m bytes
all_read bytes m fits (Err d) e h = absurd cc
all_read bytes m fits (Ok x) e h =
    let g = ended_ok (eqb (length x.1) 0) x.0 m h in
    let t = (message_format (length bytes)).takes bytes x.0 x.1 fits e in
    let nothing : x.1 ≡ [] = nil_from_length x.1 (eqb-true _ _ g.0) in
    let same : t.front ≡ bytes = sym (t.parts ∙ ap (λ (r : List ℕ). t.front ++ r) nothing ∙ append-nil t.front) in
    subst (λ (n : MessageValue). IsMessageSpelling n bytes) g.1 (subst (IsMessageSpelling x.0) same t.spells)

-- what is read as a message is spelled so
pub read_is_spelled : (bytes : List ℕ) (m : MessageValue) → IsBytes bytes → message_at bytes ≡ Ok m
    → IsMessageSpelling m bytes
read_is_spelled bytes m fits h = all_read bytes m fits (parts_at (length bytes) bytes) refl h

-- what is spelled so is read as the message
pub spelled_is_read : (bytes : List ℕ) (m : MessageValue) → IsMessageSpelling m bytes → message_at bytes ≡ Ok m
spelled_is_read bytes m s = ap ended (ap (parts_at (length bytes)) (sym (append-nil bytes))
    ∙ (message_format (length bytes)).again m bytes [] s)

pub is_found : (bytes : List ℕ) (r : Result MessageValue (ReadError MessageFault)) → IsBytes bytes
    → Gives (λ m. m) r (message_at bytes) → IfOk r (λ m. IsMessageSpelling m bytes)
is_found bytes (Err e) fits given = tt
is_found bytes (Ok m) fits given = read_is_spelled bytes m fits given

-- no spelling begins another, and none has two meanings
pub one_spelling : (m n : MessageValue) (a b x y : List ℕ) → IsMessageSpelling m a → IsMessageSpelling n b
    → a ++ x ≡ b ++ y → (a ≡ b) × (m ≡ n)
one_spelling m n a b x y s t e =
    let same = ok_is MessageFault (m, x) (n, y) (sym ((message_format 0).again m a x s) ∙ ap (parts_at 0) e
    ∙ (message_format 0).again n b y t) in
    let rest : x ≡ y = ap (λ (q : MessageValue × List ℕ). q.1) same in (
      append_cancel_right a b x (e ∙ ap (λ (z : List ℕ). b ++ z) (sym rest)),
      ap (λ (q : MessageValue × List ℕ). q.0) same,
    )

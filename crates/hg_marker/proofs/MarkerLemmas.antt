-- What is read as a marker is spelled so, and each spelling is read.
use Rattle.std.proofs.Common.{◌≡◌, ℕ, ◌+◌, ◌^◌, ◌<◌, ◌≤◌, Bool, true, false, not, List, [], ◌∷◌, ◌++◌, length, Result}
use Rattle.std.proofs.Common.{Ok, Err, refl, sym, ap, subst, ◌∙◌, append_assoc, arith}
use Rattle.std.specs.Prelude.{nat_le, cond}
use Rattle.std.specs.Int.{w32, to_be_bytes}
use Rattle.std.proofs.lemmas.Bool.{leb-true, le-leb, not-true}
use Rattle.std.proofs.lemmas.List.{append-nil, append_cancel_right, length-append, take_at}
use Rattle.std.specs.List.{list_any, list_all}
use Rattle.hg_changeset.specs.Node.{null_node, node_eq}
use Rattle.hg_marker.specs.declared.error.MarkerFault.{MarkerFault}
use Rattle.hg_marker.specs.declared.error.MarkerFault.TheVariants.{Truncated, NullSuccessor, BadMetadata}
use Rattle.hg_marker.specs.Fields.{Fields}
use Rattle.hg_marker.specs.Metadata.{IsMetadata, metadata_at, has_colon, pieces, texts, written}
use Rattle.hg_marker.specs.Texts.{Texts}
use Rattle.hg_marker.specs.Grammar.{IsSpelling, IsMarker, layout, spelling, ids}
use Rattle.hg_marker.specs.Limits.{metadata_limit}
use Rattle.hg_marker.specs.Faults.{marker_at, with_length, marker_and_length}
use Rattle.hg_marker.specs.Reading.{byte, number, node, nodes, field}
use Rattle.hg_marker.proofs.ReadLemmas.{read_is_clean, written_no_longer}
use Rattle.hg_marker.proofs.WrittenLemmas.{is_written}
use Rattle.hg_marker.specs.Reading.{Gives}
use Rattle.hg_marker.specs.declared.error.ReadError.{ReadError}
use Rattle.std.specs.Prelude.{IfOk, take, ◌-◌}
use Rattle.hex.specs.Hex.{IsBytes}
use Rattle.hg_marker.proofs.Formats.{Takes, ok_is, IsFormat, Sequence, sequence, byte_format, IsByte, number_format}
use Rattle.hg_marker.proofs.Formats.{IsNumber, node_format, IsIdOf, nodes_format, AreIds, field_format, IsField}
use Rattle.hg_marker.proofs.Formats.{wants_format, Wanted, yields_format, Found, says_format, SaysOnly}

-- the parts of a marker in their order
abbrev pub Parts : Fields → List ℕ → Type 0
Parts = Sequence IsByte
    (λ count. Sequence IsNumber
    (λ len. Sequence IsByte
    (λ flags. Sequence IsIdOf (λ predecessor. Sequence (AreIds count) (λ successors. Sequence (IsField len) (λ text.
    Sequence (Wanted (not (list_any (node_eq null_node) successors)))
    (λ _. Sequence (Wanted (nat_le len metadata_limit)) (λ _. Sequence (Found (metadata_at text)) (λ metadata.
    SaysOnly (record {
      predecessor = predecessor;
      successors = successors;
      flags = flags;
      metadata =
          metadata;
    }))))))))))

pub marker_format : IsFormat marker_at Parts
unfolding marker_at
marker_format =
    sequence (byte_format Truncated)
    (λ count. sequence (number_format Truncated)
    (λ len. sequence (byte_format Truncated) (λ flags. sequence (node_format Truncated) (λ predecessor.
    sequence (nodes_format Truncated count) (λ successors. sequence (field_format Truncated len) (λ text.
    sequence (wants_format (not (list_any (node_eq null_node) successors)) NullSuccessor)
    (λ _. sequence (wants_format (nat_le len metadata_limit) BadMetadata)
    (λ _. sequence (yields_format (metadata_at text)) (λ metadata.
    says_format (record {
      predecessor = predecessor;
      successors = successors;
      flags = flags;
      metadata =
          metadata;
    }))))))))))

eq_then : {bytes a a' b b' : List ℕ} → bytes ≡ a ++ b → a ≡ a' → b ≡ b' → bytes ≡ a' ++ b'
eq_then {a' = a'} {b = b} e f g = e ∙ ap (λ (t : List ℕ). t ++ b) f ∙ ap (λ (t : List ℕ). a' ++ t) g

in_order : (count len flags : ℕ) (predecessor ids text : List ℕ)
    → (count ∷ []) ++ (to_be_bytes w32 len ++ ((flags ∷ []) ++ (predecessor ++ (ids ++ text))))
    ≡ (count ∷ to_be_bytes w32 len) ++ (flags ∷ predecessor) ++ ids ++ text
in_order count len flags predecessor ids text = simp append_assoc

metadata_takes : (text : List ℕ) (m : Texts) → metadata_at text ≡ Ok m → IsMetadata m text
unfolding metadata_at
metadata_takes text m e = let g = found (list_all has_colon (pieces text)) BadMetadata (texts (pieces text)) m e in
    record { colons = g.0; texts = sym g.1 }
  where
    found : {A : Type 0} (b : Bool) (d : MarkerFault) (x y : A) → cond b (Ok x) (Err d) ≡ Ok y → (b ≡ true) × (x ≡ y)
    found true d x y e = (refl, cc)
    found false d x y e = absurd cc

pub metadata_again : (text : List ℕ) (m : Texts) → IsMetadata m text → metadata_at text ≡ Ok m
unfolding metadata_at
metadata_again text m s = rw (s.colons, ← s.texts) refl

pub to_spelling : (m : Fields) (bytes : List ℕ) → Parts m bytes → IsSpelling m bytes
to_spelling m bytes p =
    let q = p.rest_spells in
    let r = q.rest_spells in
    let s = r.rest_spells in
    let t = s.rest_spells in
    let u = t.rest_spells in
    let v = u.rest_spells in
    let w = v.rest_spells in
    let x = w.rest_spells in
    let made : Fields = record { predecessor = s.first; successors = t.first; flags = r.first; metadata = x.first } in
    let nothing : u.back ≡ [] =
    eq_then v.parts v.first_spells.1
    (eq_then w.parts w.first_spells.1 (eq_then x.parts x.first_spells.1 x.rest_spells.1)) in
    let text_is : t.back ≡ u.first = eq_then u.parts u.first_spells.same nothing ∙ append-nil u.first in
    let whole = eq_then p.parts p.first_spells.same
    (eq_then q.parts q.first_spells.same
    (eq_then r.parts r.first_spells.same
    (eq_then s.parts s.first_spells.same (eq_then t.parts t.first_spells.same text_is)))) in
    let count_is : p.first ≡ length t.first = sym t.first_spells.len in
    let len_is : q.first ≡ length u.first = sym u.first_spells.len in
    let laid : bytes ≡ layout made u.first = whole ∙ in_order p.first q.first r.first s.first.0 (ids t.first) u.first
    ∙ ap (λ (n : ℕ). (n ∷ to_be_bytes w32 q.first) ++ (r.first ∷ s.first.0) ++ ids t.first ++ u.first) count_is
    ∙ ap (λ (n : ℕ). (length t.first ∷ to_be_bytes w32 n) ++ (r.first ∷ s.first.0) ++ ids t.first ++ u.first)
    len_is in
    let few : length t.first < 256 = rw (← count_is) p.first_spells.below in
    let short : length u.first ≤ metadata_limit = rw (← len_is) (leb-true _ _ w.first_spells.0) in
    let spelled : IsSpelling made bytes = record {
      text = u.first;
      fits = record {
        predecessor = s.first_spells.is_node;
        successors = t.first_spells.each;
        present =
            not-true _ v.first_spells.0;
        few = few;
        flags = r.first_spells.below;
      };
      short = short;
      metadata = metadata_takes u.first x.first x.first_spells.0;
      layout = laid;
    } in
    subst (λ (n : Fields). IsSpelling n bytes) (sym x.rest_spells.0) spelled

pub from_spelling : (m : Fields) (bytes : List ℕ) → IsSpelling m bytes → Parts m bytes
from_spelling m bytes s =
    let count = length m.successors in
    let len = length s.text in
    let laid : bytes ≡ (count ∷ [])
    ++ (to_be_bytes w32 len ++ ((m.flags ∷ []) ++ (m.predecessor.0 ++ (ids m.successors ++ s.text)))) =
    s.layout ∙ sym (in_order count len m.flags m.predecessor.0 (ids m.successors) s.text) in
    let below : len < 2 ^ 32 = omega (arith, s.short) in
    record {
      first = count;
      front = count ∷ [];
      back = to_be_bytes w32 len ++ ((m.flags ∷ []) ++ (m.predecessor.0 ++ (ids m.successors ++ s.text)));
      first_spells = record { below = s.fits.few; same = refl };
      parts = laid;
      rest_spells = record {
        first = len;
        front = to_be_bytes w32 len;
        back = (m.flags ∷ []) ++ (m.predecessor.0 ++ (ids m.successors ++ s.text));
        first_spells = record { below = below; same = refl };
        parts = refl;
        rest_spells = record {
          first = m.flags;
          front = m.flags ∷ [];
          back = m.predecessor.0 ++ (ids m.successors ++ s.text);
          first_spells = record { below = s.fits.flags; same = refl };
          parts = refl;
          rest_spells = record {
            first = m.predecessor;
            front = m.predecessor.0;
            back = ids m.successors ++ s.text;
            first_spells = record { is_node = s.fits.predecessor; same = refl };
            parts = refl;
            rest_spells = record {
              first = m.successors;
              front = ids m.successors;
              back = s.text;
              first_spells = record { len = refl; each = s.fits.successors; same = refl };
              parts = refl;
              rest_spells = record {
                first = s.text;
                front = s.text;
                back = [];
                first_spells = record { len = refl; same = refl };
                parts = sym (append-nil s.text);
                rest_spells = record {
                  first = tt;
                  front = [];
                  back = [];
                  first_spells = (rw s.fits.present refl, refl);
                  parts = refl;
                  rest_spells = record {
                    first = tt;
                    front = [];
                    back = [];
                    first_spells = (le-leb _ _ s.short, refl);
                    parts = refl;
                    rest_spells = record {
                      first = m.metadata;
                      front = [];
                      back = [];
                      first_spells = (metadata_again s.text m.metadata s.metadata, refl);
                      parts = refl;
                      rest_spells = (refl, refl);
                    };
                  };
                };
              };
            };
          };
        };
      };
    }

-- what is read is spelled so
pub marker_takes : (bytes : List ℕ) (m : Fields) (rest : List ℕ) → IsBytes bytes → marker_at bytes ≡ Ok (m, rest)
    → Takes IsSpelling bytes m rest
marker_takes bytes m rest fits e =
    let t = marker_format.takes bytes m rest fits e in
    record { front = t.front; spells = to_spelling m t.front t.spells; parts = t.parts }

-- what is spelled so is read, whatever follows
pub marker_again : (m : Fields) (front rest : List ℕ) → IsSpelling m front → marker_at (front ++ rest) ≡ Ok (m, rest)
marker_again m front rest s = marker_format.again m front rest (from_spelling m front s)

-- no spelling begins another, and none has two meanings
pub one_spelling : (m n : Fields) (a b x y : List ℕ) → IsSpelling m a → IsSpelling n b → a ++ x ≡ b ++ y
    → (a ≡ b) × (m ≡ n)
one_spelling m n a b x y s t e =
    let same = ok_is MarkerFault (m, x) (n, y) (sym (marker_again m a x s) ∙ ap marker_at e ∙ marker_again n b y t) in
    let rest : x ≡ y = ap (λ (q : Fields × List ℕ). q.1) same in
    (append_cancel_right a b x (e ∙ ap (λ (z : List ℕ). b ++ z) (sym rest)), ap (λ (q : Fields × List ℕ). q.0) same)

pub taken : (bytes : List ℕ) (m : Fields) (rest : List ℕ) → IsBytes bytes → marker_at bytes ≡ Ok (m, rest)
    → (length bytes - length rest ≤ length bytes) × (length rest ≤ length bytes)
    × IsSpelling m (take (length bytes - length rest) bytes)
taken bytes m rest fits e =
    let t = marker_takes bytes m rest fits e in
    let len : length bytes ≡ length t.front + length rest = ap length t.parts ∙ length-append t.front rest in
    let used : length t.front ≡ length bytes - length rest = omega (arith, len) in
    let at : take (length bytes - length rest) bytes ≡ t.front =
    ap (take (length bytes - length rest)) t.parts ∙ take_at t.front rest (length bytes - length rest) used in
    (omega (arith, len), omega (arith, len), rw at t.spells)

abbrev made : Fields × ℕ → Result (Fields × ℕ) MarkerFault
made y = Ok y

ok_both : (y z : Fields × ℕ) → made y ≡ made z → y ≡ z
ok_both y z e = cc

with_length_ok : (bytes : List ℕ) (r : Result (Fields × List ℕ) MarkerFault) (m : Fields) (used : ℕ)
    → with_length bytes r ≡ Ok (m, used) → (rest : List ℕ) × (r ≡ Ok (m, rest)) × (length bytes - length rest ≡ used)
with_length_ok bytes (Ok x) m used e =
    let p = ok_both (x.0, length bytes - length x.1) (m, used) e in
    (x.1, ap (λ (n : Fields). Ok (n, x.1)) (ap (λ (q : Fields × ℕ). q.0) p), ap (λ (q : Fields × ℕ). q.1) p)
with_length_ok bytes (Err d) m used e = absurd cc

pub is_found : (bytes : List ℕ) (r : Result (Fields × ℕ) (ReadError MarkerFault)) → IsBytes bytes
    → Gives (λ x. x) r (marker_and_length bytes) → IfOk r (λ x. (x.1 ≤ length bytes) × IsSpelling x.0 (take x.1 bytes))
is_found bytes (Ok x) fits given =
    let w = with_length_ok bytes (marker_at bytes) x.0 x.1 given in
    let t = taken bytes x.0 w.0 fits w.1 in
    subst (λ (used : ℕ). (used ≤ length bytes) × IsSpelling x.0 (take used bytes)) w.2 (t.0, t.2)
is_found bytes (Err e) fits given = tt

pub is_only : (bytes : List ℕ) (m : Fields) (text rest : List ℕ) → IsSpelling m text → bytes ≡ text ++ rest
    → marker_and_length bytes ≡ Ok (m, length text)
is_only bytes m text rest s e =
    let read : marker_at bytes ≡ Ok (m, rest) = ap marker_at e ∙ marker_again m text rest s in
    let used : length bytes - length rest ≡ length text = omega (arith, ap length e ∙ length-append text rest) in
    ap (with_length bytes) read ∙ ap (λ (n : ℕ). Ok (m, n)) used

-- ---- every marker can be written, and what is written is read again

pub is_marker : (m : Fields) (bytes : List ℕ) → IsSpelling m bytes → IsMarker m
is_marker m bytes s = record {
  fits = s.fits;
  clean = read_is_clean m.metadata s.text s.metadata;
  short = omega (arith, written_no_longer m.metadata s.text s.metadata, s.short);
}

pub is_spelling : (m : Fields) → IsMarker m → IsSpelling m (spelling m)
is_spelling m h =
    record {
      text = written m.metadata;
      fits = h.fits;
      short = h.short;
      metadata =
          is_written m.metadata h.clean;
      layout = refl;
    }

-- what is read line by line is a marker
pub read_is_marker : (bytes r s t u v rest : List ℕ) (m : Fields) (count len : ℕ) (text : List ℕ) → IsBytes bytes
    → byte Truncated bytes ≡ Ok (count, r) → number Truncated r ≡ Ok (len, s) → byte Truncated s ≡ Ok (m.flags, t)
    → node Truncated t ≡ Ok (m.predecessor, u)
    → nodes Truncated count u ≡ Ok (m.successors, v) → field Truncated len v ≡ Ok (text, rest)
    → list_any (node_eq null_node) m.successors ≡ false → len ≤ metadata_limit → metadata_at text ≡ Ok m.metadata
    → IsMarker m
unfolding marker_at
read_is_marker bytes r s t u v rest m count len text fits a b c d e f g h k =
    let read : marker_at bytes ≡ Ok (m, rest) = rw (a, b, c, d, e, f, g, le-leb _ _ h, k) refl in
    let spelled = marker_takes bytes m rest fits read in
    is_marker m spelled.front spelled.spells

-- what is written of a marker is read as it, whatever follows
pub written_again : (m : Fields) (rest : List ℕ) → IsMarker m
    → marker_and_length (spelling m ++ rest) ≡ Ok (m, length (spelling m))
written_again m rest h = is_only (spelling m ++ rest) m (spelling m) rest (is_spelling m h) refl

-- A record is read from its spellings and from nothing else.
use Rattle.std.proofs.Common.{◌≡◌, ◌≢◌, ℕ, ◌≤◌, Bool, true, false, not, List, [], ◌++◌, length, refl, sym, ap, subst}
use Rattle.std.proofs.Common.{◌∙◌, arith}
use Rattle.std.specs.Prelude.{nat_le, ◌&&◌}
use Rattle.std.proofs.lemmas.Bool.{leb-true, le-leb, not-true, and_parts, false≢true}
use Rattle.std.proofs.lemmas.List.{append-nil}
use Rattle.hg_changeset.specs.declared.node.Node.{Node}
use Rattle.hg_changeset.specs.Node.{null_node, node_eq}
use Rattle.hg_changeset.specs.Same.{node_eq_decides}
use Rattle.hg_changeset.specs.Contents.{Contents}
use Rattle.hg_changeset.specs.Changeset.{node_of, changeset_of, is_given_twice, text_limit}
use Rattle.hg_marker.specs.Reading.{number, node, field}
use Rattle.hg_marker.proofs.Formats.{IsFormat, Sequence, sequence, number_format, IsNumber, node_format, IsIdOf}
use Rattle.hg_marker.proofs.Formats.{field_format, IsField, wants_format, Wanted, says_format, SaysOnly}
use Rattle.hg_message.specs.declared.error.MessageFault.TheVariants.{HashMismatch, BadParents, TextTooLong}
use Rattle.hg_message.specs.Record.{RecordFields, IsItsRecord, contents_of, is_named, fields_at, record_at}
use Rattle.hg_message.specs.Spelling.{IsRecord, record_layout, number as spelled}
use Rattle.hg_message.proofs.FormatLemmas.{eq_then, retold, whole_format}

-- ---- the fields

record AreFields (f : RecordFields) (bytes : List ℕ) : Type 0 where
  id : IsIdOf f.id f.id.0
  p : IsIdOf f.p f.p.0
  q : IsIdOf f.q f.q.0
  short : length f.text ≤ text_limit
  layout : bytes ≡ record_layout f.id f.p f.q f.text

abbrev Parts : RecordFields → List ℕ → Type 0
Parts = Sequence IsIdOf
    (λ id. Sequence IsIdOf
    (λ p. Sequence IsIdOf
    (λ q. Sequence IsNumber (λ len. Sequence (Wanted (nat_le len text_limit))
    (λ _. Sequence (IsField len) (λ text.
    SaysOnly (record { id = id; p = p; q = q; text = text })))))))

fields_to : (f : RecordFields) (bytes : List ℕ) → Parts f bytes → AreFields f bytes
fields_to f bytes a =
    let b = a.rest_spells in
    let c = b.rest_spells in
    let d = c.rest_spells in
    let e = d.rest_spells in
    let g = e.rest_spells in
    let made : RecordFields = record { id = a.first; p = b.first; q = c.first; text = g.first } in
    let text_is : e.back ≡ g.first = eq_then g.parts g.first_spells.same g.rest_spells.1 ∙ append-nil g.first in
    let whole : bytes ≡ a.first.0 ++ (b.first.0 ++ (c.first.0 ++ (spelled d.first ++ g.first))) =
    eq_then a.parts a.first_spells.same (eq_then b.parts b.first_spells.same
    (eq_then c.parts c.first_spells.same (eq_then d.parts d.first_spells.same
    (eq_then e.parts e.first_spells.1 text_is)))) in
    let len_is : length g.first ≡ d.first = g.first_spells.len in
    let laid : bytes ≡ record_layout a.first b.first c.first g.first = whole
    ∙ ap (λ (n : ℕ). a.first.0 ++ (b.first.0 ++ (c.first.0 ++ (spelled n ++ g.first)))) (sym len_is) in
    let all : AreFields made bytes = record {
      id = record { is_node = a.first_spells.is_node; same = refl };
      p = record { is_node = b.first_spells.is_node; same = refl };
      q = record { is_node = c.first_spells.is_node; same = refl };
      short = rw len_is (leb-true _ _ e.first_spells.0);
      layout = laid;
    } in
    subst (λ (g : RecordFields). AreFields g bytes) (sym g.rest_spells.0) all

fields_from : (f : RecordFields) (bytes : List ℕ) → AreFields f bytes → Parts f bytes
fields_from f bytes s =
    let text = spelled (length f.text) ++ f.text in
    record {
      first = f.id;
      front = f.id.0;
      back = f.p.0 ++ (f.q.0 ++ text);
      first_spells = s.id;
      parts = s.layout;
      rest_spells = record {
        first = f.p;
        front = f.p.0;
        back = f.q.0 ++ text;
        first_spells = s.p;
        parts = refl;
        rest_spells = record {
          first = f.q;
          front = f.q.0;
          back = text;
          first_spells = s.q;
          parts = refl;
          rest_spells = record {
            first = length f.text;
            front = spelled (length f.text);
            back = f.text;
            first_spells = record { below = omega (arith, s.short); same = refl };
            parts = refl;
            rest_spells = record {
              first = tt;
              front = [];
              back = f.text;
              first_spells = (le-leb _ _ s.short, refl);
              parts = refl;
              rest_spells = record {
                first = f.text;
                front = f.text;
                back = [];
                first_spells = record { len = refl; same = refl };
                parts = sym (append-nil f.text);
                rest_spells = (refl, refl);
              };
            };
          };
        };
      };
    }

fields_format : (total index : ℕ) → IsFormat (fields_at total index) AreFields
unfolding fields_at
fields_format total index =
    retold (sequence (whole_format total node node_format) (λ id. sequence (whole_format total node node_format)
    (λ p. sequence (whole_format total node node_format) (λ q. sequence (whole_format total number number_format)
    (λ len.
    sequence (wants_format (nat_le len text_limit) (TextTooLong index))
    (λ _. sequence (whole_format total (λ short. field short len) (λ short. field_format short len)) (λ text.
    says_format (record { id = id; p = p; q = q; text = text }))))))))
    fields_to fields_from

-- ---- the tests

then_also : (a b : Bool) → not (a && not b) ≡ true → a ≡ true → b ≡ true
then_also true true h e = refl
then_also true false h e = absurd cc
then_also false b h e = absurd cc

also_then : (a b : Bool) → (a ≡ true → b ≡ true) → not (a && not b) ≡ true
also_then true b h = rw (h refl) refl
also_then false b h = refl

unequal_node : (p q : Node) → p ≢ q → node_eq p q ≡ false
unequal_node p q h = elim (node_eq p q) as (λ b. node_eq p q ≡ b → b ≡ false) [
  | true ↦ λ e. absurd (h ((node_eq_decides p q).0 e))
  | false ↦ λ e. refl
] refl

abbrev Tested : Contents → List ℕ → Type 0
Tested = Sequence AreFields (λ f. Sequence (Wanted (not (is_given_twice f.p f.q)))
    (λ _. Sequence (Wanted (is_named f)) (λ _. SaysOnly (contents_of f))))

record_to : (c : Contents) (bytes : List ℕ) → Tested c bytes → IsRecord c bytes
record_to c bytes a =
    let b = a.rest_spells in
    let d = b.rest_spells in
    let f = a.first in
    let made : Contents = contents_of f in
    let nothing : a.back ≡ [] = eq_then b.parts b.first_spells.1 (eq_then d.parts d.first_spells.1 d.rest_spells.1) in
    let tests = and_parts (node_eq (node_of made) f.id) (not (node_eq (node_of made) null_node)) d.first_spells.0 in
    let id_is : node_of made ≡ f.id = (node_eq_decides (node_of made) f.id).0 tests.0 in
    let fields : bytes ≡ record_layout f.id f.p f.q f.text = eq_then a.parts a.first_spells.layout nothing
    ∙ append-nil (record_layout f.id f.p f.q f.text) in
    let spells : IsRecord made bytes = record {
      p = f.p;
      q = f.q;
      text = f.text;
      ids = (rw id_is a.first_spells.id.is_node, a.first_spells.p.is_node, a.first_spells.q.is_node);
      short = a.first_spells.short;
      parents = λ e. (node_eq_decides f.p null_node).0 (then_also (node_eq f.p f.q)
          (node_eq f.p null_node) b.first_spells.0 ((node_eq_decides f.p f.q).1 e));
      present = λ e. false≢true (sym (not-true _ tests.1) ∙ (node_eq_decides (node_of made) null_node).1 e);
      changeset = refl;
      layout = fields ∙ ap (λ (n : Node). record_layout n f.p f.q f.text) (sym id_is);
    } in
    subst (λ (x : Contents). IsRecord x bytes) (sym d.rest_spells.0) spells

-- a changeset, by its parents in either order and its text
pub its_record : (c : Contents) (p q : Node) (text : List ℕ) → c ≡ changeset_of p q text → (p ≡ q → p ≡ null_node)
    → node_of c ≢ null_node → IsItsRecord (record { id = node_of c; p = p; q = q; text = text })
its_record c p q text same parents present = record {
  differ = also_then (node_eq p q) (node_eq p null_node)
      (λ e. (node_eq_decides p null_node).1 (parents ((node_eq_decides p q).0 e)));
  named = rw (
    ← same,
    (node_eq_decides (node_of c) (node_of c)).1 refl,
    unequal_node (node_of c) null_node present,
  ) refl;
}

record_from : (c : Contents) (bytes : List ℕ) → IsRecord c bytes → Tested c bytes
record_from c bytes s =
    let f : RecordFields = record { id = node_of c; p = s.p; q = s.q; text = s.text } in
    let tests = its_record c s.p s.q s.text s.changeset s.parents s.present in
    record {
      first = f;
      front = bytes;
      back = [];
      parts = sym (append-nil bytes);
      first_spells = record {
        id = record { is_node = s.ids.0; same = refl };
        p = record { is_node = s.ids.1; same = refl };
        q = record { is_node = s.ids.2; same = refl };
        short = s.short;
        layout = s.layout;
      };
      rest_spells = record {
        first = tt;
        front = [];
        back = [];
        parts = refl;
        first_spells = (tests.differ, refl);
        rest_spells = record {
          first = tt;
          front = [];
          back = [];
          parts = refl;
          first_spells = (tests.named, refl);
          rest_spells = (s.changeset, refl);
        };
      };
    }

pub record_format : (total index : ℕ) → IsFormat (record_at total index) IsRecord
unfolding record_at
record_format total index =
    retold (sequence (fields_format total index) (λ f. sequence
    (wants_format (not (is_given_twice f.p f.q)) (BadParents index))
    (λ _. sequence (wants_format (is_named f) (HashMismatch index)) (λ _. says_format (contents_of f)))))
    record_to record_from

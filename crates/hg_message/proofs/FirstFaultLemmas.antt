-- The first fault of a message, which is met in reading field by field.
use Rattle.std.proofs.Common.{◌≡◌, ◌<◌, ◌≤◌, ◌+◌, ◌-◌, inl, inr, ℕ, zero, suc, Bool, true, false, cond, not, eqb, ltb}
use Rattle.std.proofs.Common.{List, [], ◌∷◌, ◌++◌, length, take, drop, get_or, Option, Some, None, Result, Ok, Err}
use Rattle.std.proofs.Common.{refl, sym, ap, subst, ◌∙◌, arith, length-append}
use Rattle.std.specs.Prelude.{nat_le}
use Rattle.std.specs.Option.{option_or}
use Rattle.std.proofs.lemmas.Bool.{cases_lt, lt-ltb, le-ltb}
use Rattle.std.proofs.lemmas.List.{take_at, drop_at, take-append-drop, length-take}
use Rattle.std.proofs.lemmas.Option.{none-some, same_Some}
use Rattle.hex.specs.Hex.{IsBytes}
use Rattle.hg_changeset.specs.declared.node.Node.{Node}
use Rattle.hg_changeset.specs.Contents.{Contents}
use Rattle.hg_changeset.specs.Changeset.{is_given_twice, text_limit}
use Rattle.hg_marker.specs.Fields.{Fields}
use Rattle.hg_marker.specs.Reading.{Reader, and_then, ◌>>=◌, says, wants, yields, field, number, byte, node}
use Rattle.hg_marker.proofs.Formats.{IsBytes-right, IsBytes-take}
use Rattle.hg_phases.specs.declared.phase.Phase.{Phase}
use Rattle.hg_obsstore.specs.Faults.{store_at}
use Rattle.hg_message.specs.declared.error.MessageFault.{MessageFault}
use Rattle.hg_message.specs.declared.error.MessageFault.TheVariants.{Truncated, BadMagic, BadVersion, HashMismatch}
use Rattle.hg_message.specs.declared.error.MessageFault.TheVariants.{BadParents, Trailing, TextTooLong}
use Rattle.hg_message.specs.Value.{MessageValue}
use Rattle.hg_message.specs.Counted.{counted}
use Rattle.hg_message.specs.Place.{here, whole}
use Rattle.hg_message.specs.Record.{RecordFields, contents_of, is_named, fields_at, record_at}
use Rattle.hg_message.specs.Bound.{numbered_phase, bound_at}
use Rattle.hg_message.specs.Message.{magic_number, told_in, store_in, parts_at, ended, message_at}
use Rattle.hg_message.specs.FirstFault.{Field, value, node_in, width, HasFault, record_or_entries, bound_or_store, next}
use Rattle.hg_message.specs.FirstFault.{IsWhole, FaultAfter, IsMessageFault}
use Rattle.hg_message.specs.FirstFault.Field.{Magic, Version, Count, Id, FirstParent, SecondParent, TextLength, Text}
use Rattle.hg_message.specs.FirstFault.Field.{Entries, PhaseNumber, BoundNode, StoreLength, Store, End, ScopeNumber}
use Rattle.hg_message.specs.declared.scope.Scope.{Scope}
use Rattle.hg_message.specs.declared.scope.Scope.TheVariants.{Served}
use Rattle.hg_message.specs.Scope.{numbered_scope, is_version, scope_at, scope_of}
use Rattle.hg_message.proofs.FieldFaultLemmas.{refusal, unless, own, own_told, own_so, eqb_no}

-- ---- reading from a field on, as far as the fault

abbrev FaultIn : Type 0
FaultIn = List ℕ → Option MessageFault

-- the field at the front of the rest of so many bytes, and then what its bytes lead to
abbrev field_then : ℕ → Field → (List ℕ → FaultIn) → FaultIn
field_then total field k rest =
    cond (ltb (length rest) (width field)) (Some (Truncated (total - length rest)))
    (option_or (own field (total - length rest) (take (width field) rest))
    (k (take (width field) rest) (drop (width field) rest)))

-- what is told from a field on is the fault of the field after whole ones
record Explains (total : ℕ) (field : Field) (told : FaultIn) : Type 0 where
  found : (rest : List ℕ) (f : MessageFault) → IsBytes rest → length rest ≤ total → told rest ≡ Some f
      → (fields : List (List ℕ)) × FaultAfter fields field (total - length rest) rest f
  so : (fields : List (List ℕ)) (rest : List ℕ) (f : MessageFault) → IsBytes rest → length rest ≤ total
      → FaultAfter fields field (total - length rest) rest f → told rest ≡ Some f

IsBytes-front : (front rest : List ℕ) → IsBytes (front ++ rest) → IsBytes front
IsBytes-front front rest fits = subst IsBytes (take_at front rest (length front) refl)
    (IsBytes-take (length front) (front ++ rest) fits)

module _ (total : ℕ) (field : Field) (k : List ℕ → FaultIn) where
  cut_told : (rest : List ℕ) → length rest < width field → field_then total field k rest ≡ Some
      (Truncated (total - length rest))
  cut_told rest lt = rw (lt-ltb (length rest) (width field) lt) refl

  whole_told : (bytes others : List ℕ) → length bytes ≡ width field
      → field_then total field k (bytes ++ others) ≡ option_or (own field (total - length (bytes ++ others)) bytes)
      (k bytes others)
  whole_told bytes others len =
      let enough : width field ≤ length (bytes ++ others) = omega (arith, len, length-append bytes others) in
      let front : take (width field) (bytes ++ others) ≡ bytes = take_at bytes others (width field) len in
      let back : drop (width field) (bytes ++ others) ≡ others = drop_at bytes others (width field) len in
      rw (le-ltb (length (bytes ++ others)) (width field) enough, front, back) refl

  -- the place of what comes after
  place_after : (bytes others : List ℕ) → length (bytes ++ others) ≤ total
      → total - length (bytes ++ others) + length bytes ≡ total - length others
  place_after bytes others le = omega (arith, le, length-append bytes others)

  module _ (not_end : field ≡ End → ⊥) (later : (bytes : List ℕ) → Explains total (next field bytes) (k bytes)) where
    found_whole : (bytes others : List ℕ) (f : MessageFault) → length bytes ≡ width field → IsBytes (bytes ++ others)
        → length (bytes ++ others) ≤ total
        → field_then total field k (bytes ++ others) ≡ Some f
        → (fields : List (List ℕ)) × FaultAfter fields field (total - length (bytes ++ others)) (bytes ++ others) f
    found_whole bytes others f len fits le e = by (own field (total - length (bytes ++ others)) bytes) refl
        (sym (whole_told bytes others len) ∙ e)
      where
        by : (o : Option MessageFault) → own field (total - length (bytes ++ others)) bytes ≡ o
            → option_or o (k bytes others) ≡ Some f
            → (fields : List (List ℕ)) × FaultAfter fields field (total - length (bytes ++ others)) (bytes ++ others) f
        by (Some g) at e =
            let met : own field (total - length (bytes ++ others)) bytes ≡ Some f = at ∙ e in (
              [],
              inr (inl (record {
                bytes = bytes;
                others = others;
                parts = refl;
                len = len;
                fault_is = own_told field (total - length (bytes ++ others)) bytes f len
                    (IsBytes-front bytes others fits) met;
              })),
            )
        by None at e =
            let h = (later bytes).found others f (IsBytes-right bytes others fits)
            (omega (arith, le, length-append bytes others)) e in (
              bytes ∷ h.0,
              (
                (len, λ g has. none-some g (sym at ∙ own_so field (total - length (bytes ++ others)) bytes g len has)),
                record {
                  others = others;
                  parts = refl;
                  others_are = subst
                      (λ (p : ℕ). FaultAfter h.0 (next field bytes) p others f) (sym (place_after bytes others le)) h.1;
                },
              ),
            )

    so_whole : (fields : List (List ℕ)) (bytes others : List ℕ) (f : MessageFault) → IsBytes (bytes ++ others)
        → length (bytes ++ others) ≤ total
        → IsWhole field (total - length (bytes ++ others)) bytes
        → FaultAfter fields (next field bytes) (total - length (bytes ++ others) + length bytes) others f
        → field_then total field k (bytes ++ others) ≡ Some f
    so_whole fields bytes others f fits le entire h = whole_told bytes others entire.0
        ∙ by (own field (total - length (bytes ++ others)) bytes) refl
      where
        by : (o : Option MessageFault) → own field (total - length (bytes ++ others)) bytes ≡ o
            → option_or o (k bytes others) ≡ Some f
        by (Some g) at = absurd
            (entire.1 g (own_told field (total - length (bytes ++ others)) bytes g entire.0
            (IsBytes-front bytes others fits) at))
        by None at =
            (later bytes).so fields others f (IsBytes-right bytes others fits)
            (omega (arith, le, length-append bytes others))
            (subst (λ (p : ℕ). FaultAfter fields (next field bytes) p others f) (place_after bytes others le) h)

    so_field : (fields : List (List ℕ)) (rest : List ℕ) (f : MessageFault) → IsBytes rest → length rest ≤ total
        → FaultAfter fields field (total - length rest) rest f → field_then total field k rest ≡ Some f
    so_field [] rest f fits le (inl h) = cut_told rest h.0 ∙ ap (λ (g : MessageFault). Some g) (sym h.1)
    so_field [] rest f fits le (inr (inl h)) =
        let place_is : total - length rest ≡ total - length (h.bytes ++ h.others) =
        ap (λ (r : List ℕ). total - length r) h.parts in
        let has : HasFault field (total - length (h.bytes ++ h.others)) h.bytes f =
        subst (λ (p : ℕ). HasFault field p h.bytes f) place_is h.fault_is in
        ap (field_then total field k) h.parts ∙ whole_told h.bytes h.others h.len
        ∙ ap (λ (o : Option MessageFault). option_or o (k h.bytes h.others))
        (own_so field (total - length (h.bytes ++ h.others)) h.bytes f h.len has)
    so_field [] rest f fits le (inr (inr h)) = absurd (not_end h.0)
    so_field (bytes ∷ fields) rest f fits le h =
        let others = h.1.others in
        let place_is : total - length rest ≡ total - length (bytes ++ others) =
        ap (λ (r : List ℕ). total - length r) h.1.parts in
        ap (field_then total field k) h.1.parts
        ∙ so_whole fields bytes others f (subst IsBytes h.1.parts fits)
        (subst (λ (r : List ℕ). length r ≤ total) h.1.parts le)
        (subst (λ (p : ℕ). IsWhole field p bytes) place_is h.0)
        (subst (λ (p : ℕ). FaultAfter fields (next field bytes) (p + length bytes) others f) place_is h.1.others_are)

    found_field : (rest : List ℕ) (f : MessageFault) → IsBytes rest → length rest ≤ total
        → field_then total field k rest ≡ Some f
        → (fields : List (List ℕ)) × FaultAfter fields field (total - length rest) rest f
    found_field rest f fits le e = elim (cases_lt (length rest) (width field)) [
      | inl lt ↦ ([], inl (lt, sym (same_Some (Truncated (total - length rest)) f (sym (cut_told rest lt) ∙ e))))
      | inr enough ↦
          let bytes = take (width field) rest in
          let others = drop (width field) rest in
          let parts : bytes ++ others ≡ rest = take-append-drop (width field) rest in
          let len : length bytes ≡ width field = omega (arith, enough, length-take (width field) rest) in
          subst (λ (r : List ℕ). (fields : List (List ℕ)) × FaultAfter fields field (total - length r) r f) parts
          (found_whole bytes others f len (subst IsBytes (sym parts) fits)
          (subst (λ (r : List ℕ). length r ≤ total) (sym parts) le) (ap (field_then total field k) parts ∙ e))
    ]

    explains_field : Explains total field (field_then total field k)
    explains_field = record { found = found_field; so = so_field }

-- ---- the fields, one after the other

abbrev end_told : FaultIn
end_told rest = unless (eqb (length rest) 0) Trailing

followed : (b : ℕ) (rest : List ℕ) → end_told (b ∷ rest) ≡ Some Trailing
followed b rest = rw (eqb_no (length (b ∷ rest)) 0 (λ z. omega (arith, z))) refl

end_found : (total : ℕ) (rest : List ℕ) (f : MessageFault) → end_told rest ≡ Some f
    → (fields : List (List ℕ)) × FaultAfter fields End (total - length rest) rest f
end_found total [] f e = absurd (none-some f e)
end_found total (b ∷ rest) f e =
    ([], inr (inr (refl, omega arith, sym (same_Some Trailing f (sym (followed b rest) ∙ e)))))

end_so : (total : ℕ) (fields : List (List ℕ)) (place : ℕ) (rest : List ℕ) (f : MessageFault)
    → FaultAfter fields End place rest f → end_told rest ≡ Some f
end_so total [] place rest f (inl h) = absurd (omega (arith, h.0))
end_so total [] place rest f (inr (inl h)) = absurd h.fault_is
end_so total [] place [] f (inr (inr h)) = absurd (omega (arith, h.1))
end_so total [] place (b ∷ rest) f (inr (inr h)) = followed b rest ∙ ap (λ (g : MessageFault). Some g) (sym h.2)
end_so total ([] ∷ fields) place rest f h = ap end_told h.1.parts
    ∙ end_so total fields (place + 0) h.1.others f h.1.others_are
end_so total ((b ∷ bytes) ∷ fields) place rest f h = absurd (omega (arith, h.0.0))

module _ (total : ℕ) where
  abbrev store_then : ℕ → FaultIn
  store_then len = field_then total (Store len) (λ _. end_told)

  abbrev bounds_then : ℕ → FaultIn
  bounds_then zero = field_then total StoreLength (λ bytes. store_then (value bytes))
  bounds_then (suc after) = field_then total (PhaseNumber after)
      (λ _. field_then total (BoundNode after) (λ _. bounds_then after))

  abbrev entries_then : FaultIn
  entries_then = field_then total Entries (λ bytes. bounds_then (value bytes))

  -- one record from each of its fields on, and then what it leads to
  abbrev text_then : ℕ → ℕ → FaultIn → Node → Node → Node → ℕ → FaultIn
  text_then index after k n p q len = field_then total (Text index after n p q len) (λ _. k)

  abbrev length_then : ℕ → ℕ → FaultIn → Node → Node → Node → FaultIn
  length_then index after k n p q = field_then total (TextLength index after n p q)
      (λ len. text_then index after k n p q (value len))

  abbrev second_then : ℕ → ℕ → FaultIn → Node → Node → FaultIn
  second_then index after k n p = field_then total (SecondParent index after n p)
      (λ q. length_then index after k n p (node_in q))

  abbrev first_then : ℕ → ℕ → FaultIn → Node → FaultIn
  first_then index after k n = field_then total (FirstParent index after n)
      (λ p. second_then index after k n (node_in p))

  abbrev record_then : ℕ → ℕ → FaultIn → FaultIn
  record_then index after k = field_then total (Id index after) (λ n. first_then index after k (node_in n))

  abbrev records_then : ℕ → ℕ → FaultIn
  records_then index zero = entries_then
  records_then index (suc after) = record_then index after (records_then (suc index) after)

  abbrev count_then : FaultIn
  count_then = field_then total Count (λ bytes. records_then 0 (value bytes))

  abbrev scope_then : FaultIn
  scope_then = field_then total ScopeNumber (λ _. count_then)

  -- behind a version, which is the first one or not
  abbrev scope_by : Bool → FaultIn
  scope_by true = count_then
  scope_by false = scope_then

  abbrev version_then : FaultIn
  version_then = field_then total Version (λ bytes. scope_by (eqb (get_or bytes 0 0) 1))

  abbrev all_then : FaultIn
  all_then = field_then total Magic (λ _. version_then)

  explains_end : Explains total End end_told
  explains_end = record {
    found = λ rest f _ _ e. end_found total rest f e;
    so = λ fields rest f _ _ h. end_so total fields (total - length rest) rest f h;
  }

  explains_store : (len : ℕ) → Explains total (Store len) (store_then len)
  explains_store len = explains_field total (Store len) (λ _. end_told) (λ e. cc) (λ _. explains_end)

  explains_bounds : (after : ℕ) → Explains total (bound_or_store after) (bounds_then after)
  explains_bounds zero = explains_field total StoreLength (λ bytes. store_then (value bytes)) (λ e. cc)
      (λ bytes. explains_store (value bytes))
  explains_bounds (suc after) =
      explains_field total (PhaseNumber after) (λ _. field_then total (BoundNode after) (λ _. bounds_then after))
      (λ e. cc)
      (λ _. explains_field total (BoundNode after) (λ _. bounds_then after) (λ e. cc) (λ _. explains_bounds after))

  explains_entries : Explains total Entries entries_then
  explains_entries = explains_field total Entries (λ bytes. bounds_then (value bytes)) (λ e. cc)
      (λ bytes. explains_bounds (value bytes))

  module _ (index after : ℕ) (k : FaultIn) (others : Explains total (record_or_entries (suc index) after) k) where
    explains_text : (n p q : Node) (len : ℕ) → Explains total (Text index after n p q len)
        (text_then index after k n p q len)
    explains_text n p q len = explains_field total (Text index after n p q len) (λ _. k) (λ e. cc) (λ _. others)

    explains_length : (n p q : Node) → Explains total (TextLength index after n p q) (length_then index after k n p q)
    explains_length n p q =
        explains_field total (TextLength index after n p q) (λ len. text_then index after k n p q (value len)) (λ e. cc)
        (λ len. explains_text n p q (value len))

    explains_second : (n p : Node) → Explains total (SecondParent index after n p) (second_then index after k n p)
    explains_second n p =
        explains_field total (SecondParent index after n p) (λ q. length_then index after k n p (node_in q)) (λ e. cc)
        (λ q. explains_length n p (node_in q))

    explains_first : (n : Node) → Explains total (FirstParent index after n) (first_then index after k n)
    explains_first n =
        explains_field total (FirstParent index after n) (λ p. second_then index after k n (node_in p)) (λ e. cc)
        (λ p. explains_second n (node_in p))

    explains_record : Explains total (Id index after) (record_then index after k)
    explains_record = explains_field total (Id index after) (λ n. first_then index after k (node_in n)) (λ e. cc)
        (λ n. explains_first (node_in n))

  explains_records : (after index : ℕ) → Explains total (record_or_entries index after) (records_then index after)
  explains_records zero index = explains_entries
  explains_records (suc after) index = explains_record index after (records_then (suc index) after)
      (explains_records after (suc index))

  explains_count : Explains total Count count_then
  explains_count = explains_field total Count (λ bytes. records_then 0 (value bytes)) (λ e. cc)
      (λ bytes. explains_records (value bytes) 0)

  explains_scope : (first : Bool) → Explains total (cond first Count ScopeNumber) (scope_by first)
  explains_scope true = explains_count
  explains_scope false = explains_field total ScopeNumber (λ _. count_then) (λ e. cc) (λ _. explains_count)

  explains_version : Explains total Version version_then
  explains_version = explains_field total Version (λ bytes. scope_by (eqb (get_or bytes 0 0) 1)) (λ e. cc)
      (λ bytes. explains_scope (eqb (get_or bytes 0 0) 1))

  explains_all : Explains total Magic all_then
  explains_all = explains_field total Magic (λ _. version_then) (λ e. cc) (λ _. explains_version)

-- ---- the reader tells the same. A probe sees the fault of what was read, and what was read otherwise

or_both : (a b c : Option MessageFault) → option_or (option_or a b) c ≡ option_or a (option_or b c)
or_both (Some x) b c = refl
or_both None b c = refl

module _ {B : Type 0} (probe : Result (B × List ℕ) MessageFault → Option MessageFault)
    (err : (d : MessageFault) → probe (Err d) ≡ Some d) where
  then_probed : {A : Type 0} (cut : Bool) (d : MessageFault) (x : A × List ℕ) (f : A → Reader MessageFault B)
      → probe (and_then (cond cut (Err d) (Ok x)) f) ≡ cond cut (Some d) (probe (f x.0 x.1))
  then_probed true d x f = err d
  then_probed false d x f = refl

  wants_probed : (fine : Bool) (d : MessageFault) (rest : List ℕ) (f : Unit {0} → Reader MessageFault B)
      → probe (and_then (wants fine d rest) f) ≡ option_or (unless fine d) (probe (f tt rest))
  wants_probed true d rest f = refl
  wants_probed false d rest f = err d

  yields_probed : {A : Type 0} (r : Result A MessageFault) (rest : List ℕ) (f : A → Reader MessageFault B)
      (after : Option MessageFault)
      → ((x : A) → probe (f x rest) ≡ after) → probe (and_then (yields r rest) f) ≡ option_or (refusal r) after
  yields_probed (Ok x) rest f after h = h x
  yields_probed (Err d) rest f after h = err d

  -- a field that takes so many bytes
  field_probed : {A : Type 0} (w : ℕ) (d : MessageFault) (says_so : List ℕ → A) (rest : List ℕ)
      (f : A → Reader MessageFault B) (o : List ℕ → Option MessageFault) (k : List ℕ → FaultIn)
      → ((bytes others : List ℕ) → probe (f (says_so bytes) others) ≡ option_or (o bytes) (k bytes others))
      → probe (and_then (cond (ltb (length rest) w) (Err d) (Ok (says_so (take w rest), drop w rest))) f)
      ≡ cond (ltb (length rest) w) (Some d) (option_or (o (take w rest)) (k (take w rest) (drop w rest)))
  field_probed w d says_so rest f o k h =
      then_probed (ltb (length rest) w) d (says_so (take w rest), drop w rest) f
      ∙ ap (λ (r : Option MessageFault). cond (ltb (length rest) w) (Some d) r) (h (take w rest) (drop w rest))

module _ (total : ℕ) where
  -- ---- a record

  module _ (index after : ℕ) (k : FaultIn) (probe : Result (Contents × List ℕ) MessageFault → Option MessageFault)
      (err : (d : MessageFault) → probe (Err d) ≡ Some d) (ends : (c : Contents) (others : List ℕ)
      → probe (Ok (c, others)) ≡ k others) where
    abbrev tests : RecordFields → Reader MessageFault Contents
    tests fields =
        wants (not (is_given_twice fields.p fields.q)) (BadParents index)
        >>= (λ _. wants (is_named fields) (HashMismatch index) >>= (λ _. says (contents_of fields)))

    abbrev in_record : Result (RecordFields × List ℕ) MessageFault → Option MessageFault
    in_record r = probe (and_then r tests)

    tests_probed : (fields : RecordFields) (rest : List ℕ) → probe (tests fields rest)
        ≡ option_or (option_or (unless (not (is_given_twice fields.p fields.q)) (BadParents index))
        (unless (is_named fields) (HashMismatch index))) (k rest)
    tests_probed fields rest =
        let twice = unless (not (is_given_twice fields.p fields.q)) (BadParents index) in
        let named = unless (is_named fields) (HashMismatch index) in
        wants_probed probe err (not (is_given_twice fields.p fields.q)) (BadParents index) rest
        (λ _. wants (is_named fields) (HashMismatch index) >>= (λ _. says (contents_of fields)))
        ∙ ap (option_or twice) (
        wants_probed probe err (is_named fields) (HashMismatch index) rest (λ _. says (contents_of fields))
        ∙ ap (option_or named) (ends (contents_of fields) rest)
        )
        ∙ sym (or_both twice named (k rest))

    abbrev from_text : Node → Node → Node → ℕ → Reader MessageFault RecordFields
    from_text n p q len =
        whole total (λ short. field short len) >>= (λ text. says (record { id = n; p = p; q = q; text = text }))

    abbrev from_length : Node → Node → Node → Reader MessageFault RecordFields
    from_length n p q = whole total number >>= (λ len. wants (nat_le len text_limit)
        (TextTooLong index) >>= (λ _. from_text n p q len))

    abbrev from_second : Node → Node → Reader MessageFault RecordFields
    from_second n p = whole total node >>= (λ q. from_length n p q)

    abbrev from_first : Node → Reader MessageFault RecordFields
    from_first n = whole total node >>= (λ p. from_second n p)

    text_probed : (n p q : Node) (len : ℕ) (rest : List ℕ) → in_record
        (from_text n p q len rest) ≡ text_then total index after k n p q len rest
    text_probed n p q len rest =
        field_probed in_record err len (Truncated (total - length rest)) (λ text. text) rest
        (λ text. says (record { id = n; p = p; q = q; text = text }))
        (own (Text index after n p q len) (total - length rest)) (λ _. k)
        (λ text others. tests_probed (record { id = n; p = p; q = q; text = text }) others)

    length_probed : (n p q : Node) (rest : List ℕ) → in_record
        (from_length n p q rest) ≡ length_then total index after k n p q rest
    length_probed n p q rest =
        field_probed in_record err 4 (Truncated (total - length rest)) value rest
        (λ len. wants (nat_le len text_limit) (TextTooLong index) >>= (λ _. from_text n p q len))
        (own (TextLength index after n p q) (total - length rest))
        (λ len. text_then total index after k n p q (value len))
        (λ len others.
        wants_probed in_record err (nat_le (value len) text_limit) (TextTooLong index) others
        (λ _. from_text n p q (value len))
        ∙ ap (option_or (unless (nat_le (value len) text_limit) (TextTooLong index)))
        (text_probed n p q (value len) others))

    second_probed : (n p : Node) (rest : List ℕ) → in_record (from_second n p rest)
        ≡ second_then total index after k n p rest
    second_probed n p rest =
        field_probed in_record err 20 (Truncated (total - length rest)) node_in rest (λ q. from_length n p q)
        (λ _. None) (λ q. length_then total index after k n p (node_in q))
        (λ q others. length_probed n p (node_in q) others)

    first_probed : (n : Node) (rest : List ℕ) → in_record (from_first n rest) ≡ first_then total index after k n rest
    first_probed n rest =
        field_probed in_record err 20 (Truncated (total - length rest)) node_in rest (λ p. from_second n p)
        (λ _. None) (λ p. second_then total index after k n (node_in p))
        (λ p others. second_probed n (node_in p) others)

    record_probed : (rest : List ℕ) → probe (record_at total index rest) ≡ record_then total index after k rest
    unfolding record_at fields_at
    record_probed rest =
        field_probed in_record err 20 (Truncated (total - length rest)) node_in rest (λ n. from_first n)
        (λ _. None) (λ n. first_then total index after k (node_in n)) (λ n others. first_probed (node_in n) others)

  -- ---- all records

  records_probed : (after index : ℕ) (probe : Result (List Contents × List ℕ) MessageFault → Option MessageFault)
      → ((d : MessageFault) → probe (Err d) ≡ Some d)
      → ((cs : List Contents) (others : List ℕ) → probe (Ok (cs, others)) ≡ entries_then total others)
      → (rest : List ℕ) → probe (counted (record_at total) index after rest) ≡ records_then total index after rest
  unfolding counted
  records_probed zero index probe err ends rest = ends [] rest
  records_probed (suc after) index probe err ends rest =
      record_probed index after (records_then total (suc index) after)
      (λ r. probe (and_then r (λ c. counted (record_at total) (suc index) after >>= (λ cs. says (c ∷ cs))))) err
      (λ c others. records_probed after (suc index) (λ r. probe (and_then r (λ cs. says (c ∷ cs)))) err
      (λ cs others. ends (c ∷ cs) others) others)
      rest

  -- ---- a bound, and all bounds

  module _ (after : ℕ) (k : FaultIn) (probe : Result ((Node × Phase) × List ℕ) MessageFault → Option MessageFault)
      (err : (d : MessageFault) → probe (Err d) ≡ Some d) (ends : (b : Node × Phase) (others : List ℕ)
      → probe (Ok (b, others)) ≡ k others) where
    abbrev from_node : Phase → Reader MessageFault (Node × Phase)
    from_node phase = whole total node >>= (λ n. says (n, phase))

    node_probed : (phase : Phase) (rest : List ℕ) → probe (from_node phase rest) ≡ field_then total (BoundNode after)
        (λ _. k) rest
    node_probed phase rest =
        field_probed probe err 20 (Truncated (total - length rest)) node_in rest (λ n. says (n, phase)) (λ _. None)
        (λ _. k) (λ n others. ends (node_in n, phase) others)

    bound_probed : (rest : List ℕ) → probe (bound_at total rest) ≡ field_then total (PhaseNumber after)
        (λ _. field_then total (BoundNode after) (λ _. k)) rest
    unfolding bound_at
    bound_probed rest =
        field_probed probe err 4 (Truncated (total - length rest)) value rest
        (λ number. yields (numbered_phase number) >>= from_node)
        (own (PhaseNumber after) (total - length rest)) (λ _. field_then total (BoundNode after) (λ _. k))
        (λ bytes others. yields_probed probe err (numbered_phase (value bytes)) others from_node
        (field_then total (BoundNode after) (λ _. k) others) (λ phase. node_probed phase others))

  bounds_probed : (after index : ℕ) (probe : Result (List (Node × Phase) × List ℕ) MessageFault → Option MessageFault)
      → ((d : MessageFault) → probe (Err d) ≡ Some d)
      → ((bs : List (Node × Phase)) (others : List ℕ) → probe (Ok (bs, others)) ≡ bounds_then total zero others)
      → (rest : List ℕ) → probe (counted (λ _. bound_at total) index after rest) ≡ bounds_then total after rest
  unfolding counted
  bounds_probed zero index probe err ends rest = ends [] rest
  bounds_probed (suc after) index probe err ends rest =
      bound_probed after (bounds_then total after) (λ r. probe
      (and_then r (λ b. counted (λ _. bound_at total) (suc index) after >>= (λ bs. says (b ∷ bs))))) err
      (λ b others. bounds_probed after (suc index) (λ r. probe (and_then r (λ bs. says (b ∷ bs)))) err
      (λ bs others. ends (b ∷ bs) others) others)
      rest

  -- ---- the store, behind which nothing follows

  abbrev ended_refusal : Result (MessageValue × List ℕ) MessageFault → Option MessageFault
  ended_refusal r = refusal (ended r)

  end_probed : (m : MessageValue) (rest : List ℕ) → ended_refusal (Ok (m, rest)) ≡ end_told rest
  end_probed m rest = by (eqb (length rest) 0)
    where
      by : (b : Bool) → refusal (cond b (Ok m) (Err Trailing)) ≡ unless b Trailing
      by true = refl
      by false = refl

  module _ (scope : Scope) (changesets : List Contents) (bounds : List (Node × Phase)) where
    abbrev with_markers : List Fields → Reader MessageFault MessageValue
    with_markers markers = says (record { scope = scope; changesets = changesets; bounds = bounds; markers = markers })

    abbrev in_store : Result (List Fields × List ℕ) MessageFault → Option MessageFault
    in_store r = ended_refusal (and_then r with_markers)

    markers_probed : (r : Result (List Fields) MessageFault) (rest : List ℕ)
        → in_store ((yields r >>= (λ markers. says markers)) rest) ≡ option_or (refusal r) (end_told rest)
    markers_probed r rest =
        yields_probed in_store (λ d. refl) r rest (λ markers. says markers) (end_told rest)
        (λ markers. end_probed
        (record { scope = scope; changesets = changesets; bounds = bounds; markers = markers }) rest)

    store_probed : (len : ℕ) (rest : List ℕ) → in_store (here total (store_in len) rest) ≡ store_then total len rest
    store_probed len rest =
        field_probed in_store (λ d. refl) len (Truncated (total - length rest)) (λ bytes. bytes) rest
        (λ bytes. yields (told_in (total - length rest) (store_at bytes)) >>= (λ markers. says markers))
        (own (Store len) (total - length rest)) (λ _. end_told)
        (λ bytes others. markers_probed (told_in (total - length rest) (store_at bytes)) others)

    abbrev from_store_length : Reader MessageFault MessageValue
    from_store_length = whole total number >>= (λ len. here total (store_in len) >>= with_markers)

    store_length_probed : (rest : List ℕ) → ended_refusal (from_store_length rest) ≡ bounds_then total zero rest
    store_length_probed rest =
        field_probed ended_refusal (λ d. refl) 4 (Truncated (total - length rest)) value rest
        (λ len. here total (store_in len) >>= with_markers)
        (λ _. None) (λ bytes. store_then total (value bytes)) (λ bytes others. store_probed (value bytes) others)

  module _ (scope : Scope) (changesets : List Contents) where
    abbrev from_bounds : ℕ → Reader MessageFault MessageValue
    from_bounds entries =
        counted (λ _. bound_at total) 0 entries >>= (λ bounds. from_store_length scope changesets bounds)

    abbrev from_entries : Reader MessageFault MessageValue
    from_entries = whole total number >>= from_bounds

    entries_probed : (rest : List ℕ) → ended_refusal (from_entries rest) ≡ entries_then total rest
    entries_probed rest =
        field_probed ended_refusal (λ d. refl) 4 (Truncated (total - length rest)) value rest from_bounds
        (λ _. None) (λ bytes. bounds_then total (value bytes))
        (λ bytes others. bounds_probed (value bytes) 0 (λ r. ended_refusal
        (and_then r (λ bounds. from_store_length scope changesets bounds))) (λ d. refl)
        (λ bounds rest. store_length_probed scope changesets bounds rest) others)

  abbrev from_records : Scope → ℕ → Reader MessageFault MessageValue
  from_records scope count =
      counted (record_at total) 0 count >>= (λ changesets. from_entries scope changesets)

  abbrev from_count : Scope → Reader MessageFault MessageValue
  from_count scope = whole total number >>= from_records scope

  count_probed : (scope : Scope) (rest : List ℕ) → ended_refusal (from_count scope rest) ≡ count_then total rest
  count_probed scope rest =
      field_probed ended_refusal (λ d. refl) 4 (Truncated (total - length rest)) value rest (from_records scope)
      (λ _. None) (λ bytes. records_then total 0 (value bytes))
      (λ bytes others. records_probed (value bytes) 0 (λ r. ended_refusal
      (and_then r (λ changesets. from_entries scope changesets))) (λ d. refl)
      (λ changesets rest. entries_probed scope changesets rest) others)

  -- ---- the version and the scope

  byte_is : (d : MessageFault) (rest : List ℕ) → byte d rest ≡ cond (ltb (length rest) 1) (Err d)
      (Ok (get_or (take 1 rest) 0 0, drop 1 rest))
  byte_is d [] = refl
  byte_is d (b ∷ rest) = rw (le-ltb (length (b ∷ rest)) 1 (omega arith)) refl

  abbrev in_scope : Result (Scope × List ℕ) MessageFault → Option MessageFault
  in_scope r = ended_refusal (and_then r from_count)

  abbrev from_scope : ℕ → Reader MessageFault Scope
  from_scope n = yields (numbered_scope n) >>= (λ scope. says scope)

  scope_probed : (rest : List ℕ) → in_scope (scope_at total rest) ≡ scope_then total rest
  unfolding scope_at
  scope_probed rest =
      ap (λ (r : Result (ℕ × List ℕ) MessageFault). in_scope (and_then r from_scope))
      (byte_is (Truncated (total - length rest)) rest)
      ∙ field_probed in_scope (λ d. refl) 1 (Truncated (total - length rest)) (λ bytes. get_or bytes 0 0) rest
      from_scope (own ScopeNumber (total - length rest)) (λ _. count_then total)
      (λ bytes others. yields_probed in_scope (λ d. refl) (numbered_scope (get_or bytes 0 0)) others
      (λ scope. says scope) (count_then total others) (λ scope. count_probed scope others))

  scope_by_probed : (first : Bool) (rest : List ℕ)
      → in_scope (cond first (Ok (Served, rest)) (scope_at total rest)) ≡ scope_by total first rest
  scope_by_probed true rest = count_probed Served rest
  scope_by_probed false rest = scope_probed rest

  abbrev behind_version : ℕ → Reader MessageFault MessageValue
  behind_version version = scope_of total version >>= from_count

  abbrev after_version : ℕ → Reader MessageFault MessageValue
  after_version version = wants (is_version version) BadVersion >>= (λ _. behind_version version)

  abbrev from_version : Reader MessageFault MessageValue
  from_version = whole total byte >>= after_version

  behind_version_probed : (version : ℕ) (rest : List ℕ)
      → ended_refusal (behind_version version rest) ≡ scope_by total (eqb version 1) rest
  unfolding scope_of
  behind_version_probed version rest = scope_by_probed (eqb version 1) rest

  version_probed : (rest : List ℕ) → ended_refusal (from_version rest) ≡ version_then total rest
  version_probed rest =
      ap (λ (r : Result (ℕ × List ℕ) MessageFault). ended_refusal (and_then r after_version))
      (byte_is (Truncated (total - length rest)) rest)
      ∙ field_probed ended_refusal (λ d. refl) 1 (Truncated (total - length rest))
      (λ bytes. get_or bytes 0 0) rest after_version
      (own Version (total - length rest)) (λ bytes. scope_by total (eqb (get_or bytes 0 0) 1))
      (λ bytes others.
      wants_probed ended_refusal (λ d. refl) (is_version (get_or bytes 0 0)) BadVersion others
      (λ _. behind_version (get_or bytes 0 0))
      ∙ ap (option_or (unless (is_version (get_or bytes 0 0)) BadVersion))
      (behind_version_probed (get_or bytes 0 0) others))

  all_probed : (rest : List ℕ) → ended_refusal (parts_at total rest) ≡ all_then total rest
  unfolding parts_at
  all_probed rest =
      field_probed ended_refusal (λ d. refl) 4 (Truncated (total - length rest)) value rest
      (λ magic. wants (eqb magic magic_number) BadMagic >>= (λ _. from_version))
      (own Magic (total - length rest)) (λ _. version_then total)
      (λ bytes others.
      wants_probed ended_refusal (λ d. refl) (eqb (value bytes) magic_number) BadMagic others (λ _. from_version)
      ∙ ap (option_or (unless (eqb (value bytes) magic_number) BadMagic)) (version_probed others))

-- ---- the first fault

refusal_is : (r : Result MessageValue MessageFault) (f : MessageFault) → refusal r ≡ Some f → r ≡ Err f
refusal_is (Ok m) f e = absurd (none-some f e)
refusal_is (Err g) f e = ap (λ (h : MessageFault). Err h) (same_Some g f e)

-- the fault that is met is the first one of the bytes
pub fault_is_first : (bytes : List ℕ) (f : MessageFault) → IsBytes bytes → message_at bytes ≡ Err f
    → IsMessageFault bytes f
fault_is_first bytes f fits e =
    let met : all_then (length bytes) bytes ≡ Some f = sym (all_probed (length bytes) bytes)
    ∙ ap (λ (r : Result MessageValue MessageFault). refusal r) e in
    let h = (explains_all (length bytes)).found bytes f fits (omega arith) met in
    let front : length bytes - length bytes ≡ 0 = omega arith in
    record { fields = h.0; first = subst (λ (place : ℕ). FaultAfter h.0 Magic place bytes f) front h.1 }

-- the first fault of the bytes is met
pub first_fault_is_met : (bytes : List ℕ) (f : MessageFault) → IsBytes bytes → IsMessageFault bytes f
    → message_at bytes ≡ Err f
first_fault_is_met bytes f fits h =
    let front : 0 ≡ length bytes - length bytes = omega arith in
    refusal_is (message_at bytes) f
    (all_probed (length bytes) bytes
    ∙ (explains_all (length bytes)).so h.fields bytes f fits (omega arith)
    (subst (λ (place : ℕ). FaultAfter h.fields Magic place bytes f) front h.first))

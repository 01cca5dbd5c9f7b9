-- The fault of one field of a message, as it is tried.
use Rattle.std.proofs.Common.{◌≡◌, ◌≢◌, ◌<◌, ◌⊎◌, inl, inr, ℕ, Bool, true, false, cond, not, eqb, List, [], ◌∷◌, length}
use Rattle.std.proofs.Common.{get_or, Option, Some, None, Result, Ok, Err, true≢false, refl, sym, ap, ◌∙◌, arith}
use Rattle.std.specs.Prelude.{nat_le, ◌&&◌}
use Rattle.std.specs.Cmp.{unsigned_Decides}
use Rattle.std.specs.Option.{option_or}
use Rattle.std.specs.Result.{MatchResult}
use Rattle.std.proofs.lemmas.Bool.{cases_lt, le-leb, false_from_ne_true, or_parts, or_from}
use Rattle.std.proofs.lemmas.Option.{none-some, same_Some}
use Rattle.hex.specs.Hex.{IsBytes}
use Rattle.hg_changeset.specs.declared.node.Node.{Node}
use Rattle.hg_changeset.specs.Node.{null_node, node_eq}
use Rattle.hg_changeset.specs.Same.{node_eq_decides}
use Rattle.hg_changeset.specs.Changeset.{node_of, is_given_twice, text_limit}
use Rattle.hg_marker.specs.Fields.{Fields}
use Rattle.hg_phases.specs.declared.phase.Phase.TheVariants.{Public, Draft, Secret}
use Rattle.hg_obsstore.specs.declared.fault.StoreFault.{StoreFault}
use Rattle.hg_obsstore.specs.declared.fault.StoreFault.TheVariants as faults
use Rattle.hg_obsstore.specs.Faults.{store_at, IsStoreFault}
use Rattle.hg_obsstore.specs.Spelling.{IsStoreSpelling}
use Rattle.hg_obsstore.proofs.FormatLemmas.{store_told, store_refused}
use Rattle.hg_message.specs.declared.error.MessageFault.{MessageFault}
use Rattle.hg_message.specs.declared.error.MessageFault.TheVariants.{BadMagic, BadVersion, HashMismatch, BadParents}
use Rattle.hg_message.specs.declared.error.MessageFault.TheVariants.{BadPhase, TextTooLong, BadScope}
use Rattle.hg_message.specs.Record.{RecordFields, contents_of, is_named}
use Rattle.hg_message.specs.Bound.{numbered_phase}
use Rattle.hg_message.specs.Message.{magic_number, told_in}
use Rattle.hg_message.specs.FirstFault.{Field, value, width, IsMisnamed, HasFault}
use Rattle.hg_message.specs.FirstFault.Field.{Magic, Version, Count, Id, FirstParent, SecondParent, TextLength, Text}
use Rattle.hg_message.specs.FirstFault.Field.{Entries, PhaseNumber, BoundNode, StoreLength, Store, End, ScopeNumber}
use Rattle.hg_message.specs.declared.scope.Scope.TheVariants.{Served, Whole}
use Rattle.hg_message.specs.Scope.{numbered_scope, is_version}

-- the fault of what was read, where there is one
abbrev pub refusal : {A : Type 0} → Result A MessageFault → Option MessageFault
refusal (Ok x) = None
refusal (Err fault) = Some fault

-- ---- the fault of a field's bytes, as it is tried

abbrev pub unless : Bool → MessageFault → Option MessageFault
unless fine fault = cond fine None (Some fault)

abbrev pub own : Field → ℕ → List ℕ → Option MessageFault
own Magic place bytes = unless (eqb (value bytes) magic_number) BadMagic
own Version place bytes = unless (is_version (get_or bytes 0 0)) BadVersion
own ScopeNumber place bytes = refusal (numbered_scope (get_or bytes 0 0))
own Count place bytes = None
own (Id index after) place bytes = None
own (FirstParent index after n) place bytes = None
own (SecondParent index after n p) place bytes = None
own (TextLength index after n p q) place bytes = unless (nat_le (value bytes) text_limit) (TextTooLong index)
own (Text index after n p q len) place bytes =
    option_or (unless (not (is_given_twice p q)) (BadParents index))
    (unless (is_named (record { id = n; p = p; q = q; text = bytes })) (HashMismatch index))
own Entries place bytes = None
own (PhaseNumber after) place bytes = refusal (numbered_phase (value bytes))
own (BoundNode after) place bytes = None
own StoreLength place bytes = None
own (Store len) place bytes = refusal (told_in place (store_at bytes))
own End place bytes = None

unless_told : (fine : Bool) (fault f : MessageFault) → unless fine fault ≡ Some f → (fine ≡ false) × (f ≡ fault)
unless_told true fault f e = absurd (none-some f e)
unless_told false fault f e = (refl, sym (same_Some fault f e))

unless_so : (fine : Bool) (fault f : MessageFault) → fine ≡ false → f ≡ fault → unless fine fault ≡ Some f
unless_so fine fault f fails is = rw (fails, is) refl

pub eqb_no : (a b : ℕ) → a ≢ b → eqb a b ≡ false
eqb_no a b apart = false_from_ne_true (eqb a b) (λ e. apart ((unsigned_Decides a b).0 e))

eqb_apart : (a b : ℕ) → eqb a b ≡ false → a ≢ b
eqb_apart a b differ e = true≢false (sym ((unsigned_Decides a b).1 e) ∙ differ)

-- ---- one byte

one_byte : (bytes : List ℕ) → length bytes ≡ 1 → bytes ≡ get_or bytes 0 0 ∷ []
one_byte [] e = absurd (omega (arith, e))
one_byte (b ∷ []) e = refl
one_byte (b ∷ c ∷ bytes) e = absurd (omega (arith, e))

byte_apart : (bytes : List ℕ) (b : ℕ) → get_or bytes 0 0 ≢ b → bytes ≢ b ∷ []
byte_apart bytes b apart e = apart (ap (λ (c : List ℕ). get_or c 0 0) e)

byte_no : (bytes : List ℕ) (b : ℕ) → length bytes ≡ 1 → bytes ≢ b ∷ [] → get_or bytes 0 0 ≢ b
byte_no bytes b len apart e = apart (one_byte bytes len ∙ ap (λ (c : ℕ). c ∷ []) e)

scope_told : (number : ℕ) (f : MessageFault) → refusal (numbered_scope number) ≡ Some f
    → (number ≢ 0) × (number ≢ 1) × (f ≡ BadScope)
scope_told number f e = by (eqb number 0) (eqb number 1) refl refl e
  where
    by : (a b : Bool) → eqb number 0 ≡ a → eqb number 1 ≡ b
        → refusal (cond a (Ok Served) (cond b (Ok Whole) (Err BadScope))) ≡ Some f
        → (number ≢ 0) × (number ≢ 1) × (f ≡ BadScope)
    by true b g h e = absurd (none-some f e)
    by false true g h e = absurd (none-some f e)
    by false false g h e = (eqb_apart number 0 g, eqb_apart number 1 h, sym (same_Some BadScope f e))

scope_so : (number : ℕ) (f : MessageFault) → number ≢ 0 → number ≢ 1 → f ≡ BadScope
    → refusal (numbered_scope number) ≡ Some f
scope_so number f some more e = rw (eqb_no number 0 some, eqb_no number 1 more, e) refl

-- ---- the text of a record, and with it the record

and_false : (a b : Bool) → (a && b) ≡ false → (a ≡ false) ⊎ (b ≡ false)
and_false true b e = inr e
and_false false b e = inl refl

not_false : (a : Bool) → not a ≡ false → a ≡ true
not_false true e = refl
not_false false e = absurd (true≢false e)

not_so : (p q : Node) → p ≢ q → node_eq p q ≡ false
not_so p q apart = false_from_ne_true (node_eq p q) (λ e. apart ((node_eq_decides p q).0 e))

are_apart : (p q : Node) → node_eq p q ≡ false → p ≢ q
are_apart p q differ e = true≢false (sym ((node_eq_decides p q).1 e) ∙ differ)

twice_told : (p q : Node) → not (is_given_twice p q) ≡ false → (p ≡ q) × (p ≢ null_node)
twice_told p q given = by (node_eq p q) (node_eq p null_node) refl refl given
  where
    by : (a b : Bool) → node_eq p q ≡ a → node_eq p null_node ≡ b → not (a && not b) ≡ false → (p ≡ q) × (p ≢ null_node)
    by true false e g h = ((node_eq_decides p q).0 e, are_apart p null_node g)
    by true true e g h = absurd (true≢false h)
    by false b e g h = absurd (true≢false h)

twice_so : (p q : Node) → p ≡ q → p ≢ null_node → not (is_given_twice p q) ≡ false
twice_so p q same some = rw ((node_eq_decides p q).1 same, not_so p null_node some) refl

once_told : (p q : Node) → not (is_given_twice p q) ≡ true → p ≡ q → p ≡ null_node
once_told p q fine same = by (node_eq p null_node) refl
  where
    by : (b : Bool) → node_eq p null_node ≡ b → p ≡ null_node
    by true e = (node_eq_decides p null_node).0 e
    by false e = absurd (true≢false (sym fine ∙ twice_so p q same (are_apart p null_node e)))

once_so : (p q : Node) → (p ≡ q → p ≡ null_node) → not (is_given_twice p q) ≡ true
once_so p q once = by (not (is_given_twice p q)) refl
  where
    by : (b : Bool) → not (is_given_twice p q) ≡ b → b ≡ true
    by true e = refl
    by false e = let t = twice_told p q e in absurd (t.1 (once t.0))

misnamed_told : (f : RecordFields) → is_named f ≡ false → IsMisnamed f.id (contents_of f)
misnamed_told f fails =
    elim (and_false (node_eq (node_of (contents_of f)) f.id) (not (node_eq (node_of (contents_of f)) null_node))
    fails) [
      | inl other ↦ inl (are_apart (node_of (contents_of f)) f.id other)
      | inr absent ↦ by_id (node_eq (node_of (contents_of f)) f.id) refl
          ((node_eq_decides (node_of (contents_of f)) null_node).0 (not_false _ absent))
    ]
  where
    by_id : (b : Bool) → node_eq (node_of (contents_of f)) f.id ≡ b → node_of (contents_of f) ≡ null_node
        → IsMisnamed f.id (contents_of f)
    by_id true e absent = inr (sym ((node_eq_decides (node_of (contents_of f)) f.id).0 e) ∙ absent)
    by_id false e absent = inl (are_apart (node_of (contents_of f)) f.id e)

misnamed_so : (f : RecordFields) → IsMisnamed f.id (contents_of f) → is_named f ≡ false
misnamed_so f (inl other) = rw (not_so (node_of (contents_of f)) f.id other) refl
misnamed_so f (inr absent) = by_id (node_eq (node_of (contents_of f)) f.id) refl
  where
    by_id : (b : Bool) → node_eq (node_of (contents_of f)) f.id ≡ b
        → (b && not (node_eq (node_of (contents_of f)) null_node)) ≡ false
    by_id true e = rw ((node_eq_decides (node_of (contents_of f)) null_node).1
        ((node_eq_decides (node_of (contents_of f)) f.id).0 e ∙ absent)) refl
    by_id false e = refl

text_told : (index after len place : ℕ) (n p q : Node) (bytes : List ℕ) (f : MessageFault)
    → own (Text index after n p q len) place bytes ≡ Some f → HasFault (Text index after n p q len) place bytes f
text_told index after len place n p q bytes f e = by (not (is_given_twice p q)) refl e
  where
    by : (b : Bool) → not (is_given_twice p q) ≡ b
        → option_or (unless b (BadParents index)) (unless (is_named (record { id = n; p = p; q = q; text = bytes }))
        (HashMismatch index)) ≡ Some f
        → HasFault (Text index after n p q len) place bytes f
    by true once e =
        let t = unless_told (is_named (record { id = n; p = p; q = q; text = bytes })) (HashMismatch index) f e in
        inr (once_told p q once, misnamed_told (record { id = n; p = p; q = q; text = bytes }) t.0, t.1)
    by false twice e = let t = twice_told p q twice in inl (t.0, t.1, sym (same_Some (BadParents index) f e))

text_so : (index after len place : ℕ) (n p q : Node) (bytes : List ℕ) (f : MessageFault)
    → HasFault (Text index after n p q len) place bytes f → own (Text index after n p q len) place bytes ≡ Some f
text_so index after len place n p q bytes f (inl h) = rw (twice_so p q h.0 h.1, h.2) refl
text_so index after len place n p q bytes f (inr h) =
    rw (once_so p q h.0, misnamed_so (record { id = n; p = p; q = q; text = bytes }) h.1, h.2) refl

-- ---- the phase of a bound, and the store

phase_told : (number : ℕ) (f : MessageFault) → refusal (numbered_phase number) ≡ Some f → (2 < number) × (f ≡ BadPhase)
phase_told number f e = by (eqb number 0) (eqb number 1) (eqb number 2) refl refl refl e
  where
    by : (a b c : Bool) → eqb number 0 ≡ a → eqb number 1 ≡ b → eqb number 2 ≡ c
        → refusal (cond a (Ok Public) (cond b (Ok Draft) (cond c (Ok Secret) (Err BadPhase)))) ≡ Some f
        → (2 < number) × (f ≡ BadPhase)
    by true b c g h k e = absurd (none-some f e)
    by false true c g h k e = absurd (none-some f e)
    by false false true g h k e = absurd (none-some f e)
    by false false false g h k e =
        let above = eqb_apart number 0 g in
        let more = eqb_apart number 1 h in
        let most = eqb_apart number 2 k in
        (omega (arith, above, more, most), sym (same_Some BadPhase f e))

phase_so : (number : ℕ) (f : MessageFault) → 2 < number → f ≡ BadPhase → refusal (numbered_phase number) ≡ Some f
phase_so number f more e =
    rw (
      eqb_no number 0 (λ z. omega (arith, z, more)),
      eqb_no number 1 (λ z. omega (arith, z, more)),
      eqb_no number 2 (λ z. omega (arith, z, more)),
      e,
    ) refl

told_unit : (place : ℕ) (cause : StoreFault) (f : MessageFault)
    → refusal (told_in {A = List Fields} place (Err cause)) ≡ Some f → told_in {A = Unit {0}} place (Err cause) ≡ Err f
told_unit place (faults.BadVersion v) f e = ap (λ (g : MessageFault). Err g) (same_Some _ f e)
told_unit place (faults.Bad p c) f e = ap (λ (g : MessageFault). Err g) (same_Some _ f e)

told_list : (place : ℕ) (cause : StoreFault) (f : MessageFault) → told_in {A = Unit {0}} place (Err cause) ≡ Err f
    → refusal (told_in {A = List Fields} place (Err cause)) ≡ Some f
told_list place (faults.BadVersion v) f e = ap (λ (r : Result (Unit {0}) MessageFault). refusal r) e
told_list place (faults.Bad p c) f e = ap (λ (r : Result (Unit {0}) MessageFault). refusal r) e

store_is_told : (len place : ℕ) (bytes : List ℕ) (f : MessageFault) → IsBytes bytes
    → refusal (told_in place (store_at bytes)) ≡ Some f → HasFault (Store len) place bytes f
store_is_told len place bytes f fits e = by (store_at bytes) (store_told bytes fits) e
  where
    by : (r : Result (List Fields) StoreFault) → MatchResult r (λ ms. IsStoreSpelling ms bytes) (IsStoreFault bytes)
        → refusal (told_in place r) ≡ Some f → HasFault (Store len) place bytes f
    by (Ok ms) h e = absurd (none-some f e)
    by (Err cause) h e = (cause, h, told_unit place cause f e)

store_so : (len place : ℕ) (bytes : List ℕ) (f : MessageFault) → HasFault (Store len) place bytes f
    → refusal (told_in place (store_at bytes)) ≡ Some f
store_so len place bytes f h =
    ap (λ (r : Result (List Fields) StoreFault). refusal (told_in place r)) (store_refused bytes h.0 h.1)
    ∙ told_list place h.0 f h.2

-- ---- each field

pub own_told : (field : Field) (place : ℕ) (bytes : List ℕ) (f : MessageFault) → length bytes ≡ width field
    → IsBytes bytes → own field place bytes ≡ Some f → HasFault field place bytes f
own_told Magic place bytes f len fits e = let t = unless_told (eqb (value bytes) magic_number) BadMagic f e in
    (eqb_apart (value bytes) magic_number t.0, t.1)
own_told Version place bytes f len fits e =
    let version = get_or bytes 0 0 in
    let t = unless_told (is_version version) BadVersion f e in
    let neither = or_parts (eqb version 1) (eqb version 2) t.0 in (
      byte_apart bytes 1 (eqb_apart version 1 neither.0),
      byte_apart bytes 2 (eqb_apart version 2 neither.1),
      t.1,
    )
own_told ScopeNumber place bytes f len fits e =
    let t = scope_told (get_or bytes 0 0) f e in
    (byte_apart bytes 0 t.0, byte_apart bytes 1 t.1, t.2)
own_told Count place bytes f len fits e = none-some f e
own_told (Id index after) place bytes f len fits e = none-some f e
own_told (FirstParent index after n) place bytes f len fits e = none-some f e
own_told (SecondParent index after n p) place bytes f len fits e = none-some f e
own_told (TextLength index after n p q) place bytes f len fits e =
    let t = unless_told (nat_le (value bytes) text_limit) (TextTooLong index) f e in
    (longer (value bytes) text_limit t.0, t.1)
  where
    longer : (a b : ℕ) → nat_le a b ≡ false → b < a
    longer a b fails = elim (cases_lt b a) [ inl lt ↦ lt | inr le ↦ absurd (true≢false (sym (le-leb a b le) ∙ fails)) ]
own_told (Text index after n p q l) place bytes f len fits e = text_told index after l place n p q bytes f e
own_told Entries place bytes f len fits e = none-some f e
own_told (PhaseNumber after) place bytes f len fits e = phase_told (value bytes) f e
own_told (BoundNode after) place bytes f len fits e = none-some f e
own_told StoreLength place bytes f len fits e = none-some f e
own_told (Store l) place bytes f len fits e = store_is_told l place bytes f fits e
own_told End place bytes f len fits e = none-some f e

pub own_so : (field : Field) (place : ℕ) (bytes : List ℕ) (f : MessageFault) → length bytes ≡ width field
    → HasFault field place bytes f → own field place bytes ≡ Some f
own_so Magic place bytes f len h = unless_so (eqb (value bytes) magic_number) BadMagic f
    (eqb_no (value bytes) magic_number h.0) h.1
own_so Version place bytes f len h =
    let version = get_or bytes 0 0 in
    unless_so (is_version version) BadVersion f
    (or_from (eqb version 1) (eqb version 2) (eqb_no version 1 (byte_no bytes 1 len h.0))
    (eqb_no version 2 (byte_no bytes 2 len h.1))) h.2
own_so ScopeNumber place bytes f len h =
    scope_so (get_or bytes 0 0) f (byte_no bytes 0 len h.0) (byte_no bytes 1 len h.1) h.2
own_so Count place bytes f len h = absurd h
own_so (Id index after) place bytes f len h = absurd h
own_so (FirstParent index after n) place bytes f len h = absurd h
own_so (SecondParent index after n p) place bytes f len h = absurd h
own_so (TextLength index after n p q) place bytes f len h = unless_so (nat_le (value bytes) text_limit)
    (TextTooLong index) f (no_more (value bytes) text_limit h.0) h.1
  where
    no_more : (a b : ℕ) → b < a → nat_le a b ≡ false
    no_more a b lt = grind arith
own_so (Text index after n p q l) place bytes f len h = text_so index after l place n p q bytes f h
own_so Entries place bytes f len h = absurd h
own_so (PhaseNumber after) place bytes f len h = phase_so (value bytes) f h.0 h.1
own_so (BoundNode after) place bytes f len h = absurd h
own_so StoreLength place bytes f len h = absurd h
own_so (Store l) place bytes f len h = store_so l place bytes f h
own_so End place bytes f len h = absurd h

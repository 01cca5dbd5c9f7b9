-- A message whose parts stand apart.
use Rattle.std.proofs.Common.{◌≡◌, ℕ, suc, zero, ◌+◌, ◌*◌, ◌≤◌, Bool, true, false, eqb, cond, List, [], ◌∷◌, ◌++◌}
use Rattle.std.proofs.Common.{length, Result, Ok, Err, refl, sym, ap, subst, ◌∙◌, arith, length-append}
use Rattle.std.proofs.Math.Nat.{mul-suc}
use Rattle.hex.specs.Hex.{IsBytes}
use Rattle.hg_changeset.specs.declared.node.Node.{Node}
use Rattle.hg_changeset.specs.Contents.{Contents}
use Rattle.hg_changeset.specs.Changeset.{node_of}
use Rattle.hg_marker.specs.Fields.{Fields}
use Rattle.hg_marker.specs.Reading.{Reader, and_then, says, yields, number, byte, field}
use Rattle.hg_marker.proofs.Formats.{and_then_ok, ok_is, IsBytes-right, IsFormat, IsNumber, number_format, byte_format}
use Rattle.hg_marker.proofs.Formats.{field_format}
use Rattle.hg_phases.specs.declared.phase.Phase.{Phase}
use Rattle.hg_phases.specs.State.{rank}
use Rattle.hg_message.specs.declared.error.MessageFault.{MessageFault}
use Rattle.hg_message.specs.declared.error.MessageFault.TheVariants.{Trailing}
use Rattle.hg_message.specs.declared.scope.Scope.{Scope}
use Rattle.hg_message.specs.Scope.{scope_of}
use Rattle.hg_message.specs.Value.{MessageValue}
use Rattle.hg_message.specs.Counted.{counted, first_of}
use Rattle.hg_message.specs.Record.{record_at}
use Rattle.hg_message.specs.Bound.{bound_at}
use Rattle.hg_message.specs.Message.{ended}
use Rattle.hg_message.specs.Spelling.{InOrder, IsRecord, IsBound, number as spelled}
use Rattle.hg_message.specs.Layout.{last_of, with_markers}
use Rattle.hg_message.proofs.FormatLemmas.{counted_format}
use Rattle.hg_message.proofs.RecordLemmas.{record_format}
use Rattle.hg_message.proofs.BoundLemmas.{bound_format}
use Rattle.hg_message.proofs.ScopeLemmas.{scope_of_format}

-- what is read last is the markers, behind which nothing follows
pub ends_alike : (scope : Scope) (changesets : List Contents) (bounds : List (Node × Phase))
    (r : Result (List Fields) MessageFault) (rest : List ℕ)
    → ended (and_then (and_then (yields r rest) (λ markers. says markers))
    (λ markers. says {A = MessageValue}
    (record { scope = scope; changesets = changesets; bounds = bounds; markers = markers })))
    ≡ with_markers scope changesets bounds (last_of r rest)
ends_alike scope changesets bounds (Err fault) rest = refl
ends_alike scope changesets bounds (Ok markers) rest = by_test (eqb (length rest) 0)
  where
    by_test : (b : Bool)
        → cond b (Ok (record { scope = scope; changesets = changesets; bounds = bounds; markers = markers }))
        (Err Trailing) ≡ with_markers scope changesets bounds (cond b (Ok markers) (Err Trailing))
    by_test true = refl
    by_test false = refl

-- so many parts are so many
pub counted_long : {F A : Type 0} (part : ℕ → Reader F A) (index n : ℕ) (bytes : List ℕ) (x : List A × List ℕ)
    → counted part index n bytes ≡ Ok x → length x.0 ≡ n
unfolding counted
counted_long {F} part index zero bytes x e = ap (λ (y : List _ × List ℕ). length y.0) (sym (ok_is F ([], bytes) x e))
counted_long {F} part index (suc n) bytes x e =
    let one = and_then_ok (part index bytes) (λ first. λ rest. and_then (counted part (suc index) n rest)
    (λ others. says (first ∷ others))) x e in
    let two = and_then_ok (counted part (suc index) n one.0.1) (λ others. says (one.0.0 ∷ others)) x one.2 in
    ap (λ (y : List _ × List ℕ). length y.0) (sym (ok_is F (one.0.0 ∷ two.0.0, two.0.1) x two.2))
    ∙ ap suc (counted_long part (suc index) n one.0.1 two.0 two.1)

first_ok : {F A : Type 0} (r : Result (A × List ℕ) F) (x : A) → first_of r ≡ Ok x
    → (y : A × List ℕ) × (r ≡ Ok y) × (y.0 ≡ x)
first_ok {F} (Ok y) x e = (y, refl, ok_is F y.0 x e)
first_ok (Err fault) x e = absurd cc

pub first_long : {F A : Type 0} (part : ℕ → Reader F A) (index n : ℕ) (bytes : List ℕ) (xs : List A)
    → first_of (counted part index n bytes) ≡ Ok xs → length xs ≡ n
first_long part index n bytes xs e =
    let read = first_ok (counted part index n bytes) xs e in
    ap length (sym read.2) ∙ counted_long part index n bytes read.0 read.1

-- ---- how many bytes the parts take

IsRecord-long : (c : Contents) (bytes : List ℕ) → IsRecord c bytes → 64 ≤ length bytes
IsRecord-long c bytes s = omega (
  arith,
  ap length s.layout,
  s.ids.0.0,
  s.ids.1.0,
  s.ids.2.0,
  length-append (node_of c).0 (s.p.0 ++ (s.q.0 ++ (spelled (length s.text) ++ s.text))),
  length-append s.p.0 (s.q.0 ++ (spelled (length s.text) ++ s.text)),
  length-append s.q.0 (spelled (length s.text) ++ s.text),
  length-append (spelled (length s.text)) s.text,
)

IsBound-long : (b : Node × Phase) (bytes : List ℕ) → IsBound b bytes → 24 ≤ length bytes
IsBound-long b bytes s = omega (arith, ap length s.1, s.0.0, length-append (spelled (rank b.1)) b.0.0)

each_long : {A : Type 0} (S : A → List ℕ → Type 0) (k : ℕ) → ((x : A) (bytes : List ℕ) → S x bytes → k ≤ length bytes)
    → (xs : List A) (bytes : List ℕ) → InOrder S xs bytes → k * length xs ≤ length bytes
each_long S k one [] bytes h = omega arith
each_long S k one (x ∷ xs) bytes h =
    let others = each_long S k one xs h.1 h.3 in
    let first = one x h.0 h.2 in
    let more : k * length (x ∷ xs) ≡ k * length xs + k = mul-suc k (length xs) in
    omega (arith, ap length h.4, length-append h.0 h.1, others, first, more)

-- what was read, and that the bytes after it fit
record Read (k : ℕ) (bytes rest : List ℕ) : Type 0 where
  long : k + length rest ≤ length bytes
  fits : IsBytes rest

taken_long : {F A : Type 0} {r : Reader F A} {S : A → List ℕ → Type 0} (k : ℕ) → IsFormat r S
    → (bytes : List ℕ) (x : A) (rest : List ℕ) → IsBytes bytes → r bytes ≡ Ok (x, rest)
    → ((front : List ℕ) → S x front → k ≤ length front) → Read k bytes rest
taken_long k h bytes x rest fits e long =
    let t = h.takes bytes x rest fits e in
    record {
      long = omega (arith, long t.front t.spells, ap length t.parts, length-append t.front rest);
      fits = IsBytes-right t.front rest (subst IsBytes t.parts fits);
    }

pub parts_long : (d1 d2 d3 d4 d5 d6 : MessageFault) (total magic version count entries len : ℕ) (scope : Scope)
    (bytes r1 r2 r3 records r4 bounds r5 r6 store rest : List ℕ) (cs : List Contents) (bs : List (Node × Phase))
    → IsBytes bytes
    → number d1 bytes ≡ Ok (magic, r1) → byte d2 r1 ≡ Ok (version, r2) → scope_of total version r2 ≡ Ok (scope, r3)
    → number d3 r3 ≡ Ok (count, records)
    → counted (record_at total) 0 count records ≡ Ok (cs, r4) → number d4 r4 ≡ Ok (entries, bounds)
    → counted (λ _. bound_at total) 0 entries bounds ≡ Ok (bs, r5) → number d5 r5 ≡ Ok (len, r6)
    → field d6 len r6 ≡ Ok (store, rest) → 17 + 64 * count + 24 * entries + length store ≤ length bytes
parts_long d1 d2 d3 d4 d5 d6 total magic version count entries len scope bytes r1 r2 r3 records r4 bounds r5 r6 store
    rest cs bs fits a b s c e f g h k =
    let four : (n : ℕ) (front : List ℕ) → IsNumber n front → 4 ≤ length front =
    λ n front s. omega (arith, ap length s.same) in
    let p1 = taken_long 4 (number_format d1) bytes magic r1 fits a (four magic) in
    let p2 = taken_long 1 (byte_format d2) r1 version r2 p1.fits b (λ front s. omega (arith, ap length s.same)) in
    let p0 = taken_long 0 (scope_of_format total version) r2 scope r3 p2.fits s (λ front told. omega arith) in
    let p3 = taken_long 4 (number_format d3) r3 count records p0.fits c (four count) in
    let p4 = taken_long (64 * count) (counted_format (record_at total) (record_format total) 0 count) records cs r4
    p3.fits e (λ front s. rw (← s.len) (each_long IsRecord 64 IsRecord-long cs front s.each)) in
    let p5 = taken_long 4 (number_format d4) r4 entries bounds p4.fits f (four entries) in
    let p6 = taken_long (24 * entries) (counted_format (λ _. bound_at total) (λ _. bound_format total) 0 entries)
    bounds bs r5 p5.fits g (λ front s. rw (← s.len) (each_long IsBound 24 IsBound-long bs front s.each)) in
    let p7 = taken_long 4 (number_format d5) r5 len r6 p6.fits h (four len) in
    let p8 = taken_long (length store) (field_format d6 len) r6 store rest p7.fits k
    (λ front s. omega (arith, ap length s.same)) in
    omega (arith, p1.long, p2.long, p0.long, p3.long, p4.long, p5.long, p6.long, p7.long, p8.long)

-- A reader and the spellings that it reads: what it takes from the front is a spelling, and a spelling is read again.
use Rattle.std.proofs.Common.{◌≡◌, ℕ, zero, suc, ◌+◌, ◌^◌, ◌<◌, ◌≤◌, Bool, true, false, cond, ltb, List, [], ◌∷◌, ◌++◌}
use Rattle.std.proofs.Common.{length, take, drop, Result, Ok, Err, refl, sym, ap, subst, ◌∙◌, append_assoc, arith, inl}
use Rattle.std.proofs.Common.{inr}
use Rattle.std.specs.Int.{w32, from_be_bytes, to_be_bytes}
use Rattle.std.specs.List.{flat_map, AllByRecursion}
use Rattle.std.proofs.lemmas.Bool.{cases_lt, ltb-false, le-ltb}
use Rattle.std.proofs.lemmas.List.{take_at, drop_at, take-append-drop, length-append, length-take, get_or-take}
use Rattle.std.proofs.lemmas.List.{get_or_past, get_or-append-add}
use Rattle.std.proofs.lemmas.List.Concat.{flat_map-cons}
use Rattle.std.proofs.lemmas.Nat.{be_bytes_4, from_be_bytes-to_be_bytes_4}
use Rattle.hex.specs.Hex.{IsBytes}
use Rattle.hg_changeset.specs.declared.node.Node.{Node}
use Rattle.hg_changeset.specs.Node.{IsNode}
use Rattle.hg_marker.specs.Reading.{Reader, and_then, ◌>>=◌, says, wants, yields, field, number, byte, node, nodes}

pub IsBytes-right : (a b : List ℕ) → IsBytes (a ++ b) → IsBytes b
IsBytes-right a b h i = rw (← get_or-append-add a b i 0) (h (length a + i))

pub IsBytes-take : (n : ℕ) (bytes : List ℕ) → IsBytes bytes → IsBytes (take n bytes)
IsBytes-take n bytes h i =
    elim (cases_lt i n) [
      | inl lt ↦ rw (get_or-take n bytes i 0 lt) (h i)
      | inr le ↦ rw (get_or_past (take n bytes) i 0 (omega (arith, length-take n bytes))) (omega arith)
    ]

-- what was taken from the front of the bytes
pub record Takes {A : Type 0} (S : A → List ℕ → Type 0) (bytes : List ℕ) (x : A) (rest : List ℕ) : Type 0 where
  pub front : List ℕ
  pub spells : S x front
  pub parts : bytes ≡ front ++ rest

pub record IsFormat {F A : Type 0} (r : Reader F A) (S : A → List ℕ → Type 0) : Type 0 where
  pub takes : (bytes : List ℕ) (x : A) (rest : List ℕ) → IsBytes bytes → r bytes ≡ Ok (x, rest) → Takes S bytes x rest
  pub again : (x : A) (front rest : List ℕ) → S x front → r (front ++ rest) ≡ Ok (x, rest)

-- a spelling of x, and then a spelling by what x says
pub record Sequence {A B : Type 0} (S : A → List ℕ → Type 0) (T : A → B → List ℕ → Type 0) (y : B)
    (bytes : List ℕ) : Type 0 where
  pub first : A
  pub front : List ℕ
  pub back : List ℕ
  pub first_spells : S first front
  pub rest_spells : T first y back
  pub parts : bytes ≡ front ++ back

pub and_then_ok : {F A B : Type 0} (r : Result (A × List ℕ) F) (f : A → Reader F B) (y : B × List ℕ)
    → and_then r f ≡ Ok y → (x : A × List ℕ) × (r ≡ Ok x) × (f x.0 x.1 ≡ Ok y)
and_then_ok (Ok x) f y e = (x, refl, e)
and_then_ok (Err d) f y e = absurd cc

pub sequence : {F A B : Type 0} {r : Reader F A} {S : A → List ℕ → Type 0} {f : A → Reader F B} {T : A → B → List ℕ
    → Type 0} → IsFormat r S → ((x : A) → IsFormat (f x) (T x)) → IsFormat (r >>= f) (Sequence S T)
sequence {r = r} {f = f} h k = record {
  takes = λ bytes y rest fits e.
      let one = and_then_ok (r bytes) f (y, rest) e in
      let a = h.takes bytes one.0.0 one.0.1 fits one.1 in
      let fits' = IsBytes-right a.front one.0.1 (subst IsBytes a.parts fits) in
      let b = (k one.0.0).takes one.0.1 y rest fits' one.2 in
      record {
        front = a.front ++ b.front;
        spells = record {
          first = one.0.0;
          front = a.front;
          back = b.front;
          first_spells = a.spells;
          rest_spells =
              b.spells;
          parts = refl;
        };
        parts = a.parts ∙ ap (λ (t : List ℕ). a.front ++ t) b.parts ∙ sym (append_assoc a.front b.front rest);
      };
  again = λ y front rest s.
      let split : front ++ rest ≡ s.front ++ (s.back ++ rest) =
      ap (λ (t : List ℕ). t ++ rest) s.parts ∙ append_assoc s.front s.back rest in
      ap (r >>= f) split ∙ ap (λ v. and_then v f) (h.again s.first s.front (s.back ++ rest) s.first_spells)
      ∙ (k s.first).again y s.back rest s.rest_spells;
}

abbrev pub done : {A : Type 0} → (F : Type 0) → A → Result A F
done F x = Ok x

pub ok_is : {A : Type 0} (F : Type 0) (x y : A) → done F x ≡ done F y → x ≡ y
ok_is F x y e = cc

-- where a field is whole
guard_ok : {F A : Type 0} (b : Bool) (d : F) (x y : A) → cond b (Err d) (Ok x) ≡ Ok y → (b ≡ false) × (x ≡ y)
guard_ok true d x y e = absurd cc
guard_ok false d x y e = (refl, cc)

abbrev pub SaysOnly : {A : Type 0} → A → A → List ℕ → Type 0
SaysOnly x y front = (y ≡ x) × (front ≡ [])

pub says_format : {F A : Type 0} (x : A) → IsFormat {F = F} (says x) (SaysOnly x)
says_format {F = F} x = record {
  takes = λ bytes y rest fits e. let p = ok_is F (x, bytes) (y, rest) e in
      record { front = []; spells = (sym (ap (λ q. q.0) p), refl); parts = ap (λ q. q.1) p };
  again = λ y front rest s. rw (s.1, s.0) refl;
}

-- a test that must hold
abbrev pub Wanted : Bool → Unit {0} → List ℕ → Type 0
Wanted b u front = (b ≡ true) × (front ≡ [])

wanted_ok : {F : Type 0} (b : Bool) (d : F) (bytes : List ℕ) (x : Unit {0}) (rest : List ℕ)
    → wants b d bytes ≡ Ok (x, rest) → (b ≡ true) × (bytes ≡ rest)
wanted_ok {F = F} true d bytes x rest e = (refl, ap (λ q. q.1) (ok_is F (tt {0}, bytes) (x, rest) e))
wanted_ok false d bytes x rest e = absurd cc

pub wants_format : {F : Type 0} (b : Bool) (d : F) → IsFormat (wants b d) (Wanted b)
wants_format b d = record {
  takes = λ bytes x rest fits e. let p = wanted_ok b d bytes x rest e in
      record { front = []; spells = (p.0, refl); parts = p.1 };
  again = λ x front rest s. rw (s.1, s.0) refl;
}

abbrev pub Found : {F A : Type 0} → Result A F → A → List ℕ → Type 0
Found r x front = (r ≡ Ok x) × (front ≡ [])

found_ok : {F A : Type 0} (r : Result A F) (bytes : List ℕ) (x : A) (rest : List ℕ) → yields r bytes ≡ Ok (x, rest)
    → (r ≡ Ok x) × (bytes ≡ rest)
found_ok {F = F} (Ok y) bytes x rest e = let p = ok_is F (y, bytes) (x, rest) e in (ap (λ q. Ok q.0) p, ap (λ q. q.1) p)
found_ok (Err d) bytes x rest e = absurd cc

pub yields_format : {F A : Type 0} (r : Result A F) → IsFormat (yields r) (Found r)
yields_format r = record {
  takes = λ bytes x rest fits e. let p = found_ok r bytes x rest e in
      record { front = []; spells = (p.0, refl); parts = p.1 };
  again = λ x front rest s. rw (s.1, s.0) refl;
}

-- ---- fields

pub record IsField (n : ℕ) (x front : List ℕ) : Type 0 where
  pub len : length x ≡ n
  pub same : front ≡ x

field_ok : {F : Type 0} (d : F) (n : ℕ) (bytes x rest : List ℕ) → field d n bytes ≡ Ok (x, rest)
    → (length x ≡ n) × (bytes ≡ x ++ rest) × (x ≡ take n bytes)
field_ok {F = F} d n bytes x rest e =
    let g = guard_ok (ltb (length bytes) n) d (take n bytes, drop n bytes) (x, rest) e in
    let long : n ≤ length bytes = ltb-false _ _ g.0 in
    let x-is : take n bytes ≡ x = ap (λ (p : List ℕ × List ℕ). p.0) g.1 in
    let rest-is : drop n bytes ≡ rest = ap (λ (p : List ℕ × List ℕ). p.1) g.1 in (
      ap length (sym x-is) ∙ omega (arith, length-take n bytes),
      rw (← x-is, ← rest-is) (sym (take-append-drop n bytes)),
      sym x-is,
    )

field_again : {F : Type 0} (d : F) (n : ℕ) (x rest : List ℕ) → length x ≡ n → field d n (x ++ rest) ≡ Ok (x, rest)
field_again d n x rest len =
    rw (
      le-ltb (length (x ++ rest)) n (omega (arith, length-append x rest, len)),
      take_at x rest n len,
      drop_at x rest n len,
    ) refl

pub field_format : {F : Type 0} (d : F) (n : ℕ) → IsFormat (field d n) (IsField n)
field_format d n = record {
  takes = λ bytes x rest fits e. let p = field_ok d n bytes x rest e in
      record { front = x; spells = record { len = p.0; same = refl }; parts = p.1 };
  again = λ x front rest s. rw s.same (field_again d n x rest s.len);
}

pub record IsByte (b : ℕ) (front : List ℕ) : Type 0 where
  pub below : b < 256
  pub same : front ≡ b ∷ []

byte_takes : {F : Type 0} (d : F) (bytes : List ℕ) (b : ℕ) (rest : List ℕ) → IsBytes bytes → byte d bytes ≡ Ok (b, rest)
    → Takes IsByte bytes b rest
byte_takes d [] b rest fits e = absurd cc
byte_takes {F = F} d (c ∷ bytes) b rest fits e =
    let p = ok_is F (c, bytes) (b, rest) e in
    let c-is : c ≡ b = ap (λ (q : ℕ × List ℕ). q.0) p in
    record {
      front = b ∷ [];
      spells = record { below = rw (← c-is) (fits 0); same = refl };
      parts =
          ap (λ (q : ℕ × List ℕ). q.0 ∷ q.1) p;
    }

pub byte_format : {F : Type 0} (d : F) → IsFormat (byte d) IsByte
byte_format d = record {
  takes = byte_takes d;
  again = λ x front rest s. rw s.same refl;
}

pub record IsNumber (n : ℕ) (front : List ℕ) : Type 0 where
  pub below : n < 2 ^ 32
  pub same : front ≡ to_be_bytes w32 n

number_takes : {F : Type 0} (d : F) (bytes : List ℕ) (n : ℕ) (rest : List ℕ) → IsBytes bytes
    → number d bytes ≡ Ok (n, rest) → Takes IsNumber bytes n rest
number_takes d bytes n rest fits e =
    let g = guard_ok (ltb (length bytes) 4) d (from_be_bytes w32 (take 4 bytes), drop 4 bytes) (n, rest) e in
    let long : 4 ≤ length bytes = ltb-false _ _ g.0 in
    let n-is : from_be_bytes w32 (take 4 bytes) ≡ n = ap (λ (p : ℕ × List ℕ). p.0) g.1 in
    let rest-is : drop 4 bytes ≡ rest = ap (λ (p : ℕ × List ℕ). p.1) g.1 in
    let small = IsBytes-take 4 bytes fits in
    let front : to_be_bytes w32 n ≡ take 4 bytes =
    be_bytes_4 (take 4 bytes) n (omega (arith, length-take 4 bytes)) small (sym n-is) in
    record {
      front = take 4 bytes;
      spells =
          record { below = rw (← n-is) (omega (arith, small 0, small 1, small 2, small 3)); same = sym front };
      parts =
          rw (← rest-is) (sym (take-append-drop 4 bytes));
    }

number_from : {F : Type 0} (d : F) (xs rest : List ℕ) → length xs ≡ 4
    → number d (xs ++ rest) ≡ Ok (from_be_bytes w32 xs, rest)
number_from d xs rest len =
    rw (
      le-ltb (length (xs ++ rest)) 4 (omega (arith, length-append xs rest, len)),
      take_at xs rest 4 len,
      drop_at xs rest 4 len,
    ) refl

number_again : {F : Type 0} (d : F) (n : ℕ) (rest : List ℕ) → n < 2 ^ 32
    → number d (to_be_bytes w32 n ++ rest) ≡ Ok (n, rest)
number_again d n rest lt =
    number_from d (to_be_bytes w32 n) rest refl ∙ ap (λ (m : ℕ). Ok (m, rest)) (from_be_bytes-to_be_bytes_4 n lt)

pub number_format : {F : Type 0} (d : F) → IsFormat (number d) IsNumber
number_format d = record {
  takes = number_takes d;
  again = λ x front rest s. rw s.same (number_again d x rest s.below);
}

pub record IsIdOf (n : Node) (front : List ℕ) : Type 0 where
  pub is_node : IsNode n
  pub same : front ≡ n.0

node_takes : {F : Type 0} (d : F) (bytes : List ℕ) (n : Node) (rest : List ℕ) → IsBytes bytes
    → node d bytes ≡ Ok (n, rest) → Takes IsIdOf bytes n rest
node_takes d bytes n rest fits e =
    let g = guard_ok (ltb (length bytes) 20) d (record { 0 = take 20 bytes }, drop 20 bytes) (n, rest) e in
    let long : 20 ≤ length bytes = ltb-false _ _ g.0 in
    let n-is : take 20 bytes ≡ n.0 = ap (λ (p : Node × List ℕ). p.0.0) g.1 in
    let rest-is : drop 20 bytes ≡ rest = ap (λ (p : Node × List ℕ). p.1) g.1 in
    record {
      front = n.0;
      spells =
          record {
            is_node = (
              ap length (sym n-is) ∙ omega (arith, length-take 20 bytes),
              subst IsBytes n-is (IsBytes-take 20 bytes fits),
            );
            same = refl;
          };
      parts = rw (← n-is, ← rest-is) (sym (take-append-drop 20 bytes));
    }

node_again : {F : Type 0} (d : F) (n : Node) (rest : List ℕ) → length n.0 ≡ 20 → node d (n.0 ++ rest) ≡ Ok (n, rest)
node_again d n rest len =
    rw (
      le-ltb (length (n.0 ++ rest)) 20 (omega (arith, length-append n.0 rest, len)),
      take_at n.0 rest 20 len,
      drop_at n.0 rest 20 len,
    ) refl

pub node_format : {F : Type 0} (d : F) → IsFormat (node d) IsIdOf
node_format d = record {
  takes = node_takes d;
  again = λ x front rest s. rw s.same (node_again d x rest s.is_node.0);
}

-- ---- a counted list

pub record AreIds (count : ℕ) (ns : List Node) (front : List ℕ) : Type 0 where
  pub len : length ns ≡ count
  pub each : AllByRecursion IsNode ns
  pub same : front ≡ flat_map (λ n. n.0) ns

nodes_takes : {F : Type 0} (d : F) (count : ℕ) (bytes : List ℕ) (ns : List Node) (rest : List ℕ) → IsBytes bytes
    → nodes d count bytes ≡ Ok (ns, rest) → Takes (AreIds count) bytes ns rest
unfolding nodes
nodes_takes {F = F} d zero bytes ns rest fits e =
    let p = ok_is F ([], bytes) (ns, rest) e in
    let ns-is : [] ≡ ns = ap (λ (q : List Node × List ℕ). q.0) p in
    subst (λ (xs : List Node). Takes (AreIds 0) bytes xs rest) ns-is
    (record {
      front = [];
      spells = record { len = refl; each = tt; same = refl };
      parts =
          ap (λ (q : List Node × List ℕ). q.1) p;
    })
nodes_takes {F = F} d (suc count) bytes ns rest fits e =
    let one = and_then_ok (node d bytes) (λ first. nodes d count >>= λ others. says (first ∷ others)) (ns, rest) e in
    let two = and_then_ok (nodes d count one.0.1) (λ others. says (one.0.0 ∷ others)) (ns, rest) one.2 in
    let a = node_takes d bytes one.0.0 one.0.1 fits one.1 in
    let b = nodes_takes d count one.0.1 two.0.0 two.0.1 (IsBytes-right a.front one.0.1 (subst IsBytes a.parts fits))
    two.1 in
    let p = ok_is F (one.0.0 ∷ two.0.0, two.0.1) (ns, rest) two.2 in
    let both : bytes ≡ (a.front ++ b.front) ++ two.0.1 =
    a.parts ∙ ap (λ (t : List ℕ). a.front ++ t) b.parts ∙ sym (append_assoc a.front b.front two.0.1) in
    let made : Takes (AreIds (suc count)) bytes (one.0.0 ∷ two.0.0) two.0.1 =
    record {
      front = a.front ++ b.front;
      spells =
          record {
            len = ap suc b.spells.len;
            each = (a.spells.is_node, b.spells.each);
            same =
                ap (λ (t : List ℕ). a.front ++ t) b.spells.same
                ∙ ap (λ (t : List ℕ). t ++ flat_map (λ n. n.0) two.0.0) a.spells.same
                ∙ sym (flat_map-cons (λ n. n.0) one.0.0 two.0.0);
          };
      parts = both;
    } in
    subst (λ (q : List Node × List ℕ). Takes (AreIds (suc count)) bytes q.0 q.1) p made

nodes_again : {F : Type 0} (d : F) (ns : List Node) (rest : List ℕ) → AllByRecursion IsNode ns
    → nodes d (length ns) (flat_map (λ n. n.0) ns ++ rest) ≡ Ok (ns, rest)
unfolding nodes
nodes_again d [] rest each = refl
nodes_again d (n ∷ ns) rest each =
    let regrouped : flat_map (λ (n : Node). n.0) (n ∷ ns) ++ rest ≡ n.0 ++ (flat_map (λ n. n.0) ns ++ rest) =
    ap (λ (x : List ℕ). x ++ rest) (flat_map-cons (λ n. n.0) n ns)
    ∙ append_assoc n.0 (flat_map (λ n. n.0) ns) rest in
    ap (nodes d (suc (length ns))) regrouped
    ∙ rw (node_again d n (flat_map (λ n. n.0) ns ++ rest) each.0.0, nodes_again d ns rest each.1) refl

pub nodes_format : {F : Type 0} (d : F) (count : ℕ) → IsFormat (nodes d count) (AreIds count)
nodes_format d count = record {
  takes = nodes_takes d count;
  again = λ ns front rest s. rw (s.same, ← s.len) (nodes_again d ns rest s.each);
}

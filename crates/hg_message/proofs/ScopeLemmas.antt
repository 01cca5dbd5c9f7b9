-- A scope is read from what is written of it behind its version, and from nothing else.
use Rattle.std.proofs.Common.{◌≡◌, ℕ, ◌<◌, Bool, true, false, eqb, cond, List, [], ◌∷◌, ◌++◌, Ok, Err, refl}
use Rattle.std.proofs.Common.{sym, ap, subst, inl, inr, ◌∙◌, arith}
use Rattle.std.specs.Prelude.{◌||◌}
use Rattle.std.proofs.lemmas.Bool.{eqb-true}
use Rattle.hg_marker.specs.Reading.{byte}
use Rattle.hg_marker.proofs.Formats.{IsFormat, Sequence, sequence, byte_format, IsByte, done, ok_is, yields_format}
use Rattle.hg_marker.proofs.Formats.{Found, says_format, SaysOnly}
use Rattle.hg_message.specs.declared.scope.Scope.{Scope}
use Rattle.hg_message.specs.declared.scope.Scope.TheVariants.{Served, Whole}
use Rattle.hg_message.specs.declared.error.MessageFault.{MessageFault}
use Rattle.hg_message.specs.declared.error.MessageFault.TheVariants.{BadScope}
use Rattle.hg_message.specs.Scope.{scope_number, numbered_scope, is_version, scope_at, scope_of}
use Rattle.hg_message.specs.Spelling.{IsHead}
use Rattle.hg_message.proofs.FormatLemmas.{eq_then, retold, whole_format}

numbered : (n : ℕ) (s : Scope) → numbered_scope n ≡ Ok s → scope_number s ≡ n
numbered n s h = by_test (eqb n 0) (eqb n 1) refl refl h
  where
    by_test : (a b : Bool) → eqb n 0 ≡ a → eqb n 1 ≡ b
        → cond a (Ok Served) (cond b (Ok Whole) (Err BadScope)) ≡ done MessageFault s → scope_number s ≡ n
    by_test true b e f h = ap scope_number (sym (ok_is MessageFault Served s h)) ∙ sym (eqb-true _ _ e)
    by_test false true e f h = ap scope_number (sym (ok_is MessageFault Whole s h)) ∙ sym (eqb-true _ _ f)
    by_test false false e f h = absurd cc

numbers : (s : Scope) → numbered_scope (scope_number s) ≡ Ok s
numbers Served = refl
numbers Whole = refl

small : (s : Scope) → scope_number s < 256
small Served = omega arith
small Whole = omega arith

-- ---- a scope

abbrev Parts : Scope → List ℕ → Type 0
Parts = Sequence IsByte (λ number. Sequence (Found (numbered_scope number)) (λ scope. SaysOnly scope))

abbrev IsScope : Scope → List ℕ → Type 0
IsScope s bytes = bytes ≡ scope_number s ∷ []

scope_to : (s : Scope) (bytes : List ℕ) → Parts s bytes → IsScope s bytes
scope_to s bytes a =
    let b = a.rest_spells in
    let whole : bytes ≡ a.first ∷ [] = eq_then a.parts a.first_spells.same
    (eq_then b.parts b.first_spells.1 b.rest_spells.1) in
    let number_is : a.first ≡ scope_number s = sym (numbered a.first b.first b.first_spells.0)
    ∙ ap scope_number (sym b.rest_spells.0) in
    whole ∙ ap (λ (n : ℕ). n ∷ []) number_is

scope_from : (s : Scope) (bytes : List ℕ) → IsScope s bytes → Parts s bytes
scope_from s bytes is = record {
  first = scope_number s;
  front = scope_number s ∷ [];
  back = [];
  first_spells = record { below = small s; same = refl };
  parts = is;
  rest_spells = record {
    first = s;
    front = [];
    back = [];
    first_spells = (numbers s, refl);
    parts = refl;
    rest_spells = (refl, refl);
  };
}

scope_format : (total : ℕ) → IsFormat (scope_at total) IsScope
unfolding scope_at
scope_format total =
    retold (sequence (whole_format total byte byte_format)
    (λ n. sequence (yields_format (numbered_scope n)) (λ scope. says_format scope)))
    scope_to scope_from

-- ---- the scope behind a version, which is the first one or not

abbrev pub IsScopeBy : Bool → Scope → List ℕ → Type 0
IsScopeBy true s bytes = (s ≡ Served) × (bytes ≡ [])
IsScopeBy false s bytes = IsScope s bytes

pub scope_of_format : (total version : ℕ) → IsFormat (scope_of total version) (IsScopeBy (eqb version 1))
unfolding scope_of
scope_of_format total version = by (eqb version 1)
  where
    by : (first : Bool) → IsFormat {F = MessageFault} {A = Scope}
        (λ bytes. cond first (Ok (Served, bytes)) (scope_at total bytes)) (IsScopeBy first)
    by true = says_format Served
    by false = scope_format total

-- ---- a version, and the scope behind it

pub is_head : (version : ℕ) (s : Scope) (front back : List ℕ) → front ≡ version ∷ [] → is_version version ≡ true
    → IsScopeBy (eqb version 1) s back → IsHead s (front ++ back)
is_head version s front back same known told = by (eqb version 1) refl told
  where
    joined : front ++ back ≡ version ∷ back
    joined = ap (λ (t : List ℕ). t ++ back) same

    by : (first : Bool) → eqb version 1 ≡ first → IsScopeBy first s back → IsHead s (front ++ back)
    by true e h =
        let one : version ≡ 1 = eqb-true _ _ e in
        inl (h.0, joined ∙ ap (λ (v : ℕ). v ∷ back) one ∙ ap (λ (t : List ℕ). 1 ∷ t) h.1)
    by false e h =
        let second : eqb version 2 ≡ true = subst (λ (b : Bool). (b || eqb version 2) ≡ true) e known in
        let two : version ≡ 2 = eqb-true _ _ second in
        inr (joined ∙ ap (λ (v : ℕ). v ∷ back) two ∙ ap (λ (t : List ℕ). 2 ∷ t) h)

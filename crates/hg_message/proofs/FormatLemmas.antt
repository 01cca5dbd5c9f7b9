-- Readers of parts, and the spellings that they read.
use Rattle.std.proofs.Common.{◌≡◌, ℕ, zero, suc, ◌-◌, List, [], ◌∷◌, ◌++◌, length, refl, sym, ap, subst, ◌∙◌}
use Rattle.std.proofs.lemmas.List.{append-nil}
use Rattle.hg_marker.specs.Reading.{Reader}
use Rattle.hg_marker.proofs.Formats.{IsFormat, Sequence, sequence, says_format, SaysOnly}
use Rattle.hg_message.specs.declared.error.MessageFault.{MessageFault}
use Rattle.hg_message.specs.Place.{here, whole, truncated_at}
use Rattle.hg_message.specs.Counted.{counted}
use Rattle.hg_message.specs.Spelling.{InOrder}

pub eq_then : {bytes a a' b b' : List ℕ} → bytes ≡ a ++ b → a ≡ a' → b ≡ b' → bytes ≡ a' ++ b'
eq_then {a' = a'} {b = b} e f g = e ∙ ap (λ (t : List ℕ). t ++ b) f ∙ ap (λ (t : List ℕ). a' ++ t) g

-- what is spelled so is spelled in other words
pub retold : {F A : Type 0} {r : Reader F A} {S T : A → List ℕ → Type 0} → IsFormat r S
    → ((x : A) (bytes : List ℕ) → S x bytes → T x bytes) → ((x : A) (bytes : List ℕ) → T x bytes → S x bytes)
    → IsFormat r T
retold h to from = record {
  takes = λ bytes x rest fits e. let t = h.takes bytes x rest fits e in
      record { front = t.front; spells = to x t.front t.spells; parts = t.parts };
  again = λ x front rest s. h.again x front rest (from x front s);
}

-- the place of a field changes nothing but its fault
pub whole_format : {A : Type 0} {S : A → List ℕ → Type 0} (total : ℕ) (r : MessageFault → Reader MessageFault A)
    → ((d : MessageFault) → IsFormat (r d) S) → IsFormat (whole total r) S
whole_format total r h = record {
  takes = λ bytes x rest fits e. (h (truncated_at total bytes)).takes bytes x rest fits e;
  again = λ x front rest s. (h (truncated_at total (front ++ rest))).again x front rest s;
}

pub here_format : {F A : Type 0} {S : A → List ℕ → Type 0} (total : ℕ) (r : ℕ → Reader F A)
    → ((start : ℕ) → IsFormat (r start) S) → IsFormat (here total r) S
here_format total r h = record {
  takes = λ bytes x rest fits e. (h (total - length bytes)).takes bytes x rest fits e;
  again = λ x front rest s. (h (total - length (front ++ rest))).again x front rest s;
}

-- ---- so many parts

pub record AreCounted {A : Type 0} (S : A → List ℕ → Type 0) (n : ℕ) (xs : List A) (bytes : List ℕ) : Type 0 where
  pub len : length xs ≡ n
  pub each : InOrder S xs bytes

none_to : {A : Type 0} (S : A → List ℕ → Type 0) (xs : List A) (bytes : List ℕ) → SaysOnly [] xs bytes
    → AreCounted S 0 xs bytes
none_to S [] bytes h = record { len = refl; each = h.1 }
none_to S (x ∷ xs) bytes h = absurd cc

none_from : {A : Type 0} (S : A → List ℕ → Type 0) (xs : List A) (bytes : List ℕ) → AreCounted S 0 xs bytes
    → SaysOnly [] xs bytes
none_from S [] bytes h = (refl, h.each)
none_from S (x ∷ xs) bytes h = let long = h.len in absurd cc

abbrev More : {A : Type 0} → (A → List ℕ → Type 0) → ℕ → List A → List ℕ → Type 0
More S n = Sequence S (λ first. Sequence (AreCounted S n) (λ others. SaysOnly (first ∷ others)))

more_to : {A : Type 0} (S : A → List ℕ → Type 0) (n : ℕ) (xs : List A) (bytes : List ℕ) → More S n xs bytes
    → AreCounted S (suc n) xs bytes
more_to {A = A} S n xs bytes a =
    let b = a.rest_spells in
    let back : a.back ≡ b.front = eq_then b.parts refl b.rest_spells.1 ∙ append-nil b.front in
    let all : AreCounted S (suc n) (a.first ∷ b.first) bytes = record {
      len = ap suc b.first_spells.len;
      each = (a.front, b.front, a.first_spells, b.first_spells.each, eq_then a.parts refl back);
    } in
    subst (λ (ys : List A). AreCounted S (suc n) ys bytes) (sym b.rest_spells.0) all

same_rest : (m n : ℕ) → suc m ≡ suc n → m ≡ n
same_rest m n e = cc

more_from : {A : Type 0} (S : A → List ℕ → Type 0) (n : ℕ) (xs : List A) (bytes : List ℕ)
    → AreCounted S (suc n) xs bytes → More S n xs bytes
more_from S n [] bytes h = let short = h.len in absurd cc
more_from S n (x ∷ xs) bytes h = record {
  first = x;
  front = h.each.0;
  back = h.each.1;
  first_spells = h.each.2;
  parts = h.each.4;
  rest_spells = record {
    first = xs;
    front = h.each.1;
    back = [];
    first_spells = record { len = same_rest (length xs) n h.len; each = h.each.3 };
    parts = sym (append-nil h.each.1);
    rest_spells = (refl, refl);
  };
}

pub counted_format : {F A : Type 0} {S : A → List ℕ → Type 0} (r : ℕ → Reader F A) → ((i : ℕ) → IsFormat (r i) S)
    → (index n : ℕ) → IsFormat (counted r index n) (AreCounted S n)
unfolding counted
counted_format {S = S} r h index zero = retold (says_format []) (none_to S) (none_from S)
counted_format {S = S} r h index (suc n) =
    retold (sequence (h index) (λ first. sequence (counted_format r h (suc index) n)
    (λ others. says_format (first ∷ others)))) (more_to S n) (more_from S n)

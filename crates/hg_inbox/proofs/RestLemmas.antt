-- What the last takes give is the rest of what was put, in order.
use Rattle.std.proofs.Common.{◌≡◌, ℕ, zero, suc, ◌+◌, List, [], ◌∷◌, ◌++◌, length, drop, map, Vec, Global, Some}
use Rattle.std.proofs.Common.{slice_get, All, refl, ap, sym, ◌∙◌, subst, arith, length-append, append_assoc}
use Rattle.std.proofs.Common.{drop_of_length-le}
use Rattle.std.proofs.Math.Seq.{take-append_seam, drop-append_seam}
use Rattle.std.proofs.lemmas.List.Elements.{All-tail, All-take, All-drop}
use Rattle.hg_inbox.specs.declared.rule.Log.{Log}
use Rattle.hg_inbox.specs.declared.rule.Numbered.{Numbered}
use Rattle.hg_inbox.specs.Rule.{log, numbered, numbered_from, StandsIn, IsWhole}

pub All-front : {A : Type 0} (P : A → Type 0) (xs ys : List A) → All P (xs ++ ys) → All P xs
All-front P xs ys a = subst (All P) (take-append_seam xs ys) (All-take P (length xs) (xs ++ ys) a)

pub All-back : {A : Type 0} (P : A → Type 0) (xs ys : List A) → All P (xs ++ ys) → All P ys
All-back P xs ys a = subst (All P) (drop-append_seam xs ys) (All-drop P (length xs) (xs ++ ys) a)

drop_here : (q : List (List ℕ)) (n : ℕ) (m : List ℕ) → slice_get q n ≡ Some m → drop n q ≡ m ∷ drop (suc n) q
drop_here [] n m e = absurd (cc (e))
drop_here (x ∷ xs) zero m e = let same : x ≡ m = cc (e) in ap (λ (y : List ℕ). y ∷ xs) same
drop_here (x ∷ xs) (suc n) m e = drop_here xs n m e

pub length-numbered_from : (n : ℕ) (ms : List (List ℕ)) → length (numbered_from n ms) ≡ length ms
length-numbered_from n [] = refl
length-numbered_from n (m ∷ ms) = let rest = length-numbered_from (n + 1) ms in omega arith

-- messages that stand in q under the numbers from n on, up to its end, are what q has from n on
rest_is : (q : List (List ℕ)) (n : ℕ) (ms : List (List ℕ)) → StandsIn q (numbered_from n ms) → n + length ms ≡ length q
    → ms ≡ drop n q
rest_is q n [] stands end = sym (drop_of_length-le q (omega arith))
rest_is q n (m ∷ ms) stands end =
    let here : slice_get q n ≡ Some m = stands zero (numbered n m) (omega arith) in
    let rest = rest_is q (n + 1) ms
    (All-tail (λ (p : Numbered). slice_get q p.number ≡ Some p.message) (numbered n m) (numbered_from (n + 1) ms)
    stands) (omega arith) in
    let e : n + 1 ≡ suc n = omega arith in ap (λ (w : List (List ℕ)). m ∷ w) rest
    ∙ (ap (λ (k : ℕ). m ∷ drop k q) e ∙ sym (drop_here q n m here))

-- the owner of every part took these messages last, and then the inbox held nothing
pub closes : (v : Log) (taken : List Numbered) (ms : List (List ℕ)) → v.takes ≡ taken ++ numbered_from (length taken) ms
    → (h : IsWhole v []) → ms ≡ drop (length taken) h.0
closes v taken ms goes h =
    let r = h.1 in
    rest_is h.0 (length taken) ms
    (All-back (λ (p : Numbered). slice_get h.0 p.number ≡ Some p.message) taken (numbered_from (length taken) ms)
    (let P : List Numbered → Type 0 = λ ps. StandsIn h.0 ps in let a : P v.takes = r.takes_in in rw goes at a))
    (let n = r.taken in
    omega (
      arith,
      ap length goes,
      length-append taken (numbered_from (length taken) ms),
      length-numbered_from
          (length taken) ms,
    ))

-- one message more
pub numbered_from-append : (n : ℕ) (ms : List (List ℕ)) (m : List ℕ)
    → numbered_from n (ms ++ m ∷ []) ≡ numbered_from n ms ++ numbered (n + length ms) m ∷ []
numbered_from-append n [] m = ap (λ (k : ℕ). numbered k m ∷ []) (let e : n ≡ n + 0 = omega arith in e)
numbered_from-append n (x ∷ ms) m = let e : (n + 1) + length ms ≡ n + length (x ∷ ms) = omega arith in
    ap (λ (w : List Numbered). numbered n x ∷ w)
    (numbered_from-append (n + 1) ms m ∙ ap (λ (k : ℕ). numbered_from (n + 1) ms ++ numbered k m ∷ []) e)

-- v0 took these messages more, and became v
abbrev pub Took : Log → List (List ℕ) → Log → Type 0
Took v0 ms v = v ≡ log v0.parts v0.puts (v0.takes ++ numbered_from (length v0.takes) ms)

pub took_count : (v0 v : Log) (ms : List (List ℕ)) → Took v0 ms v → length v.takes ≡ length v0.takes + length ms
took_count v0 v ms goes =
    let e = ap (λ (h : Log). length h.takes) goes in
    omega (
      arith,
      length-append v0.takes (numbered_from (length v0.takes) ms),
      length-numbered_from
          (length v0.takes) ms,
    )

pub took_more : (v0 v w : Log) (ms : List (List ℕ)) (m : List ℕ) → Took v0 ms v
    → w ≡ log v.parts v.puts (v.takes ++ numbered (length v.takes) m ∷ []) → Took v0 (ms ++ m ∷ []) w
took_more v0 v w ms m goes next =
    let n : ℕ = length v0.takes in
    let at : length v.takes ≡ n + length ms = took_count v0 v ms goes in
    let tail : (v.takes ++ numbered (length v.takes) m ∷ []) ≡ v0.takes ++ numbered_from n (ms ++ m ∷ []) =
    (λ i. (goes i).takes ++ numbered (at i) m ∷ [])
    ∙ (append_assoc v0.takes (numbered_from n ms) (numbered (n + length ms) m ∷ [])
    ∙ ap (λ (ps : List Numbered). v0.takes ++ ps) (sym (numbered_from-append n ms m))) in
    next ∙ (λ i. log (goes i).parts (goes i).puts (tail i))

nothing : (xs : List (List ℕ)) → length xs ≡ 0 → xs ≡ []
nothing [] e = refl
nothing (x ∷ xs) e = absurd (omega arith)

-- where as many were taken as were left, nothing is left
pub none_left : (v0 v : Log) (ms items : List (List ℕ)) → Took v0 ms v → length v0.puts ≡ length v0.takes + length ms
    → IsWhole v items → IsWhole v []
none_left v0 v ms items goes all h =
    let r = h.1 in
    let puts = ap (λ (u : Log). length u.puts) goes in
    let takes = took_count v0 v ms goes in
    let p = r.put in
    let t = r.taken in
    subst (IsWhole v) (nothing items (omega (arith, length-append h.0 items))) h

abbrev pub bytes : List (Vec ℕ Global) → List (List ℕ)
bytes ms = map (λ m. m.items) ms

pub length-bytes : (ms : List (Vec ℕ Global)) → length (bytes ms) ≡ length ms
length-bytes [] = refl
length-bytes (m ∷ ms) = let rest = length-bytes ms in omega arith

pub bytes-append : (ms : List (Vec ℕ Global)) (m : Vec ℕ Global) → bytes (ms ++ m ∷ []) ≡ bytes ms ++ m.items ∷ []
bytes-append [] m = refl
bytes-append (x ∷ ms) m = ap (λ (w : List (List ℕ)). x.items ∷ w) (bytes-append ms m)

-- Messages under numbers, each number once, are those of a list in another order.
use Rattle.std.proofs.Common.{◌≡◌, ◌≢◌, ℕ, zero, suc, ◌+◌, ◌-◌, ◌<◌, ◌≤◌, ◌==◌, nat_lt, cond, Bool, true, false, List}
use Rattle.std.proofs.Common.{[], ◌∷◌, ◌++◌, length, take, drop, Some, slice_get, slice_index_or, All, refl, ap, sym}
use Rattle.std.proofs.Common.{◌∙◌, subst, arith, length-append}
use Rattle.std.proofs.lemmas.List.{append-nil, take-append-drop}
use Rattle.std.proofs.lemmas.Bool.Decides.{nat_tests}
use Rattle.std.proofs.lemmas.List.Elements.{All-append, All-tail}
use Rattle.std.proofs.lemmas.List.Sums.{sum_by-cons}
use Rattle.std.proofs.lemmas.Option.{slice_get_within}
use Rattle.std.proofs.Math.Seq.{take-append_seam}
use Rattle.hg_changeset.proofs.ListLemmas.{slice_get-take}
use Rattle.std.proofs.lemmas.List.Sorted.{IsPermutation-refl, IsPermutation-trans, IsPermutation-middle}
use Rattle.std.proofs.lemmas.List.Sorted.{IsPermutation-cons}
use Rattle.std.specs.List.Sorted.{IsPermutation}
use Rattle.hg_inbox.specs.declared.rule.Log.{Log}
use Rattle.hg_inbox.specs.declared.rule.Numbered.{Numbered}
use Rattle.hg_inbox.specs.Rule.{numbered, numbered_from, times, once_below, StandsIn, IsWhole}
use Rattle.hg_inbox.specs.Views.{SeatLog, all_puts, all_takes, IsRest}
use Rattle.hg_inbox.proofs.MoveLemmas.{times-append}
use Rattle.hg_inbox.proofs.RestLemmas.{All-back, All-front, Took, took_count, closes}

-- a list with the number in it, cut at the number's first place
pub record Found (k : ℕ) (ps : List Numbered) : Type 0 where
  pub before : List Numbered
  pub here : Numbered
  pub after : List Numbered
  pub is : ps ≡ before ++ here ∷ after
  pub number : here.number ≡ k

-- 1 where the numbers are the same, and 0 where they differ
abbrev one_if : Bool → ℕ
one_if b = cond b 1 0

times-cons : (k : ℕ) (p : Numbered) (ps : List Numbered) → times k (p ∷ ps) ≡ cond (k == p.number) 1 0 + times k ps
times-cons k p ps = sum_by-cons (λ (q : Numbered). cond (k == q.number) 1 0) p ps

find_by : (k : ℕ) (p : Numbered) (ps : List Numbered) (b : Bool) → (k == p.number) ≡ b → 0 < times k (p ∷ ps)
    → (0 < times k ps → Found k ps) → Found k (p ∷ ps)
find_by k p ps true e pos later =
    record {
      before = [];
      here = p;
      after = ps;
      is = refl;
      number =
          (let same : k ≡ p.number = grind (arith, nat_tests) in sym same);
    }
find_by k p ps false e pos later =
    let f = later (let none : one_if (k == p.number) ≡ 0 = ap one_if e in omega (arith, times-cons k p ps)) in
    record {
      before = p ∷ f.before;
      here = f.here;
      after = f.after;
      is = ap (λ (w : List Numbered). p ∷ w) f.is;
      number = f.number;
    }

find : (k : ℕ) (ps : List Numbered) → 0 < times k ps → Found k ps
find k [] pos = absurd (omega arith)
find k (p ∷ ps) pos = find_by k p ps (k == p.number) refl pos (λ x. find k ps x)

times_middle : (k : ℕ) (b : List Numbered) (p : Numbered) (a : List Numbered)
    → times k (b ++ p ∷ a) ≡ times k (b ++ a) + cond (k == p.number) 1 0
times_middle k b p a = omega (arith, times-append k b (p ∷ a), times-append k b a, times-cons k p a)

same_is : (n : ℕ) → one_if (n == n) ≡ 1
same_is n = grind (arith, nat_tests)

other_is : (k n : ℕ) → k ≢ n → one_if (k == n) ≡ 0
other_is k n not = grind (arith, nat_tests)

-- what stands in the list stands there once or more
times_here : (ps : List Numbered) (k : ℕ) (d : Numbered) → k < length ps → 0 < times (slice_index_or ps k d).number ps
times_here [] k d below = absurd (omega arith)
times_here (p ∷ ps) zero d below = let s = same_is p.number in omega (arith, times-cons p.number p ps)
times_here (p ∷ ps) (suc k) d below = let rest = times_here ps k d (omega arith) in
    omega (arith, times-cons (slice_index_or ps k d).number p ps)

-- past the number n, where nothing stands under it
others_from : (m : List ℕ) (q : List (List ℕ)) (n : ℕ) (ps : List Numbered)
    → All (λ p. (n ≤ p.number) × (slice_get (m ∷ q) (p.number - n) ≡ Some p.message)) ps → times n ps ≡ 0
    → (k : ℕ) (d : Numbered) → k < length ps → ((n + 1) ≤ (slice_index_or ps k d).number)
    × (slice_get q ((slice_index_or ps k d).number - (n + 1)) ≡ Some (slice_index_or ps k d).message)
others_from m q n ps all none k d below =
    let p : Numbered = slice_index_or ps k d in
    let a = all k d below in
    let some_times : 0 < times p.number ps = times_here ps k d below in
    let low : n ≤ p.number = a.0 in
    let not : p.number ≢ n = λ e. let z : times p.number ps ≡ times n ps = ap (λ (j : ℕ). times j ps) e in
    absurd (omega arith) in
    let above : (n + 1) ≤ p.number = grind (arith, nat_tests) in
    let next : p.number - n ≡ suc (p.number - (n + 1)) = omega arith in
    (above, subst (λ (j : ℕ). slice_get (m ∷ q) j ≡ Some p.message) next a.1)

pub in_order : (q : List (List ℕ)) (n : ℕ) (ps : List Numbered)
    → All (λ p. (n ≤ p.number) × (slice_get q (p.number - n) ≡ Some p.message)) ps
    → ((k : ℕ) → n ≤ k → k < n + length q → times k ps ≡ 1) → IsPermutation ps (numbered_from n q)
in_order [] n [] stands once = IsPermutation-refl []
in_order [] n (p ∷ ps) stands once = let e = (stands zero p (omega arith)).1 in absurd (cc (e))
in_order (m ∷ q) n ps stands once =
    let here : times n ps ≡ 1 = once n (omega arith) (omega arith) in
    let f = find n ps (omega arith) in
    let P : Numbered → Type 0 = λ p. (n ≤ p.number) × (slice_get (m ∷ q) (p.number - n) ≡ Some p.message) in
    let b : List Numbered = f.before in
    let a : List Numbered = f.after in
    let p : Numbered = f.here in
    let all : All P (b ++ p ∷ a) = subst (λ (ps : List Numbered). All P ps) f.is stands in
    let right : All P (p ∷ a) = All-back P b (p ∷ a) all in
    let others : All P (b ++ a) = All-append P b a (All-front P b (p ∷ a) all) (All-tail P p a right) in
    let mine : slice_get (m ∷ q) (p.number - n) ≡ Some p.message = (right zero p (omega arith)).1 in
    let at : p.number - n ≡ 0 = let e = f.number in omega arith in
    let first : slice_get (m ∷ q) 0 ≡ Some p.message = subst (λ (k : ℕ). slice_get (m ∷ q) k ≡ Some p.message) at
    mine in
    let message : m ≡ p.message = cc (first) in
    let is : p ≡ numbered n m = λ i. numbered (f.number i) (sym message i) in
    let count : (k : ℕ) → times k ps ≡ times k (b ++ a) + cond (k == n) 1 0 = λ k. ap (times k) f.is
    ∙ (times_middle k b p a ∙ ap (λ (j : ℕ). times k (b ++ a) + cond (k == j) 1 0) f.number) in
    let no_more : times n (b ++ a) ≡ 0 = let c = count n in let s = same_is n in omega arith in
    let stands' : All (λ p. ((n + 1) ≤ p.number) × (slice_get q (p.number - (n + 1)) ≡ Some p.message)) (b ++ a) =
    λ k d below. others_from m q n (b ++ a) others no_more k d below in
    let rest = in_order q (n + 1) (b ++ a) stands' (λ k low high. let o = once k (omega arith) (omega arith) in
    let c = count k in let z = other_is k n (λ e. absurd (omega arith)) in omega arith) in
    subst (λ (ps : List Numbered). IsPermutation ps (numbered_from n (m ∷ q))) (sym f.is)
    (IsPermutation-trans (b ++ p ∷ a) (p ∷ (b ++ a)) (numbered_from n (m ∷ q)) (IsPermutation-middle b p a)
    (subst (λ (x : Numbered). IsPermutation (x ∷ (b ++ a)) (numbered n m ∷ numbered_from (n + 1) q)) (sym is)
    (IsPermutation-cons (numbered n m) (b ++ a) (numbered_from (n + 1) q) rest)))

-- a number that the messages are numbered with, once
times_below : (n : ℕ) (ms : List (List ℕ)) (k : ℕ) → k < n → times k (numbered_from n ms) ≡ 0
times_below n [] k below = refl
times_below n (m ∷ ms) k below = let z = other_is k n (λ e. absurd (omega arith)) in
    let rest = times_below (n + 1) ms k (omega arith) in
    omega (arith, times-cons k (numbered n m) (numbered_from (n + 1) ms))

times_in_by : (n : ℕ) (m : List ℕ) (ms : List (List ℕ)) (k : ℕ) → n ≤ k → k < n + length (m ∷ ms) → (b : Bool)
    → (k == n) ≡ b → (((n + 1) ≤ k) → times k (numbered_from (n + 1) ms) ≡ 1) → times k (numbered_from n (m ∷ ms)) ≡ 1
times_in_by n m ms k low high true e later =
    let same : k ≡ n = grind (arith, nat_tests) in
    let one : one_if (k == n) ≡ 1 = ap one_if e in
    let none = times_below (n + 1) ms k (omega arith) in
    omega (arith, times-cons k (numbered n m) (numbered_from (n + 1) ms))
times_in_by n m ms k low high false e later =
    let above : (n + 1) ≤ k = grind (arith, nat_tests) in
    let none : one_if (k == n) ≡ 0 = ap one_if e in
    let rest = later above in omega (arith, times-cons k (numbered n m) (numbered_from (n + 1) ms))

times_in : (n : ℕ) (ms : List (List ℕ)) (k : ℕ) → n ≤ k → k < n + length ms → times k (numbered_from n ms) ≡ 1
times_in n [] k low high = absurd (omega arith)
times_in n (m ∷ ms) k low high = times_in_by n m ms k low high (k == n) refl
    (λ above. times_in (n + 1) ms k above (omega arith))

get_shorter : (q more : List (List ℕ)) (k : ℕ) (m : List ℕ) → slice_get (q ++ more) k ≡ Some m → k < length q
    → slice_get q k ≡ Some m
get_shorter q more k m e below = subst (λ (xs : List (List ℕ)). slice_get xs k ≡ Some m) (take-append_seam q more)
    (slice_get-take (q ++ more) (length q) k m below e)

is_one : (k n : ℕ) → k < n → once_below k n ≡ 1
is_one k n below = grind (arith, nat_tests)

-- each number of q once, each message at its place
all_of : (q : List (List ℕ)) (ps : List Numbered) → StandsIn q ps → ((k : ℕ) → k < length q → times k ps ≡ 1)
    → IsPermutation ps (numbered_from 0 q)
all_of q ps stands once =
    in_order q 0 ps
    (λ k d below. (
      omega arith,
      let e : (slice_index_or ps k d).number ≡ (slice_index_or ps k d).number - 0 =
          omega arith in subst (λ (j : ℕ). slice_get q j ≡ Some (slice_index_or ps k d).message) e (stands k d below),
    ))
    (λ k low high. once k (omega arith))

low_at : (n : ℕ) (rest : List (List ℕ)) (k c : ℕ) → k < n + length rest
    → 0 < c → c + times k (numbered_from n rest) ≡ 1 → (b : Bool) → nat_lt k n ≡ b → k < n
low_at n rest k c high pos one true e = grind (arith, nat_tests)
low_at n rest k c high pos one false e =
    let low : n ≤ k = grind (arith, nat_tests) in
    let t = times_in n rest k low high in absurd (omega arith)

low_by : (n : ℕ) (rest : List (List ℕ)) (k c : ℕ) → k < n + length rest
    → 0 < c → c + times k (numbered_from n rest) ≡ 1 → k < n
low_by n rest k c high pos one = low_at n rest k c high pos one (nat_lt k n) refl

-- what was taken before the last takes has the numbers below theirs
earlier : (t rest : List (List ℕ)) (ps : List Numbered) → length ps ≡ length t → StandsIn (t ++ rest) ps
    → ((k : ℕ) → times k (ps ++ numbered_from (length t) rest) ≡ once_below k (length (t ++ rest)))
    → IsPermutation ps (numbered_from 0 t)
earlier t rest ps len stands once =
    let count : (k : ℕ) → k < length t + length rest → times k ps + times k (numbered_from (length t) rest) ≡ 1 =
    λ k high. let o = once k in let a = times-append k ps (numbered_from (length t) rest) in
    let one = is_one k (length (t ++ rest)) (omega (arith, length-append t rest)) in omega arith in
    all_of t ps
    (λ k d below.
    let p : Numbered = slice_index_or ps k d in
    let there : slice_get (t ++ rest) p.number ≡ Some p.message = stands k d below in
    let some_times = times_here ps k d below in
    let high : p.number < length t + length rest =
    omega (arith, slice_get_within (t ++ rest) p.number p.message there, length-append t rest) in
    let one = count p.number high in
    get_shorter t rest p.number p.message there
    (low_by (length t) rest p.number (times p.number ps) high some_times one))
    (λ k below. let c = count k (omega arith) in let z = times_below (length t) rest k below in omega arith)

-- what the seats put and took, and what is left
pub rest_of : (v w : Log) (seats : List SeatLog) (rest : List (List ℕ)) → v.puts ≡ all_puts seats
    → v.takes ≡ all_takes seats → Took v rest w → IsWhole w [] → IsRest seats rest
rest_of v w seats rest puts takes goes h =
    let q : List (List ℕ) = h.0 in
    let r = h.1 in
    let n : ℕ = length v.takes in
    let t : List (List ℕ) = take n q in
    let left : rest ≡ drop n q = closes w v.takes rest (ap (λ (u : Log). u.takes) goes) h in
    let end : q ++ [] ≡ q = append-nil q in
    let whole : t ++ rest ≡ q = ap (λ (ms : List (List ℕ)). t ++ ms) left ∙ take-append-drop n q in
    let len : length q ≡ n + length rest = let e = r.taken in omega (arith, took_count v w rest goes) in
    let len_t : length t ≡ n = omega (arith, ap length whole, length-append t rest) in
    let all_stand : StandsIn (t ++ rest) v.puts = subst (λ (z : List (List ℕ)). StandsIn z v.puts) (end ∙ sym whole)
    (subst (λ (ps : List Numbered). StandsIn (q ++ []) ps) (ap (λ (u : Log). u.puts) goes) r.puts_in) in
    let takes_stand : StandsIn (t ++ rest) (v.takes ++ numbered_from n rest) =
    subst (λ (z : List (List ℕ)). StandsIn z (v.takes ++ numbered_from n rest)) (sym whole)
    (subst (λ (ps : List Numbered). StandsIn q ps) (ap (λ (u : Log). u.takes) goes) r.takes_in) in (
      t,
      record {
        puts = subst (λ (ps : List Numbered). IsPermutation ps (numbered_from 0 (t ++ rest))) puts
            (all_of (t ++ rest) v.puts all_stand
            (λ k below. ap (λ (u : Log). times k u.puts) (sym goes)
            ∙ (r.puts_once k ∙ is_one k (length (q ++ [])) (omega (arith, ap length whole, ap length end)))));
        takes = subst (λ (ps : List Numbered). IsPermutation ps (numbered_from 0 t)) takes
            (earlier t rest v.takes (sym len_t)
            (All-front (λ (p : Numbered). slice_get (t ++ rest) p.number ≡ Some p.message) v.takes
            (numbered_from n rest) takes_stand)
            (λ k. ap (λ (j : ℕ). times k (v.takes ++ numbered_from j rest)) len_t
            ∙ (ap (λ (u : Log). times k u.takes) (sym goes)
            ∙ (r.takes_once k ∙ ap (λ (z : List (List ℕ)). once_below k (length z)) (sym whole)))));
      },
    )

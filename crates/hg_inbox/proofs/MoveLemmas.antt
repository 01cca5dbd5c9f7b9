-- Each move keeps the rule of the inbox.
use Rattle.std.proofs.Common.{◌≡◌, ◌≢◌, ℕ, zero, suc, ◌+◌, ◌-◌, ◌<◌, ◌≤◌, ◌==◌, cond, List, [], ◌∷◌, ◌++◌, length}
use Rattle.std.proofs.Common.{set, Some, slice_get, get_or, All, sum_by, refl, ap, sym, ◌∙◌, subst, ⊎_elim, arith}
use Rattle.std.proofs.Common.{append_assoc, length-append}
use Rattle.std.proofs.lemmas.List.{append-nil}
use Rattle.std.proofs.lemmas.Bool.Decides.{nat_tests}
use Rattle.std.proofs.lemmas.List.Elements.{All-append, All-nil, All-push, All-weaker}
use Rattle.std.proofs.lemmas.List.Sums.{sum_by-cons, sum_by-append, sum_by_push, sum_by-set, get_or-le-sum_by}
use Rattle.std.proofs.lemmas.Option.{slice_get_within}
use mathlib.Core.Option.{some, some-injective, some-ne-none}
use lib.ListN.{get_elem?}
use Rattle.crossbeam_queue.specs.Fifo.{Pushes, Pops, Forks, Merges, Learns}
use Rattle.crossbeam_queue.proofs.Lists.{at_set, at_snoc}
use Rattle.hg_changeset.proofs.ListLemmas.{slice_get-append, slice_get-append_seam}
use Rattle.hg_inbox.specs.declared.rule.Log.{Log}
use Rattle.hg_inbox.specs.declared.rule.Numbered.{Numbered}
use Rattle.hg_inbox.specs.Limits.{all_parts}
use Rattle.hg_inbox.specs.Rule.{log, numbered, times, once_below, StandsIn, Ordered, Put, Taken, Agrees, IsWhole}

-- a view that stands at a place, in the words of lists
at_place : (views : List Log) (seat : ℕ) (v : Log) → get_elem? views seat ≡ some v → (seat < length views)
    × (get_or views seat v ≡ v)
at_place [] seat v at = absurd (some-ne-none v (sym at))
at_place (x ∷ xs) zero v at = (omega arith, some-injective x v at)
at_place (x ∷ xs) (suc k) v at = let r = at_place xs k v at in let below = r.0 in (omega arith, r.1)

-- the sum after a change of one view
pub sum_set : (f : Log → ℕ) (views : List Log) (seat : ℕ) (v w : Log) → get_elem? views seat ≡ some v
    → sum_by f (set views seat w) + f v ≡ sum_by f views + f w
sum_set f views seat v w at = let r = at_place views seat v at in
    subst (λ (x : Log). sum_by f (set views seat w) + f x ≡ sum_by f views + f w) r.1 (sum_by-set f views seat w v r.0)

times_push : (k : ℕ) (ps : List Numbered) (p : Numbered)
    → times k (ps ++ p ∷ []) ≡ times k ps + cond (k == p.number) 1 0
times_push k ps p = sum_by_push (λ (q : Numbered). cond (k == q.number) 1 0) ps p

pub times-append : (k : ℕ) (ps qs : List Numbered) → times k (ps ++ qs) ≡ times k ps + times k qs
times-append k ps qs = sum_by-append (λ (q : Numbered). cond (k == q.number) 1 0) ps qs

once_more : (k n : ℕ) → once_below k (n + 1) ≡ once_below k n + cond (k == n) 1 0
once_more k n = grind (arith, nat_tests)

stands_longer : (q more : List (List ℕ)) (ps : List Numbered) → StandsIn q ps → StandsIn (q ++ more) ps
stands_longer q more ps a = All-weaker (λ (p : Numbered). slice_get q p.number ≡ Some p.message)
    (λ (p : Numbered). slice_get (q ++ more) p.number ≡ Some p.message)
    (λ p e. slice_get-append q more p.number p.message e) ps a

stands_below : (q : List (List ℕ)) (ps : List Numbered) → StandsIn q ps → All (λ p. p.number < length q) ps
stands_below q ps a = All-weaker (λ (p : Numbered). slice_get q p.number ≡ Some p.message)
    (λ (p : Numbered). p.number < length q) (λ p e. slice_get_within q p.number p.message e) ps a

all_set : (F : ℕ → Log → Type 0) (views : List Log) (seat : ℕ) (w : Log) → F seat w
    → ((j : ℕ) (u : Log) → get_elem? views j ≡ some u → F j u) → (j : ℕ) (u : Log)
    → get_elem? (set views seat w) j ≡ some u → F j u
all_set F views seat w mine others j u e =
    ⊎_elim (λ (x : (j ≡ seat) × (w ≡ u)). subst (λ (y : ℕ × Log). F y.0 y.1) (λ i. (sym x.0 i, x.1 i)) mine)
    (λ (x : (j ≢ seat) × (get_elem? views j ≡ some u)). others j u x.1) (at_set views seat j w u e)

pub puts : (n seat : ℕ) (v : Log) (m : List ℕ) → 0 < v.parts → Pushes Ordered n seat v m (Put v m)
puts n seat v m some_part items views room h at =
    let t = h.0 in
    let r = h.1 in
    let q : List (List ℕ) = t ++ items in
    let q' : List (List ℕ) = t ++ (items ++ m ∷ []) in
    let grown : q' ≡ q ++ m ∷ [] = sym (append_assoc t items (m ∷ [])) in
    let place : ℕ = length q in
    let longer : length q' ≡ place + 1 = omega (arith, ap length grown, length-append q (m ∷ [])) in
    let w : Log = log v.parts (v.puts ++ numbered place m ∷ []) v.takes in (
      w,
      (
        t,
        record {
          parts = (let s = sum_set (λ u. u.parts) views seat v w at in let p = r.parts in omega arith);
          puts_once = λ k.
              let s = sum_set (λ u. times k u.puts) views seat v w at in
              let a = times_push k v.puts (numbered place m) in
              let b = once_more k place in
              let c : once_below k (length q') ≡ once_below k (place + 1) = ap (once_below k) longer in
              let p = r.puts_once k in omega arith;
          takes_once = λ k. let s = sum_set (λ u. times k u.takes) views seat v w at in let p = r.takes_once k in
              omega arith;
          puts_all = (let s = sum_set (λ u. length u.puts) views seat v w at in let p = r.puts_all in
              omega (arith, length-append v.puts (numbered place m ∷ [])));
          takes_all = (let s = sum_set (λ u. length u.takes) views seat v w at in let p = r.takes_all in omega arith);
          puts_in = all_set (λ _ (u : Log). StandsIn q' u.puts) views seat w
              (subst (λ (z : List (List ℕ)). StandsIn z w.puts) (sym grown)
              (All-push (λ (p : Numbered). slice_get (q ++ m ∷ []) p.number ≡ Some p.message) v.puts
              (numbered place m) (stands_longer q (m ∷ []) v.puts (r.puts_in seat v at))
              (slice_get-append_seam q m [])))
              (λ j u there. subst (λ (z : List (List ℕ)). StandsIn z u.puts) (sym grown)
              (stands_longer q (m ∷ []) u.puts (r.puts_in j u there)));
          takes_in = all_set (λ _ (u : Log). StandsIn t u.takes) views seat w (r.takes_in seat v at) r.takes_in;
          idle = all_set (λ _ (u : Log). u.parts ≡ 0 → (u.puts ≡ []) × (u.takes ≡ [])) views seat w
              (λ none. absurd (omega arith)) r.idle;
        },
      ),
      (place, refl, stands_below q v.puts (r.puts_in seat v at)),
    )

pub takes : (seat : ℕ) (v : Log) → 0 < v.parts → Pops Ordered seat v (λ m w. Taken v m w)
takes seat v some_part m items views h at =
    let t = h.0 in
    let r = h.1 in
    let t' : List (List ℕ) = t ++ m ∷ [] in
    let same : t' ++ items ≡ t ++ (m ∷ items) = append_assoc t (m ∷ []) items in
    let place : ℕ = length t in
    let longer : length t' ≡ place + 1 = omega (arith, length-append t (m ∷ [])) in
    let w : Log = log v.parts v.puts (v.takes ++ numbered place m ∷ []) in (
      w,
      (
        t',
        record {
          parts = (let s = sum_set (λ u. u.parts) views seat v w at in let p = r.parts in omega arith);
          puts_once = λ k.
              let s = sum_set (λ u. times k u.puts) views seat v w at in
              let c : once_below k (length (t' ++ items)) ≡ once_below k (length (t ++ (m ∷ items))) =
              ap (λ (z : List (List ℕ)). once_below k (length z)) same in
              let p = r.puts_once k in omega arith;
          takes_once = λ k.
              let s = sum_set (λ u. times k u.takes) views seat v w at in
              let a = times_push k v.takes (numbered place m) in
              let b = once_more k place in
              let c : once_below k (length t') ≡ once_below k (place + 1) = ap (once_below k) longer in
              let p = r.takes_once k in omega arith;
          puts_all = (let s = sum_set (λ u. length u.puts) views seat v w at in let p = r.puts_all in
              let c = ap length same in omega arith);
          takes_all = (let s = sum_set (λ u. length u.takes) views seat v w at in let p = r.takes_all in
              omega (arith, length-append v.takes (numbered place m ∷ [])));
          puts_in = all_set (λ _ (u : Log). StandsIn (t' ++ items) u.puts) views seat w
              (subst (λ (z : List (List ℕ)). StandsIn z v.puts) (sym same) (r.puts_in seat v at))
              (λ j u there. subst (λ (z : List (List ℕ)). StandsIn z u.puts) (sym same) (r.puts_in j u there));
          takes_in = all_set (λ _ (u : Log). StandsIn t' u.takes) views seat w
              (All-push (λ (p : Numbered). slice_get t' p.number ≡ Some p.message) v.takes (numbered place m)
              (stands_longer t (m ∷ []) v.takes (r.takes_in seat v at)) (slice_get-append_seam t m []))
              (λ j u there. stands_longer t (m ∷ []) u.takes (r.takes_in j u there));
          idle = all_set (λ _ (u : Log). u.parts ≡ 0 → (u.puts ≡ []) × (u.takes ≡ [])) views seat w
              (λ none. absurd (omega arith)) r.idle;
        },
      ),
      (place, refl, stands_below t v.takes (r.takes_in seat v at)),
    )

pub agrees : (seat : ℕ) (v : Log) → Learns Ordered seat v (Agrees v.puts v.takes)
agrees seat v items views h at = (h.0, h.1.puts_in seat v at, h.1.takes_in seat v at)

pub forks : (seat : ℕ) (v : Log) → 1 < v.parts → Forks Ordered seat v (log (v.parts - 1) v.puts v.takes) (log 1 [] [])
forks seat v two items views h at =
    let r = h.1 in
    let l : Log = log (v.parts - 1) v.puts v.takes in
    let n : Log = log 1 [] [] in
    let vs : List Log = set views seat l in
    let Each : (F : Log → Type 0) → F l → F n → ((j : ℕ) (u : Log) → get_elem? views j ≡ some u → F u)
    → (j : ℕ) (u : Log) → get_elem? (vs ++ n ∷ []) j ≡ some u → F u =
    λ F mine new old j u e. ⊎_elim (λ (x : get_elem? vs j ≡ some u). all_set (λ _ (y : Log). F y) views seat l mine old
    j u x) (λ (x : n ≡ u). subst F x new) (at_snoc vs n u j e) in (
      h.0,
      record {
        parts = (let s = sum_set (λ u. u.parts) views seat v l at in let a = sum_by_push (λ u. u.parts) vs n in
            let p = r.parts in omega arith);
        puts_once = λ k. let s = sum_set (λ u. times k u.puts) views seat v l at in
            let a = sum_by_push (λ u. times k u.puts) vs n in let p = r.puts_once k in omega arith;
        takes_once = λ k. let s = sum_set (λ u. times k u.takes) views seat v l at in
            let a = sum_by_push (λ u. times k u.takes) vs n in let p = r.takes_once k in omega arith;
        puts_all = (let s = sum_set (λ u. length u.puts) views seat v l at in
            let a = sum_by_push (λ u. length u.puts) vs n in let p = r.puts_all in omega arith);
        takes_all = (let s = sum_set (λ u. length u.takes) views seat v l at in
            let a = sum_by_push (λ u. length u.takes) vs n in let p = r.takes_all in omega arith);
        puts_in = Each (λ u. StandsIn (h.0 ++ items) u.puts) (r.puts_in seat v at)
            (All-nil (λ (p : Numbered). slice_get (h.0 ++ items) p.number ≡ Some p.message)) r.puts_in;
        takes_in = Each (λ u. StandsIn h.0 u.takes) (r.takes_in seat v at)
            (All-nil (λ (p : Numbered). slice_get h.0 p.number ≡ Some p.message)) r.takes_in;
        idle = Each (λ u. u.parts ≡ 0 → (u.puts ≡ []) × (u.takes ≡ [])) (λ none. absurd (omega arith))
            (λ none. absurd (omega arith)) r.idle;
      },
    )

parts_none : (f : Log → ℕ) (views : List Log)
    → sum_by (λ u. u.parts) views ≡ 0 → ((j : ℕ) (u : Log) → get_elem? views j ≡ some u → u.parts ≡ 0 → f u ≡ 0)
    → sum_by f views ≡ 0
parts_none f [] none zeros = refl
parts_none f (x ∷ xs) none zeros =
    let all = sum_by-cons (λ (u : Log). u.parts) x xs in
    let rest = parts_none f xs (omega arith) (λ j u at. zeros (suc j) u at) in
    let here = zeros zero x refl (omega arith) in omega (arith, sum_by-cons f x xs)

part_within : (views : List Log) (seat : ℕ) (v : Log) → get_elem? views seat ≡ some v
    → v.parts ≤ sum_by (λ u. u.parts) views
part_within views seat v at = let r = at_place views seat v at in
    let below = get_or-le-sum_by (λ (u : Log). u.parts) views seat v r.0 in omega (arith, ap (λ (u : Log). u.parts) r.1)

-- who has every part knows every sum
pub only : (f : Log → ℕ) (views : List Log) (seat : ℕ) (v : Log) → get_elem? views seat ≡ some v
    → sum_by (λ u. u.parts) views ≡ v.parts → ((j : ℕ) (u : Log) → get_elem? views j ≡ some u → u.parts ≡ 0 → f u ≡ 0)
    → sum_by f views ≡ f v
only f [] seat v at all zeros = absurd (some-ne-none v (sym at))
only f (x ∷ xs) zero v at all zeros =
    let parts = sum_by-cons (λ (u : Log). u.parts) x xs in
    let same : x.parts ≡ v.parts = ap (λ (u : Log). u.parts) (some-injective x v at) in
    let same' : f x ≡ f v = ap f (some-injective x v at) in
    let rest = parts_none f xs (omega arith) (λ j u there. zeros (suc j) u there) in omega (arith, sum_by-cons f x xs)
only f (x ∷ xs) (suc k) v at all zeros =
    let parts = sum_by-cons (λ (u : Log). u.parts) x xs in
    let some_parts = part_within xs k v at in
    let here = zeros zero x refl (omega arith) in
    let rest = only f xs k v at (omega arith) (λ j u there. zeros (suc j) u there) in omega (arith, sum_by-cons f x xs)

-- what the owner of every part knows of what was put and taken
pub wholes : (seat : ℕ) (v : Log) → v.parts ≡ all_parts → Learns Ordered seat v (IsWhole v)
wholes seat v all items views h at =
    let r = h.1 in
    let sole : sum_by (λ u. u.parts) views ≡ v.parts = r.parts ∙ sym all in (
      h.0,
      record {
        puts_once = λ k.
            sym (only (λ u. times k u.puts) views seat v at sole
            (λ j u there none. ap (times k) (r.idle j u there none).0)) ∙ r.puts_once k;
        takes_once =
            λ k. sym (only (λ u. times k u.takes) views seat v at sole
            (λ j u there none. ap (times k) (r.idle j u there none).1)) ∙ r.takes_once k;
        put = sym (only (λ u. length u.puts) views seat v at sole
            (λ j u there none. ap length (r.idle j u there none).0)) ∙ r.puts_all;
        taken = sym (only (λ u. length u.takes) views seat v at sole
            (λ j u there none. ap length (r.idle j u there none).1)) ∙ r.takes_all;
        puts_in = r.puts_in seat v at;
        takes_in = r.takes_in seat v at;
      },
    )

-- the owner of every part takes under the next number
pub takes_next : (seat : ℕ) (v : Log)
    → v.parts ≡ all_parts → Pops Ordered seat v
    (λ m w. w ≡ log v.parts v.puts (v.takes ++ numbered (length v.takes) m ∷ []))
unfolding takes
takes_next seat v all m items views h at =
    let r = h.1 in
    let sole : sum_by (λ u. u.parts) views ≡ v.parts = r.parts ∙ sym all in
    let count : length v.takes ≡ length h.0 =
    sym (only (λ u. length u.takes) views seat v at sole (λ j u there none. ap length (r.idle j u there none).1))
    ∙ r.takes_all in
    let step = takes seat v (omega arith) m items views h at in
    (step.0, step.1, ap (λ (n : ℕ). log v.parts v.puts (v.takes ++ numbered n m ∷ [])) (sym count))

pub merges : (seat : ℕ) (v : Log) (other : ℕ) (u : Log)
    → Merges Ordered seat v other u (log (v.parts + u.parts) (v.puts ++ u.puts) (v.takes ++ u.takes)) (log 0 [] [])
merges seat v other u items views h at two at' =
    let r = h.1 in
    let both : Log = log (v.parts + u.parts) (v.puts ++ u.puts) (v.takes ++ u.takes) in
    let spent : Log = log 0 [] [] in
    let vs : List Log = set views seat both in
    let was : get_elem? views other ≡ some u = ⊎_elim (λ (x : (other ≡ seat) × (both ≡ u)). absurd (two x.0))
    (λ (x : (other ≢ seat) × (get_elem? views other ≡ some u)). x.1) (at_set views seat other both u at') in
    let Each : (F : Log → Type 0) → F both → F spent → ((j : ℕ) (w : Log) → get_elem? views j ≡ some w → F w)
    → (j : ℕ) (w : Log) → get_elem? (set vs other spent) j ≡ some w → F w =
    λ F mine new old j w e. all_set (λ _ (y : Log). F y) vs other spent new
    (λ j' w' e'. all_set (λ _ (y : Log). F y) views seat both mine old j' w' e') j w e in
    let Sum : (f : Log → ℕ) → f both ≡ f v + f u → f spent ≡ 0 → sum_by f (set vs other spent) ≡ sum_by f views =
    λ f adds none. let s = sum_set f views seat v both at in let s' = sum_set f vs other u spent at' in omega arith in (
      h.0,
      record {
        parts = Sum (λ w. w.parts) refl refl ∙ r.parts;
        puts_once = λ k. Sum (λ w. times k w.puts) (times-append k v.puts u.puts) refl ∙ r.puts_once k;
        takes_once = λ k. Sum (λ w. times k w.takes) (times-append k v.takes u.takes) refl ∙ r.takes_once k;
        puts_all = Sum (λ w. length w.puts) (length-append v.puts u.puts) refl ∙ r.puts_all;
        takes_all = Sum (λ w. length w.takes) (length-append v.takes u.takes) refl ∙ r.takes_all;
        puts_in = Each (λ w. StandsIn (h.0 ++ items) w.puts)
            (All-append (λ (p : Numbered). slice_get (h.0 ++ items) p.number ≡ Some p.message) v.puts u.puts
            (r.puts_in seat v at) (r.puts_in other u was))
            (All-nil (λ (p : Numbered). slice_get (h.0 ++ items) p.number ≡ Some p.message)) r.puts_in;
        takes_in = Each (λ w. StandsIn h.0 w.takes)
            (All-append (λ (p : Numbered). slice_get h.0 p.number ≡ Some p.message) v.takes u.takes
            (r.takes_in seat v at) (r.takes_in other u was))
            (All-nil (λ (p : Numbered). slice_get h.0 p.number ≡ Some p.message)) r.takes_in;
        idle = Each (λ w. w.parts ≡ 0 → (w.puts ≡ []) × (w.takes ≡ []))
            (λ none. let a = r.idle seat v at (omega arith) in let b = r.idle other u was (omega arith) in
            (cc (a.0, b.0, append-nil v.puts), cc (a.1, b.1, append-nil v.takes)))
            (λ _. (refl, refl)) r.idle;
      },
    )

-- no pass has more parts than there are
pub parts_most : (seat : ℕ) (v : Log) → Learns Ordered seat v (λ items. v.parts ≤ all_parts)
parts_most seat v items views h at = let p = h.1.parts in omega (arith, part_within views seat v at)

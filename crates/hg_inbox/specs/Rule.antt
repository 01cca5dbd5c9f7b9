-- The rule of the inbox: its puts are numbered from 0, and so are its takes.
use Rattle.std.specs.Prelude.{◌≡◌, ℕ, ◌+◌, ◌<◌, ◌==◌, nat_lt, cond, List, [], ◌∷◌, ◌++◌, length, Some, slice_get}
use Rattle.std.specs.Prelude.{All, AllPairs, sum_by, count_by}
use mathlib.Core.Option.{some}
use lib.ListN.{get_elem?}
use Rattle.hg_inbox.specs.declared.rule.Log.{Log}
use Rattle.hg_inbox.specs.Limits.{all_parts}
use Rattle.hg_inbox.specs.declared.rule.Numbered.{Numbered}

abbrev pub log : ℕ → List Numbered → List Numbered → Log
log parts puts takes = record { parts = parts; puts = puts; takes = takes }

abbrev pub numbered : ℕ → List ℕ → Numbered
numbered n m = record { number = n; message = m }

-- how often the number stands in the list
abbrev pub times : ℕ → List Numbered → ℕ
times k ps = count_by (λ p. k == p.number) ps

-- 1 below n, and 0 from there on
abbrev pub once_below : ℕ → ℕ → ℕ
once_below k n = cond (nat_lt k n) 1 0

-- each message stands in q at its number
abbrev pub StandsIn : List (List ℕ) → List Numbered → Type 0
StandsIn q ps = All (λ p. slice_get q p.number ≡ Some p.message) ps

-- q was put in all, and t taken. Each number of q was put by one seat, and each of t taken by one
pub record IsOrdered (items : List (List ℕ)) (views : List Log) (t : List (List ℕ)) : Type 0 where
  pub parts : sum_by (λ v. v.parts) views ≡ all_parts
  pub puts_once : (k : ℕ) → sum_by (λ v. times k v.puts) views ≡ once_below k (length (t ++ items))
  pub takes_once : (k : ℕ) → sum_by (λ v. times k v.takes) views ≡ once_below k (length t)
  pub puts_all : sum_by (λ v. length v.puts) views ≡ length (t ++ items)
  pub takes_all : sum_by (λ v. length v.takes) views ≡ length t
  pub puts_in : (seat : ℕ) (v : Log) → get_elem? views seat ≡ some v → StandsIn (t ++ items) v.puts
  pub takes_in : (seat : ℕ) (v : Log) → get_elem? views seat ≡ some v → StandsIn t v.takes
  pub idle : (seat : ℕ) (v : Log) → get_elem? views seat ≡ some v → v.parts ≡ 0 → (v.puts ≡ []) × (v.takes ≡ [])

abbrev pub Ordered : List (List ℕ) → List Log → Type 0
Ordered items views = (t : List (List ℕ)) × IsOrdered items views t

-- a put adds the message under a number above those of the pass's other puts
abbrev pub Put : Log → List ℕ → Log → Type 0
Put v m w = (n : ℕ) × (w ≡ log v.parts (v.puts ++ numbered n m ∷ []) v.takes) × All (λ p. p.number < n) v.puts

-- so does a take
abbrev pub Taken : Log → List ℕ → Log → Type 0
Taken v m w = (n : ℕ) × (w ≡ log v.parts v.puts (v.takes ++ numbered n m ∷ [])) × All (λ p. p.number < n) v.takes

-- these puts and takes stand in what was taken and then what the inbox holds, the takes in what was taken
abbrev pub Agrees : List Numbered → List Numbered → List (List ℕ) → Type 0
Agrees puts takes items = (t : List (List ℕ)) × StandsIn (t ++ items) puts × StandsIn t takes

-- t was taken of what was put, and the inbox holds the rest. Each number was put once, and taken once at most
pub record IsWholeAt (v : Log) (items : List (List ℕ)) (t : List (List ℕ)) : Type 0 where
  pub puts_once : (k : ℕ) → times k v.puts ≡ once_below k (length (t ++ items))
  pub takes_once : (k : ℕ) → times k v.takes ≡ once_below k (length t)
  pub put : length v.puts ≡ length (t ++ items)
  pub taken : length v.takes ≡ length t
  pub puts_in : StandsIn (t ++ items) v.puts
  pub takes_in : StandsIn t v.takes

abbrev pub IsWhole : Log → List (List ℕ) → Type 0
IsWhole v items = (t : List (List ℕ)) × IsWholeAt v items t

-- the messages under the numbers from n on
abbrev pub numbered_from : ℕ → List (List ℕ) → List Numbered
numbered_from n [] = []
numbered_from n (m ∷ ms) = numbered n m ∷ numbered_from (n + 1) ms

-- the numbers ascend
abbrev pub Ascends : List Numbered → Type 0
Ascends ps = AllPairs (λ p q. p.number < q.number) ps

-- What callers see of an inbox and of its seats.
use Rattle.std.specs.Prelude.{◌≡◌, ℕ, ◌<◌, List, [], ◌∷◌, ◌++◌, All, flat_map}
use Rattle.std.specs.List.Sorted.{IsPermutation}
use Rattle.atomic_table.specs.Seated.{TableId}
use Rattle.hg_inbox.specs.declared.rule.Numbered.{Numbered}
use Rattle.hg_inbox.specs.Rule.{numbered, numbered_from, Ascends}

-- which inbox the seat is of, and what it has put and taken, each message under its number
pub record SeatLog : Type 0 where
  pub inbox : TableId
  pub puts : List Numbered
  pub takes : List Numbered

-- the inbox's own name, how many messages it may hold, and how many seats were made
pub record InboxState : Type 0 where
  pub name : TableId
  pub capacity : ℕ
  pub seats : ℕ

abbrev pub seat_log : TableId → List Numbered → List Numbered → SeatLog
seat_log z puts takes = record { inbox = z; puts = puts; takes = takes }

abbrev pub inbox_state : TableId → ℕ → ℕ → InboxState
inbox_state z capacity seats = record { name = z; capacity = capacity; seats = seats }

-- the message has a number above those of the seat's other puts
abbrev pub AddsPut : SeatLog → List ℕ → SeatLog → Type 0
AddsPut v m w = (n : ℕ) × (w ≡ seat_log v.inbox (v.puts ++ numbered n m ∷ []) v.takes) × All (λ p. p.number < n) v.puts

-- the message has a number above those of the seat's other takes
abbrev pub AddsTake : SeatLog → List ℕ → SeatLog → Type 0
AddsTake v m w = (n : ℕ) × (w ≡ seat_log v.inbox v.puts (v.takes ++ numbered n m ∷ []))
    × All (λ p. p.number < n) v.takes

-- the puts of all the seats
abbrev pub all_puts : List SeatLog → List Numbered
all_puts seats = flat_map (λ s. s.puts) seats

-- the takes of all the seats
abbrev pub all_takes : List SeatLog → List Numbered
all_takes seats = flat_map (λ s. s.takes) seats

-- t was taken and the rest is left: numbered from 0, t and then the rest is what the seats put, and t is what they took
pub record IsRestAfter (t : List (List ℕ)) (seats : List SeatLog) (rest : List (List ℕ)) : Type 0 where
  pub puts : IsPermutation (all_puts seats) (numbered_from 0 (t ++ rest))
  pub takes : IsPermutation (all_takes seats) (numbered_from 0 t)

abbrev pub IsRest : List SeatLog → List (List ℕ) → Type 0
IsRest seats rest = (t : List (List ℕ)) × IsRestAfter t seats rest

-- the numbers of each seat's puts ascend, and those of its takes
abbrev pub EachAscends : List SeatLog → Type 0
EachAscends seats = All (λ s. Ascends s.puts × Ascends s.takes) seats

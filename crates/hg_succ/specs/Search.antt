-- How far a search has come, and what is so of it all the time.
use Rattle.std.specs.Prelude.{◌≡◌, ℕ, ◌+◌, ◌*◌, ◌<◌, ◌≤◌, ◌⊎◌, Bool, List, [], ◌∷◌, ◌++◌, length, take, slice_get}
use Rattle.std.specs.Prelude.{slice_set, sum, Contains}
use Rattle.hg_succ.specs.declared.search.Progress.{Progress}
use Rattle.hg_succ.specs.declared.search.Progress.TheVariants.{New, Waiting, Done}
use Rattle.hg_succ.specs.declared.search.Closed.{Closed}
use Rattle.hg_succ.specs.declared.search.Search.{Search}
use Rattle.hg_succ.specs.Steps.{Reaches}
use Rattle.hg_succ.specs.Rows.{At, Edge, IsOrder, StandsBefore}

pub record SearchState : Type 0 where
  -- how many of the first edges of each node aren't followed yet
  pub left : List ℕ
  pub marks : List Progress
  -- the nodes that were met and aren't closed, in the order in which they were met
  pub waiting : List ℕ
  -- the places there of the nodes from which the search still goes on
  pub path : List ℕ
  -- the places there at which a part begins
  pub starts : List ℕ
  pub order : List Closed

abbrev pub state_of : Search → SearchState
state_of s =
    record {
      left = s.left.items;
      marks = s.marks.items;
      waiting = s.waiting.items;
      path = s.path.items;
      starts =
          s.starts.items;
      order = s.order.items;
    }

abbrev pub EndsWith : List ℕ → ℕ → Type 0
EndsWith xs x = (front : List ℕ) × (xs ≡ front ++ x ∷ [])

abbrev pub IsAscending : List ℕ → Type 0
IsAscending xs = (i j a b : ℕ) → i < j → At xs i a → At xs j b → a < b

-- no part begins after p up to q
abbrev pub AreJoined : List ℕ → ℕ → ℕ → Type 0
AreJoined starts p q = (b : ℕ) → Contains starts b → (b ≤ p) ⊎ (q < b)

-- an edge from the node that waits at p to y needs no more thought
abbrev pub IsAccounted : SearchState → ℕ → ℕ → Type 0
IsAccounted s p y = At s.marks y Done ⊎ ((q : ℕ) × At s.waiting q y × AreJoined s.starts q p)

abbrev pub IsListed : List Closed → ℕ → Type 0
IsListed order x = StandsBefore order (length order) x

pub record IsSearch (rows : List (List ℕ)) (s : SearchState) : Type 0 where
  pub left_long : length s.left ≡ length rows
  pub marks_long : length s.marks ≡ length rows
  pub met : (p x : ℕ) → At s.waiting p x → At s.marks x (Waiting p)
  pub waits : (p x : ℕ) → At s.marks x (Waiting p) → At s.waiting p x
  pub listed : (x : ℕ) → At s.marks x Done → IsListed s.order x
  pub fresh : (x : ℕ) (row : List ℕ) → At s.marks x New → At rows x row → At s.left x (length row)
  pub bounded : (x l : ℕ) (row : List ℕ) → At s.left x l → At rows x row → l ≤ length row
  -- a node that the search has left has no more edges to follow
  pub all_followed : (p x : ℕ) → At s.waiting p x → Contains s.path p ⊎ At s.left x 0
  pub followed : (p x l e y : ℕ) (row : List ℕ) → At s.waiting p x → At s.left x l → At rows x row → l ≤ e → At row e y
      → IsAccounted s p y
  pub path_up : IsAscending s.path
  pub path_in : (p : ℕ) → Contains s.path p → p < length s.waiting
  pub starts_up : IsAscending s.starts
  pub starts_in : (b : ℕ) → Contains s.starts b → Contains s.path b
  pub first : 0 < length s.waiting → Contains s.starts 0
  -- each waiting node leads to those that were met after it, and within a part back
  pub onward : (p q x y : ℕ) → p ≤ q → At s.waiting p x → At s.waiting q y → Reaches (Edge rows) x y
  pub back : (p q x y : ℕ) → AreJoined s.starts p q → p ≤ q → At s.waiting p x → At s.waiting q y
      → Reaches (Edge rows) y x
  pub closed : (x y : ℕ) → At s.marks x Done → Edge rows x y → At s.marks y Done
  pub order : IsOrder rows s.order

-- the last node of the path waits at this place
pub record IsAtEnd (s : SearchState) (place node : ℕ) : Type 0 where
  pub last : EndsWith s.path place
  pub waits : At s.waiting place node

-- the node is met: it waits, on the path, as a part of its own
abbrev pub entered : ℕ → SearchState → SearchState
entered node s = record s {
  marks = slice_set s.marks node (Waiting (length s.waiting));
  waiting = s.waiting ++ node ∷ [];
  path = s.path ++ length s.waiting ∷ [];
  starts = s.starts ++ length s.waiting ∷ [];
}

-- all starts after the place are taken away
pub record KeepsUpTo (place : ℕ) (old new : List ℕ) : Type 0 where
  pub first : (more : List ℕ) × (old ≡ new ++ more) × ((b : ℕ) → Contains more b → place < b)
  pub last : (b : ℕ) → EndsWith new b → b ≤ place

-- the nodes that wait from the place on are closed
pub record Closes (place : ℕ) (cyclic : Bool) (old new : SearchState) : Type 0 where
  pub left : new.left ≡ old.left
  pub waiting : new.waiting ≡ take place old.waiting
  pub path : new.path ≡ old.path
  pub starts : new.starts ≡ old.starts
  pub marks_long : length new.marks ≡ length old.marks
  pub done : (p x : ℕ) → place ≤ p → At old.waiting p x → At new.marks x Done
  pub others : (x : ℕ) → ((p : ℕ) → place ≤ p → ¬ (At old.waiting p x)) → slice_get new.marks x ≡ slice_get old.marks x
  pub from : (x : ℕ) (m : Progress) → At new.marks x m → ((m ≡ Done) × (p : ℕ) × (place ≤ p) × At old.waiting p x)
      ⊎ At old.marks x m
  pub more : (more : List Closed) × (new.order ≡ old.order ++ more)
      × ((k : ℕ) (e : Closed) → At more k e → (e.cyclic ≡ cyclic) × (p : ℕ) × (place ≤ p) × At old.waiting p e.node)
  pub listed : (p x : ℕ) → place ≤ p → At old.waiting p x → IsListed new.order x

-- how much is left to do
abbrev pub work : SearchState → ℕ
work s = 2 * sum s.left + length s.path

-- a node that is met comes from the end of the path, or is the first of all
abbrev pub CanEnter : List (List ℕ) → SearchState → ℕ → Type 0
CanEnter rows s y = (s.waiting ≡ []) ⊎ ((t u : ℕ) × IsAtEnd s t u × Edge rows u y)

-- the search goes along an edge to a node with this mark
abbrev pub GoesTo : Progress → ℕ → SearchState → SearchState → Type 0
GoesTo New node old new = new ≡ entered node old
GoesTo (Waiting place) node old new = KeepsUpTo place old.starts new.starts × (new ≡ record old { starts = new.starts })
GoesTo Done node old new = new ≡ old

-- the last node that waits is closed
pub record ClosesLast (cyclic : Bool) (old new : SearchState) : Type 0 where
  pub node : ℕ
  pub left : new.left ≡ old.left
  pub waiting : old.waiting ≡ new.waiting ++ node ∷ []
  pub path : new.path ≡ old.path
  pub starts : new.starts ≡ old.starts
  pub marks : new.marks ≡ slice_set old.marks node Done
  pub order : new.order ≡ old.order ++ record { node = node; cyclic = cyclic } ∷ []

-- the part from the place on is on cycles
abbrev pub IsCyclicPart : List (List ℕ) → List ℕ → ℕ → ℕ → Type 0
IsCyclicPart rows waiting place node = (place + 1 < length waiting) ⊎ Edge rows node node

-- nothing new is new
abbrev pub StaysMet : List Progress → List Progress → Type 0
StaysMet old new = (x : ℕ) → At new x New → At old x New

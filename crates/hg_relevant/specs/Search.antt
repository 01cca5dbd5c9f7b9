-- What a search for markers has found.
use Rattle.std.specs.Prelude.{◌≡◌, ◌<◌, ◌↔◌, ◌⊎◌, ◌++◌, ◌==◌, ℕ, Bool, true, false, List, length, Contains, Some}
use Rattle.std.specs.Prelude.{slice_get}
use Rattle.std.specs.List.{slice_index_or, IsDistinct}
use Rattle.hg_changeset.specs.declared.node.Node.{Node}
use Rattle.hg_marker.specs.Fields.{Fields}
use Rattle.hg_obsstore.specs.Markers.{IsAt}
use Rattle.hg_relevant.specs.declared.search.Search.{Search}
use Rattle.hg_relevant.specs.Relevant.{IsRelevant, Touches}

-- the place is marked
abbrev pub IsMarked : List Bool → ℕ → Type 0
IsMarked marks i = slice_index_or marks i false ≡ true

-- the marker at the place was found
abbrev pub IsFound : Search → ℕ → Type 0
IsFound s i = IsMarked s.found.items i

-- what touches the predecessor of the marker at the place was found
abbrev pub IsExpanded : Search → ℕ → Type 0
IsExpanded s i = IsMarked s.expanded.items i

-- the queue has each place that was found once
pub record IsQueued (s : Search) : Type 0 where
  pub exact : (i : ℕ) → Contains s.queue.items i ↔ IsFound s i
  pub distinct : IsDistinct ◌==◌ s.queue.items

-- From old to new exactly these places were found, and what was new among them was queued, behind what was queued
-- before.
pub record Finds (P : ℕ → Type 0) (old new : Search) : Type 0 where
  pub found : (i : ℕ) → IsFound new i ↔ (IsFound old i ⊎ P i)
  pub kept : (more : List ℕ) × (new.queue.items ≡ old.queue.items ++ more)
  pub queued : IsQueued old → IsQueued new
  pub expanded : new.expanded.items ≡ old.expanded.items
  pub marks : length new.found.items ≡ length old.found.items

-- From old to new what touches the node was found, and this is noted at the markers with this predecessor.
pub record Expands (ms : List Fields) (node : Node) (old new : Search) : Type 0 where
  pub found : (i : ℕ) → IsFound new i ↔ (IsFound old i ⊎ IsAt (Touches node) ms i)
  pub kept : (more : List ℕ) × (new.queue.items ≡ old.queue.items ++ more)
  pub queued : IsQueued old → IsQueued new
  pub expanded : (i : ℕ) → IsExpanded new i ↔ (IsExpanded old i ⊎ IsAt (λ m. m.predecessor ≡ node) ms i)
  pub marks : length new.found.items ≡ length old.found.items
  pub expanded_marks : length new.expanded.items ≡ length old.expanded.items

-- From old to new what touches the predecessor of the marker at the place was found, if it wasn't.
abbrev pub ExpandsPredecessor : List Fields → ℕ → Search → Search → Type 0
ExpandsPredecessor ms place old new = (IsExpanded old place × (new ≡ old))
    ⊎ IsAt (λ m. Expands ms m.predecessor old new) ms place

-- What touches one of these nodes was found, and what touches the predecessor of one of the first i markers in the
-- queue:
-- all of it is relevant to the nodes.
pub record IsSearched (ms : List Fields) (nodes : List Node) (done : List Node) (s : Search) (i : ℕ) : Type 0 where
  pub marks : length s.found.items ≡ length ms
  pub expanded_marks : length s.expanded.items ≡ length ms
  pub sound : (k : ℕ) → IsFound s k → IsAt (IsRelevant (Contains ms) (Contains nodes)) ms k
  pub queued : IsQueued s
  pub named : (n : Node) (k : ℕ) → Contains done n → IsAt (Touches n) ms k → IsFound s k
  pub expanded : (j k : ℕ) (m : Fields) → IsExpanded s j → slice_get ms j ≡ Some m → IsAt (Touches m.predecessor) ms k
      → IsFound s k
  pub closed : (j k : ℕ) → j < i → slice_get s.queue.items j ≡ Some k → IsExpanded s k

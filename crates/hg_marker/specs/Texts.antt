-- The texts of a marker's metadata, as a finite map from keys to values, both byte strings.
use Rattle.std.specs.Prelude.{ℕ, List, map}
use Rattle.std.specs.Borrow.{Bor}
use Rattle.std.specs.Ordering.{nat_cmp}
use Rattle.std.specs.Cmp.Lexicographic.{slice_cmp}
use Rattle.std.specs.declared.cmp.Ordering.{Ordering}
use Rattle.std.specs.declared.vec.Vec.{Vec}
use Rattle.std.specs.declared.alloc.Global.{Global}
use Rattle.std.specs.FinMap.{FinMap}

-- keys are ordered as byte strings
abbrev pub bytes_cmp : List ℕ → List ℕ → Ordering
bytes_cmp = slice_cmp nat_cmp

-- the value of each key that is there
abbrev pub Texts : Type 0
Texts = FinMap bytes_cmp (List ℕ)

-- the entries without where they lie in memory
abbrev pub entry_bytes : List (Vec ℕ Global × Vec ℕ Global) → List (List ℕ × List ℕ)
entry_bytes es = map (λ e. (e.0.items, e.1.items)) es

-- an entry that was lent
abbrev pub entry_seen : Bor (List ℕ) × Bor (List ℕ) → List ℕ × List ℕ
entry_seen e = (e.0.now, e.1.now)

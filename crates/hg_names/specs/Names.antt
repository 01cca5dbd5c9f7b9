-- Names of a script, and what each stands for.
use Rattle.std.specs.Prelude.{ℕ, ◌≡◌, ◌+◌, List, Option, Some, is_some, if◌then◌else◌}
use denote.Bor.{Bor}
use Rattle.std.specs.declared.vec.Vec.{Vec}
use Rattle.std.specs.declared.alloc.Global.{Global}
use Rattle.std.specs.BTreeMap.{BTreeMap, get_by, btree_map_len}
use Rattle.std.specs.Cmp.Lexicographic.{slice_cmp}
use Rattle.std.specs.Ordering.{nat_cmp}
use Rattle.std.specs.List.{IsDistinct}
use Rattle.std.specs.Map.{update}
use Rattle.std.specs.Str.{bytes_eq}

module _ {V : Type 0} where
  -- what the name stands for, if it is bound
  abbrev pub value_of : BTreeMap (Vec ℕ Global) V → List ℕ → Option V
  value_of names name = get_by (λ k. slice_cmp nat_cmp name k.items) names

  -- each name stands for what it did
  abbrev pub AreSameNames : BTreeMap (Vec ℕ Global) V → BTreeMap (Vec ℕ Global) V → Type 0
  AreSameNames old new = (name : List ℕ) → value_of new name ≡ value_of old name

  -- the name stands for the value, and each other for what it did; a name that is new is one more
  pub record Binds (old : BTreeMap (Vec ℕ Global) V) (name : List ℕ) (value : V)
      (new : BTreeMap (Vec ℕ Global) V) : Type 0 where
    pub values : (other : List ℕ) → value_of new other ≡ update bytes_eq (value_of old) name (Some value) other
    pub count : btree_map_len new ≡ btree_map_len old + (if is_some (value_of old name) then 0 else 1)

-- no text comes twice among the names
abbrev pub AreDistinct : List (Bor (List ℕ)) → Type 0
AreDistinct names = IsDistinct (λ v w. bytes_eq v.now w.now) names

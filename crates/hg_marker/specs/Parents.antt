-- The parents that a marker records of its predecessor, by its metadata.
use Rattle.std.specs.Prelude.{List, [], ◌∷◌, Option, Some, None, ℕ, Bool, ◌||◌, codes}
use Rattle.std.specs.Str.{bytes_eq}
use Rattle.std.specs.Option.{option_and_then}
use Rattle.std.specs.List.{list_any}
use Rattle.std.specs.FinMap.{entries, get}
use Rattle.hg_changeset.specs.declared.node.Node.{Node}
use Rattle.hg_changeset.specs.Node.{id_value}
use Rattle.hg_marker.specs.declared.parents.Parents.{Parents}
use Rattle.hg_marker.specs.declared.parents.Parents.TheVariants.{Unrecorded, Empty, One, Two}
use Rattle.hg_marker.specs.Texts.{Texts}
use Rattle.hg_marker.specs.Fields.{Fields}

-- one parent, where its text is an id
abbrev pub one_parent : Option Node → Parents
one_parent (Some p) = One p
one_parent None = Unrecorded

-- two parents, where both texts are ids
abbrev pub two_parents : Option Node → Option Node → Parents
two_parents (Some p) (Some q) = Two p q
two_parents (Some p) None = Unrecorded
two_parents None q = Unrecorded

-- by the values of the keys `p0`, `p1` and `p2`, where they are there: the first line that applies
abbrev pub parents_by : Option (List ℕ) → Option (List ℕ) → Option (List ℕ) → Parents
parents_by p0 p1 (Some p2) = two_parents (option_and_then id_value p1) (id_value p2)
parents_by p0 (Some p1) None = one_parent (id_value p1)
parents_by (Some p0) None None = Empty
parents_by None None None = Unrecorded

-- a key that says something of parents
abbrev pub is_parents_key : List ℕ → Bool
is_parents_key key = bytes_eq key (codes "p0") || bytes_eq key (codes "p1") || bytes_eq key (codes "p2")

-- the metadata has such a key
abbrev pub names_parents : Texts → Bool
names_parents texts = list_any (λ e. is_parents_key e.0) (entries texts)

-- the parents that the metadata records
abbrev pub parents_of : Texts → Parents
parents_of texts = parents_by (get texts (codes "p0")) (get texts (codes "p1")) (get texts (codes "p2"))

-- the ids among them
abbrev pub listed : Parents → List Node
listed Unrecorded = []
listed Empty = []
listed (One p) = p ∷ []
listed (Two p q) = p ∷ q ∷ []

-- the recorded parents of a marker
abbrev pub recorded_parents : Fields → List Node
recorded_parents m = listed (parents_of m.metadata)

-- What an amend makes of a content, and lists of ids in which one id stands for another.
use Rattle.std.specs.Prelude.{◌≡◌, ◌≢◌, ◌⊎◌, ◌↔◌, List, [], ◌∷◌, Contains}
use Rattle.hg_changeset.specs.declared.node.Node.{Node}
use Rattle.hg_marker.specs.Fields.{Fields}
use Rattle.hg_history.specs.Content.{IsHeld}
use Rattle.hg_replica.specs.Content.{Content}
use Rattle.hg_replica.specs.Evolution.{IsMarker, IsPredecessor}

-- g is f after p was amended to x: f holds p, which no marker rewrote, and doesn't know of x. Then g holds x as well,
-- and the fresh marker, which rewrote p to x alone. Of other ids and markers they hold the same.
pub record IsAmended (p x : Node) (fresh : Fields) (f g : Content) : Type 0 where
  pub held_before : IsHeld f.0 p
  pub not_rewritten : ¬ (IsPredecessor f p)
  pub not_held : ¬ (IsHeld f.0 x)
  pub not_known : (m : Fields) → IsMarker f m → (m.predecessor ≢ x) × ¬ (Contains m.successors x)
  pub held : IsHeld g.0 x
  pub others : (n : Node) → n ≢ x → IsHeld f.0 n ↔ IsHeld g.0 n
  pub predecessor : fresh.predecessor ≡ p
  pub successors : fresh.successors ≡ x ∷ []
  pub markers : (m : Fields) → IsMarker g m ↔ (IsMarker f m ⊎ (m ≡ fresh))

-- b is x where a is p, and otherwise b is a, which isn't x
abbrev pub IsRenamed : Node → Node → Node → Node → Type 0
IsRenamed p x a b = ((a ≡ p) × (b ≡ x)) ⊎ ((a ≢ p) × (a ≢ x) × (a ≡ b))

-- each of the first is R to one of the second, and one of the first is R to each of the second
abbrev pub AreMatched : (Node → Node → Type 0) → List Node → List Node → Type 0
AreMatched R as' bs = ((a : Node) → Contains as' a → (b : Node) × Contains bs b × R a b)
    × ((b : Node) → Contains bs b → (a : Node) × Contains as' a × R a b)

-- the second has what the first has, with x in the place of p
abbrev pub AreRenamed : Node → Node → List Node → List Node → Type 0
AreRenamed p x as' bs = AreMatched (IsRenamed p x) as' bs

-- What pins uphold, as a kept replica keeps it: what is pinned, and its ancestors down to the public ones. What of that
-- is obsolete, now or later, stays in view.
use Rattle.std.specs.Prelude.{◌≡◌, ◌++◌, ◌⊎◌, ℕ, List, Contains, take}
use Rattle.hg_changeset.specs.declared.node.Node.{Node}
use Rattle.hg_history.specs.Content.{IsHeld}
use Rattle.hg_replica.specs.Content.{Content}
use Rattle.hg_replica.specs.Evolution.{IsMutable}
use Rattle.hg_instab.specs.Local.{IsParentOf}

-- it is a parent of one of them
abbrev pub HasChildAmong : Content → List Node → Node → Type 0
HasChildAmong f ns n = (c : Node) × Contains ns c × IsParentOf f n c

-- what is pinned is held; what is upheld is held, and pinned or a parent of what is upheld; and upheld is each
-- changeset that isn't public and is pinned or a parent of what is upheld
pub record AreUpheld (f : Content) (pins upheld : List Node) : Type 0 where
  pub pinned : (n : Node) → Contains pins n → IsHeld f.0 n
  pub held : (n : Node) → Contains upheld n → IsHeld f.0 n
  pub stands : (n : Node) → Contains upheld n → Contains pins n ⊎ HasChildAmong f upheld n
  pub begun : (n : Node) → Contains pins n → IsMutable f n → Contains upheld n
  pub closed : (n : Node) → HasChildAmong f upheld n → IsMutable f n → Contains upheld n

-- none of the first is among the second
abbrev pub AreDisjoint : List Node → List Node → Type 0
AreDisjoint ms ns = (n : Node) → Contains ms n → ¬ (Contains ns n)

-- a parent of it that isn't public
abbrev pub IsMutableParent : Content → Node → Node → Type 0
IsMutableParent f c n = IsParentOf f n c × IsMutable f n

-- on the way from the upheld ones to those of more pins: the old ones come first, and of the first i the parents are
-- there
pub record IsUpholding (f : Content) (pins old now : List Node) (i : ℕ) : Type 0 where
  pub kept : (more : List Node) × (now ≡ old ++ more)
  pub held : (n : Node) → Contains now n → IsHeld f.0 n
  pub stands : (n : Node) → Contains now n → Contains pins n ⊎ HasChildAmong f now n
  pub begun : (n : Node) → Contains pins n → IsMutable f n → Contains now n
  pub closed : (n c : Node) → Contains (take i now) c → IsMutableParent f c n → Contains now n

-- The one written text of roots.
use Rattle.std.specs.Prelude.{◌≡◌, ℕ, List, [], ◌∷◌, ◌++◌, map, Contains, Some, ◌↔◌}
use Rattle.std.specs.List.{flat_map}
use Rattle.std.specs.List.Sorted.{IsStrictlySortedBy}
use Rattle.hex.specs.Hex.{encode_lower}
use Rattle.hg_changeset.specs.declared.node.Node.{Node}
use Rattle.hg_changeset.specs.Bytes.{line_feed, space}
use Rattle.hg_changeset.specs.Node.{node_cmp, id_value}
use Rattle.hg_phases.specs.declared.phase.Phase.{Phase}
use Rattle.hg_phases.specs.declared.phase.Phase.TheVariants.{Public, Draft, Secret}
use Rattle.hg_phaseroots.specs.Reading.{Root}

-- the nodes that are listed with this phase, ascending, each once
pub record AreListed (roots : List Root) (phase : Phase) (nodes : List Node) : Type 0 where
  pub ascending : IsStrictlySortedBy node_cmp nodes
  pub same : (n : Node) → Contains nodes n ↔ Contains roots (phase, n)

-- the roots in their order: draft ones, then secret ones, each in ascending order of nodes and once; none is public
pub record AreInOrder (roots sorted : List Root) : Type 0 where
  pub drafts : List Node
  pub secrets : List Node
  pub draft : AreListed roots Draft drafts
  pub secret : AreListed roots Secret secrets
  pub all : sorted ≡ map (λ n. (Draft, n)) drafts ++ map (λ n. (Secret, n)) secrets

-- the digit of a phase
abbrev pub digit_of : Phase → ℕ
digit_of Public = 48
digit_of Draft = 49
digit_of Secret = 50

-- the digit, a space, the id in lower case and a line feed
abbrev pub line_of : Root → List ℕ
line_of root = digit_of root.0 ∷ space ∷ encode_lower root.1.0 ++ line_feed ∷ []

-- the text of roots that stand in this order
abbrev pub text_of : List Root → List ℕ
text_of sorted = flat_map line_of sorted

-- the text of the roots, whatever their order
abbrev pub IsWritten : List Root → List ℕ → Type 0
IsWritten roots text = (sorted : List Root) × AreInOrder roots sorted × (text ≡ text_of sorted)

-- the digits of the id are read as the id
abbrev pub IsSpelled : Node → Type 0
IsSpelled n = id_value (encode_lower n.0) ≡ Some n

-- Lines of changesets.
use Rattle.std.specs.Prelude.{◌≡◌, ◌↔◌, ◌++◌, ◌∷◌, [], List, Contains}
use Rattle.hg_changeset.specs.declared.node.Node.{Node}
use Rattle.hg_log.specs.Drawings.{HasId, IsLine, Text}
use Rattle.hg_trial.specs.declared.moved.Moved.{Moved}

-- a line with the changeset's short id
abbrev pub IsLineOf : Node → Text → Type 0
IsLineOf n text = (line : Text) × HasId n line × IsLine line text

-- a line for each of the changesets, in their order
abbrev pub AreLinesOf : List Node → Text → Type 0
AreLinesOf [] text = text ≡ []
AreLinesOf (n ∷ ns) text =
    (first : Text) × (others : Text) × IsLineOf n first × AreLinesOf ns others × (text ≡ first ++ others)

-- lines for exactly these changesets, in some order
abbrev pub HasLinesOf : List Node → Text → Type 0
HasLinesOf set text = (ns : List Node) × ((n : Node) → Contains ns n ↔ Contains set n) × AreLinesOf ns text

-- lines for what came, and then for what went
abbrev pub IsMovedText : Moved → Text → Type 0
IsMovedText moved text =
    (came : Text) × (went : Text) × HasLinesOf moved.came.keys came × HasLinesOf moved.went.keys went
    × (text ≡ came ++ went)

-- The line that tells what became of a changeset.
use Rattle.std.specs.Prelude.{◌++◌, ◌⊎◌, [], ◌∷◌, List, codes, false}
use Rattle.hg_changeset.specs.declared.node.Node.{Node}
use Rattle.hg_history.specs.Content.{IsHeld}
use Rattle.hg_replica.specs.Content.{Content}
use Rattle.hg_replica.specs.Evolution.{IsPredecessor}
use Rattle.hg_succ.specs.declared.sets.Sets.{Sets}
use Rattle.hg_succ.specs.declared.sets.Sets.TheVariants.{Family, Overfull}
use Rattle.hg_succ.specs.Answer.{AreSets, sets_of}
use Rattle.hg_log.specs.Drawings.{IsLine, Text}
use Rattle.hg_log.specs.Json.{divided}
use Rattle.hg_log.specs.Titles.{escaped}
use Rattle.hg_why.specs.Names.{name_of}

-- held, or the predecessor of a marker that is
abbrev pub IsKnown : Content → Node → Type 0
IsKnown f n = IsHeld f.0 n ⊎ IsPredecessor f n

-- ---- texts, where changesets are called so

-- a set in braces, with blanks between its changesets
abbrev pub set_text : (Node → Text) → List Node → Text
set_text called set = codes "{" ++ divided false (codes " ") called set ++ codes "}"

-- each set, in their order, or that none is left
abbrev pub family_text : (Node → Text) → List (List Node) → Text
family_text called [] = codes "pruned"
family_text called (set ∷ sets) = divided false (codes " or ") (set_text called) (set ∷ sets)

abbrev pub sets_text : (Node → Text) → Sets → Text
sets_text called (Family family) = family_text called (sets_of family.items)
sets_text called Overfull = codes "too many to tell"

-- of what, and at which node
abbrev pub heading_text : Text → Text → Text
heading_text label name = codes "fate of " ++ escaped label ++ codes " at " ++ name ++ codes ": "

abbrev pub fate_line : (Node → Text) → Text → Text → Sets → Text
fate_line called label name sets = heading_text label name ++ sets_text called sets

-- the line of exactly the successors sets that the changeset has there, each changeset by what it is called there
abbrev pub IsFateLine : Content → Text → Text → Node → Text → Type 0
IsFateLine f label name n text =
    (sets : Sets) × AreSets f n sets × IsLine (fate_line (name_of f) label name sets) text

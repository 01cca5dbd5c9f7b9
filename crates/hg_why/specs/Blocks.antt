-- What is written of the unstable changesets of a replica.
use Rattle.std.specs.Prelude.{ℕ, zero, suc, ◌≡◌, ◌⊎◌, ◌++◌, [], List, codes, length}
use Rattle.hg_changeset.specs.declared.node.Node.{Node}
use Rattle.hg_phases.specs.State.{changesets}
use Rattle.hg_replica.specs.Content.{content_of}
use Rattle.hg_view.specs.Kept.{KeptValue}
use Rattle.hg_log.specs.Drawings.{ArePieces, HasId, IsDrawnText, IsLine, StandsAt, Text}
use Rattle.hg_log.specs.Kinds.{IsUnstable}
use Rattle.hg_why.specs.declared.reason.Reason.{Reason}
use Rattle.hg_why.specs.declared.reason.Reason.TheVariants.{Orphan, PhaseDivergent, ContentDivergent}
use Rattle.hg_why.specs.Causes.{AreReasons}

-- the changeset stands at the place, and is unstable
abbrev pub IsUnstableAt : KeptValue → ℕ → Node → Type 0
IsUnstableAt kept place n = StandsAt kept place n × IsUnstable (content_of kept.replica) n

-- lines of which the first has the short id of a changeset, or nothing
abbrev pub AreLinesOf : Node → Text → Type 0
AreLinesOf n text = (text ≡ []) ⊎ IsDrawnText n text

-- the lines of a reason: the first has the short id of the parent, or of what precedes. There is none where earlier
-- reasons tell all successors sets of that
abbrev pub IsReasonText : Reason → Text → Type 0
IsReasonText (Orphan p is_obsolete) text = IsDrawnText p text
IsReasonText (PhaseDivergent p) text = IsDrawnText p text
IsReasonText (ContentDivergent p sets) text = AreLinesOf p text

-- a line with the short id of the changeset, and the lines of these reasons
abbrev pub IsBlockOf : Node → List Reason → Text → Type 0
IsBlockOf n reasons text =
    (line : Text) × (first : Text) × (below : Text) × HasId n line × IsLine line first
    × ArePieces IsReasonText reasons below × (text ≡ first ++ below)

-- the block of a place: that of the unstable changeset there, with all its reasons, and nothing where there is none
abbrev pub IsBlockAt : KeptValue → ℕ → Text → Type 0
IsBlockAt kept place text =
    ((n : Node) × (reasons : List Reason) × IsUnstableAt kept place n × AreReasons (content_of kept.replica) n reasons
    × IsBlockOf n reasons text)
    ⊎ ((¬ ((n : Node) × IsUnstableAt kept place n)) × (text ≡ []))

-- the blocks of so many places from the first on, one after the other
abbrev pub AreBlocks : KeptValue → ℕ → Text → Type 0
AreBlocks kept zero text = text ≡ []
AreBlocks kept (suc place) text =
    (before : Text) × (here : Text) × AreBlocks kept place before × IsBlockAt kept place here
    × (text ≡ before ++ here)

-- a line with what the replica is called, and the blocks of all places
abbrev pub IsWhy : Text → KeptValue → Text → Type 0
IsWhy name kept text =
    (heading : Text) × (blocks : Text) × IsLine (codes "why " ++ name) heading
    × AreBlocks kept (length (changesets kept.replica.history)) blocks × (text ≡ heading ++ blocks)

-- What is drawn, or told, of a node.
use Rattle.std.specs.Prelude.{◌≡◌, ◌==◌, ◌++◌, ◌∷◌, ◌||◌, [], Bool, codes, if◌then◌else◌, length, nat_eq}
use Rattle.std.specs.List.{ends_with}
use Rattle.hg_log.specs.Drawings.{AreAllDrawn, Text}
use Rattle.hg_view.specs.Kept.{KeptValue}
use Rattle.hg_why.specs.Blocks.{IsWhy}
use Rattle.hgfleet.specs.declared.drawing.Drawing.{Drawing}
use Rattle.hgfleet.specs.declared.drawing.Drawing.TheVariants.{Log, Why}

abbrev pub log_heading : Text → Text
log_heading name = codes "log " ++ name ++ 10 ∷ []

-- the history below a line with the node's name
abbrev pub IsHistory : Bool → Text → KeptValue → Text → Type 0
IsHistory shows_hidden name kept text =
    (history : Text) × AreAllDrawn kept shows_hidden history × (text ≡ log_heading name ++ history)

-- a history, or why changesets are unstable
abbrev pub IsDrawing : Drawing → Text → KeptValue → Text → Type 0
IsDrawing (Log look) name kept text = IsHistory look.shows_hidden name kept text
IsDrawing (Why remedy) name kept text = IsWhy name kept text

-- what stands between a drawing and the next: an empty line, where the first isn't empty and doesn't end with one; why
-- changesets are unstable follows at once
abbrev pub gap_behind : Drawing → Text → Text
gap_behind (Log look) before =
    if (length before == 0) || ends_with nat_eq before (codes "\n\n") then [] else 10 ∷ []
gap_behind (Why remedy) before = []

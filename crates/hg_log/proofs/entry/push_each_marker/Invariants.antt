use Rattle.std.proofs.Common.{false, take}
use Rattle.std.specs.Prelude.{codes}
use Rattle.hg_obsstore.specs.Places.{picked}
use Rattle.hg_log.specs.Entries.{marker_text}
use Rattle.hg_log.specs.Json.{AreDivided}
use Rattle.hg_log.proofs.entry.push_each_marker.Given as goal

abbrev pub invariant-loop-place : goal.invariant-loop-place
invariant-loop-place l =
    AreDivided false (codes ", ") marker_text (picked l.store (take l.place-index l.places)) l.initial.line.items
    l.line.items l.is_behind

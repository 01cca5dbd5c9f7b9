use Rattle.hg_preview.specs.Comparisons.{IsInOtherPhaseAt}
use Rattle.hg_preview.proofs.ComparisonLemmas.{AreLinesWritten}
use Rattle.hg_preview.proofs.comparison.write_phases.Given as goal

-- the lines of the places so far are written
abbrev pub invariant-loop-place : goal.invariant-loop-place
invariant-loop-place g l =
    AreLinesWritten (IsInOtherPhaseAt l.first.kept.now l.second.kept.now) l.place (g.W.Write.contents l.initial.writer)
    (g.W.Write.contents l.writer)

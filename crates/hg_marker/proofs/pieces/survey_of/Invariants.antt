use Rattle.std.proofs.Common.{length, option_copied}
use Rattle.hg_marker.proofs.SurveyLemmas.{IsSurveyed}
use Rattle.hg_marker.proofs.pieces.survey_of.Given as goal

abbrev pub invariant-loop-piece : goal.invariant-loop-piece
invariant-loop-piece l = IsSurveyed l.bytes l.rest (option_copied l.last) l.len l.ascends l.names_parents

abbrev pub decreases-loop-piece : goal.decreases-loop-piece
decreases-loop-piece l = length l.rest

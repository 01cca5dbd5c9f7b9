use Rattle.std.proofs.Common.{option_copied, arith}
use Rattle.hg_marker.proofs.SurveyLemmas.{one_surveyed, all_surveyed}
use Rattle.hg_marker.proofs.pieces.survey_of.Goals as goal

pub loop-piece-preserved : goal.loop-piece-preserved
loop-piece-preserved c =
    let walk = c.loop-piece in
    rw (c.is_behind.ensures, c.is_parents_key.ensures)
    (one_surveyed c.args.bytes.now walk.rest.now c.in-Some.piece.now c.in-Some.after.now (option_copied walk.last)
    walk.len walk.ascends walk.names_parents c.in-Some.ensures.some walk.invariant c.in-Some-key_of.ensures.some.1
    c.in-Some-key_of.key.now c.in-Some-key_of.ensures.some.0 c.saturating_add-len.result
    (omega (arith, c.saturating_add-len.ensures)))

pub returns-then-ascends-clause-some : goal.returns-then-ascends-clause-some
returns-then-ascends-clause-some c =
    let walk = c.loop-piece in
    let found = all_surveyed c.args.bytes.now walk.rest.now (option_copied walk.last) walk.len walk.ascends
    walk.names_parents (omega arith) c.in_default.ensures.none walk.invariant c.is_whole.result c.is_whole.ensures in
    rw c.if-ascends.true at found

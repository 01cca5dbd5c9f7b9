use Rattle.std.proofs.Common.{◌∙◌, sym}
use Rattle.std.proofs.lemmas.Bool.{eqb-true}
use Rattle.hg_marker.proofs.PiecesLemmas.{keeps, is_read}
use Rattle.hg_marker.proofs.pieces.read_texts.Goals as goal

pub returns : goal.returns
returns c = is_read c.args.bytes.now c.loop-rest.rest.now c.loop-rest.texts
    (eqb-true _ _ (sym c.is_empty.ensures ∙ c.loop-rest-test.false)) c.loop-rest.invariant

pub loop-rest-preserved-in_ok-insert : goal.loop-rest-preserved-in_ok-insert
loop-rest-preserved-in_ok-insert c =
    rw c.in_ok-insert.ensures.ok
    (keeps c.args.bytes.now c.loop-rest.rest.now c.next_piece.result.0.now c.next_piece.result.1.now
    c.loop-rest.texts _ _
    (sym c.is_empty-in-loop-rest.ensures ∙ c.if-not-is_empty.true)
    c.split_piece.ensures
    c.next_piece.ensures.pieces c.loop-rest.invariant)

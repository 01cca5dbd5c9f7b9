use Rattle.std.proofs.Common.{sym, ◌∙◌, ◌+◌, ◌-◌, length, drop, arith}
use Rattle.std.proofs.lemmas.List.{take_all, length-drop}
use Rattle.hg_marker.proofs.PiecesLemmas.{first_piece, last_piece}
use Rattle.hg_marker.proofs.pieces.next_piece.Goals as goal

pub returns-in-Some-clause-pieces : goal.returns-in-Some-clause-pieces
returns-in-Some-clause-pieces c =
    rw (take_all (length c.args.bytes.now - (c.in-Some.place + 1)) (drop (c.in-Some.place + 1) c.args.bytes.now)
    (omega (arith, length-drop (c.in-Some.place + 1) c.args.bytes.now)))
    (first_piece c.args.bytes.now c.in-Some.place (sym c.place_of.ensures ∙ c.in-Some.is))

pub returns-in-None-clause-pieces : goal.returns-in-None-clause-pieces
returns-in-None-clause-pieces c = last_piece c.args.bytes.now (sym c.place_of.ensures ∙ c.in-None.is)

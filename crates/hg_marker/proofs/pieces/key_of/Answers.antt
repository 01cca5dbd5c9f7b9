use Rattle.std.proofs.Common.{ap, sym, ◌∙◌}
use Rattle.hg_marker.proofs.PiecesLemmas.{has_some, lacks_none, split_there}
use Rattle.hg_marker.proofs.pieces.key_of.Goals as goal

pub returns-in-Some-clause-some : goal.returns-in-Some-clause-some
returns-in-Some-clause-some c =
    let at = sym c.place_of.ensures ∙ c.in-Some.is in
    (ap (λ e. e.0) (split_there c.args.piece.now c.in-Some.place at), has_some c.args.piece.now c.in-Some.place at)

pub returns-in-None-clause-none : goal.returns-in-None-clause-none
returns-in-None-clause-none c = lacks_none c.args.piece.now (sym c.place_of.ensures ∙ c.in-None.is)

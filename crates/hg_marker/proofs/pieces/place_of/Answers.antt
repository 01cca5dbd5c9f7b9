use Rattle.std.proofs.Common.{}
use Rattle.hg_marker.proofs.PiecesLemmas.{first_is_position}
use Rattle.hg_marker.proofs.pieces.place_of.Goals as goal

pub returns : goal.returns
returns c = first_is_position c.args.wanted c.args.bytes.now c.memchr.result c.memchr.ensures

use Rattle.hg_marker.proofs.PiecesLemmas.{first_is_position}
use Rattle.hg_expect.proofs.lines.end_of_line.Goals as goal

pub returns : goal.returns
returns c = first_is_position 10 c.args.text.now c.memchr.result c.memchr.ensures

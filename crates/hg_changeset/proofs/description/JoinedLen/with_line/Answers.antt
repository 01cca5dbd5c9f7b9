use Rattle.std.proofs.Common.{◌<◌, length, arith}
use Rattle.hg_changeset.proofs.LengthLemmas.{line_front, line_ends_len}
use Rattle.hg_changeset.proofs.description.JoinedLen.with_line.Goals as goal

pub returns : goal.returns
returns c = λ text line long plain measured.
    let some : 0 < length line = omega (arith, long, c.if-len-eq0.false) in (
      omega (arith, c.saturating_add-joined.ensures, measured.0, long, line_front text line some plain),
      omega (arith, c.saturating_add-joined.ensures, measured.0, long, line_ends_len text line some plain),
    )

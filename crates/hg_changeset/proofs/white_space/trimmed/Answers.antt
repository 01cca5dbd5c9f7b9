use Rattle.std.proofs.Common.{arith}
use Rattle.std.proofs.lemmas.List.Sums.{prefix_len-le-length}
use Rattle.hg_changeset.specs.WhiteSpace.{cut_bytes, is_one_of}
use Rattle.hg_changeset.proofs.white_space.trimmed.Goals as goal

pub slice_bounds-trimmed_end-start : goal.slice_bounds-trimmed_end-start
slice_bounds-trimmed_end-start c =
    omega (arith, c.front_len.ensures, prefix_len-le-length (is_one_of (cut_bytes c.args.cut)) c.args.bytes.now)

pub slice_bounds-trimmed_end-count : goal.slice_bounds-trimmed_end-count
slice_bounds-trimmed_end-count c =
    omega (arith, c.front_len.ensures, prefix_len-le-length (is_one_of (cut_bytes c.args.cut)) c.args.bytes.now)

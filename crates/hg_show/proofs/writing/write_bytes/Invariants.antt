use Rattle.std.proofs.Common.{◌≡◌, ◌<◌, ℕ, List, ◌++◌}
use Rattle.std.specs.Io.KnownBytes.{Appends}
use Rattle.std.specs.Slice.Iter.{chunks_rest, chunks_size}
use Rattle.hg_show.proofs.writing.write_bytes.Given as goal

-- what is written, and what is left
abbrev pub invariant-loop-piece : goal.invariant-loop-piece
invariant-loop-piece g l =
    (0 < chunks_size l.piece-iterator)
    × ((done : List ℕ) × Appends (g.W.Write.contents l.initial.writer) (g.W.Write.contents l.writer) done
    × (done ++ chunks_rest l.piece-iterator ≡ l.fn.bytes))
